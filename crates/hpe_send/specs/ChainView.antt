-- How contracts see the fields of the stages.
use Rattle.std.specs.Prelude.{◌≡◌}
use Rattle.hpe_send.specs.Chaining.{Chaining}
use Rattle.hpe_send.specs.declared.chain.Chain.TheInside.{Inside}

abbrev pub chaining : Inside → Chaining
chaining c = record { feed = c.feed; slicer = c.slicer; coder = c.coder }

pub record IsChaining (c : Inside) : Type 0 where
  pub feed : c.feed.parameters ≡ c.coder.parameters
  pub slicer : c.slicer.parameters ≡ c.coder.parameters
