-- How contracts see the fields of a sender.
use Rattle.std.specs.Prelude.{ℕ, List, []}
use Rattle.std.specs.declared.option.Option.{Option}
use Rattle.hpe_base.specs.Parameters.{Parameters}
use Rattle.hpe_send.specs.Chaining.{HasTaken}
use Rattle.hpe_send.specs.declared.sender.Sender.TheInside.{Inside}

abbrev pub parameters : Inside → Parameters
parameters s = s.chain.coder.parameters

-- no octet went in
pub record IsNew (s : Inside) : Type 0 where
  pub stands : (start : Option (List ℕ)) → HasTaken s.chain [] start start
