-- A channel interleaver that holds no symbol past the order's positions.
use Rattle.std.specs.Prelude.{ℕ, ◌<◌, List, All}
use Rattle.hpe_base.specs.Parameters.{positions}
use Rattle.hpe_weave.specs.Weaving.{Weaving, HasWoven}

-- each symbol that was pushed is a pulse position
pub record IsWithin (w : Weaving) : Type 0 where
  pub pushed : List ℕ
  pub woven : HasWoven w pushed
  pub below : All (λ s. s < positions w.parameters.order) pushed
