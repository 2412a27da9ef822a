use Rattle.std.proofs.Common.{ℕ, ◌<◌}
use Rattle.hpe_witness.specs.Potentials.{RisesAlong}
use Rattle.hpe_witness.proofs.check.rises_at.Given as goal

abbrev pub invariant-loop-state : goal.invariant-loop-state
invariant-loop-state l = (p x : ℕ) → p < l.state → x < 2 → RisesAlong l.row l.l l.next p x
