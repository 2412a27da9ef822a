use Rattle.std.proofs.Common.{◌≡◌, ◌<◌, ℕ}
use Rattle.hpe_base.specs.CodeInterleaver.{pi_inverse}
use Rattle.hpe_base.specs.Sizes.{number_at}
use Rattle.hpe_turn.proofs.inverse.InverseTable.deinterleave.Given as goal

abbrev pub invariant-loop-e : goal.invariant-loop-e
invariant-loop-e l = (k : ℕ) → k < l.e → number_at l.into k ≡ number_at l.from (pi_inverse k)
