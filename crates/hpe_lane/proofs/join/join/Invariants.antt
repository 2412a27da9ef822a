use Rattle.std.proofs.Common.{◌≡◌, ℕ, ◌-◌, ◌*◌, ◌%◌, ◌<◌, ◌+ℤ◌, length}
use Rattle.std.specs.Int.{int_max}
use Rattle.hpe_base.specs.Sizes.{number_at}
use Rattle.hpe_lane.proofs.join.join.Given as goal

abbrev pub invariant-loop-k : goal.invariant-loop-k
invariant-loop-k l = (v : ℕ) → v < 8 * l.k
    → number_at l.joint v ≡ int_max (number_at l.around0 (v % 2) +ℤ number_at l.from0 v) (number_at l.around1 (v % 2) +ℤ number_at l.from1 (length l.fn.joint - 1 - v))

abbrev pub invariant-loop-k-2 : goal.invariant-loop-k-2
invariant-loop-k-2 l = (v : ℕ) → v < 4 * l.k
    → number_at l.joint v ≡ int_max (number_at l.around0 (v % 2) +ℤ number_at l.from0 v) (number_at l.around1 (v % 2) +ℤ number_at l.from1 (length l.fn.joint - 1 - v))
