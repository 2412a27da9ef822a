use Rattle.std.proofs.Common.{◌≡◌, ℕ, ◌-◌, ◌<◌, ◌+ℤ◌, length}
use Rattle.hpe_base.specs.Sizes.{number_at}
use Rattle.hpe_lane.proofs.plain.mirror.Given as goal

abbrev pub invariant-loop-j : goal.invariant-loop-j
invariant-loop-j l = (j : ℕ) → j < l.j → number_at l.high j ≡ l.x +ℤ number_at l.low (length l.low - 1 - j)
