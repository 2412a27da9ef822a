use Rattle.std.proofs.Common.{◌≡◌, ℕ, ◌-◌, ◌<◌, ◌≤◌, length}
use Rattle.std.specs.Int.{int_max}
use Rattle.hpe_base.specs.Sizes.{number_at}
use Rattle.hpe_lane.proofs.plain.raise.Given as goal

abbrev pub invariant-loop-v : goal.invariant-loop-v
invariant-loop-v l = record {
  done : (v : ℕ) → v < l.v → number_at l.low v ≡ int_max (number_at l.initial.low v) (number_at l.high (length l.high - 1 - v));
  rest : (v : ℕ) → l.v ≤ v → number_at l.low v ≡ number_at l.initial.low v;
}
