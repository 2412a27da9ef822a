use Rattle.std.proofs.Common.{◌≡◌, ℕ, ◌-◌, ◌*◌, ◌<◌, ◌≤◌, length}
use Rattle.std.specs.Int.{int_max}
use Rattle.hpe_base.specs.Sizes.{number_at}
use Rattle.hpe_lane.proofs.fold.raise.Given as goal

abbrev pub invariant-loop-k : goal.invariant-loop-k
invariant-loop-k l = record {
  done : (v : ℕ) → v < 8 * l.k → number_at l.low v ≡ int_max (number_at l.fn.low v) (number_at l.high (length l.high - 1 - v));
  rest : (v : ℕ) → 8 * l.k ≤ v → number_at l.low v ≡ number_at l.fn.low v;
}

abbrev pub invariant-loop-v : goal.invariant-loop-v
invariant-loop-v l = record {
  done : (v : ℕ) → v < l.v → number_at l.low v ≡ int_max (number_at l.fn.low v) (number_at l.high (length l.high - 1 - v));
  rest : (v : ℕ) → l.v ≤ v → number_at l.low v ≡ number_at l.fn.low v;
}
