-- The values so far are differences, and the others are as they were.
use Rattle.std.proofs.Common.{◌≡◌, ℕ, ◌<◌, ◌≤◌, ◌-ℤ◌}
use Rattle.hpe_base.specs.Sizes.{number_at}
use Rattle.hpe_base.specs.SoftValues.{clamped}
use Rattle.hpe_turn.proofs.extrinsic.take_gains.Given as goal

abbrev pub invariant-loop-j : goal.invariant-loop-j
invariant-loop-j l = record {
  done : (k : ℕ) → k < l.j → number_at l.soft k ≡ clamped (number_at l.initial.soft k -ℤ number_at l.given k);
  rest : (k : ℕ) → l.j ≤ k → number_at l.soft k ≡ number_at l.initial.soft k;
}
