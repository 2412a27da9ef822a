-- The values so far are scaled, and the others are as they were.
use Rattle.std.proofs.Common.{◌≡◌, ℕ, ◌<◌, ◌≤◌}
use Rattle.hpe_base.specs.Sizes.{number_at}
use Rattle.hpe_base.specs.SoftValues.{scaled}
use Rattle.hpe_turn.proofs.extrinsic.shrink.Given as goal

abbrev pub invariant-loop-value : goal.invariant-loop-value
invariant-loop-value l = record {
  done : (k : ℕ) → k < l.value-index → number_at l.values k ≡ scaled l.scale (number_at l.initial.values k);
  rest : (k : ℕ) → l.value-index ≤ k → number_at l.values k ≡ number_at l.initial.values k;
}
