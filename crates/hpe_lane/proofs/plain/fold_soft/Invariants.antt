use Rattle.std.proofs.Common.{◌≡◌, ℕ, ◌-◌, ◌^◌, ◌<◌, length}
use Rattle.hpe_base.specs.Greatest.{IsSoft}
use Rattle.hpe_base.specs.Sizes.{number_at}
use Rattle.hpe_lane.specs.Edges.{input_bit}
use Rattle.hpe_lane.specs.Folds.{Folded}
use Rattle.hpe_lane.proofs.plain.fold_soft.Given as goal

abbrev pub invariant-loop-i : goal.invariant-loop-i
invariant-loop-i l = record {
  size : l.size ≡ 2 ^ (length l.initial.out - l.i);
  folded : Folded (length l.initial.out) l.i (length l.initial.out - l.i) l.initial.scores l.scores;
  soft : (i : ℕ) → i < l.i → IsSoft (λ (v : ℕ). v < 2 ^ length l.initial.out) (input_bit (length l.initial.out) i 0) (number_at l.initial.scores) (number_at l.out i);
}
