use Rattle.std.proofs.Common.{arith, ◌≡◌, ℕ, List, ℤ, ◌+ℤ◌, refl}
use Rattle.hpe_base.specs.Greatest.{IsSoft}
use Rattle.hpe_base.specs.Trellis.{IsEdge}
use Rattle.hpe_base.specs.Sizes.{number_at}
use Rattle.hpe_lane.specs.OuterStage.{soft_bit}
use Rattle.hpe_lane.specs.OuterSums.{chosen_after, turned_by}
use Rattle.hpe_lane.proofs.OuterFits.{soft_place}
use Rattle.hpe_lane.proofs.OuterEdges.{at_four, pick}
use Rattle.hpe_lane.proofs.outer.soft_values.Goals as goal

pub returns : goal.returns
returns c =
    let f : List ℤ = c.args.fore in
    let a : List ℤ = c.args.zero in
    let b : List ℤ = c.args.one in
    let r : List ℤ = c.differences_four.result in
    at_four (λ (k : ℕ). IsSoft (IsEdge 2 4) (λ (e : ℕ × ℕ). soft_bit k e.0 e.1) (λ e. number_at f e.0 +ℤ chosen_after a b e.0 e.1) (number_at r k))
    (soft_place f a b (turned_by 0 a b) (turned_by 0 b a) 0 (number_at r 0) (omega arith) c.requires.fore c.requires.zero c.requires.one
    (at_four (λ (p : ℕ). number_at (turned_by 0 b a) p ≡ chosen_after a b p (pick 0 1 p)) refl refl refl refl) (at_four (λ (p : ℕ). number_at (turned_by 0 a b) p ≡ chosen_after a b p (pick 0 0 p)) refl refl refl refl) (c.differences_four.ensures 0 (omega arith)))
    (soft_place f a b (turned_by 1 a b) (turned_by 1 b a) 1 (number_at r 1) (omega arith) c.requires.fore c.requires.zero c.requires.one
    (at_four (λ (p : ℕ). number_at (turned_by 1 b a) p ≡ chosen_after a b p (pick 1 1 p)) refl refl refl refl) (at_four (λ (p : ℕ). number_at (turned_by 1 a b) p ≡ chosen_after a b p (pick 1 0 p)) refl refl refl refl) (c.differences_four.ensures 1 (omega arith)))
    (soft_place f a b (turned_by 2 a b) (turned_by 2 b a) 2 (number_at r 2) (omega arith) c.requires.fore c.requires.zero c.requires.one
    (at_four (λ (p : ℕ). number_at (turned_by 2 b a) p ≡ chosen_after a b p (pick 2 1 p)) refl refl refl refl) (at_four (λ (p : ℕ). number_at (turned_by 2 a b) p ≡ chosen_after a b p (pick 2 0 p)) refl refl refl refl) (c.differences_four.ensures 2 (omega arith)))
    (soft_place f a b (turned_by 3 a b) (turned_by 3 b a) 3 (number_at r 3) (omega arith) c.requires.fore c.requires.zero c.requires.one
    (at_four (λ (p : ℕ). number_at (turned_by 3 b a) p ≡ chosen_after a b p (pick 3 1 p)) refl refl refl refl) (at_four (λ (p : ℕ). number_at (turned_by 3 a b) p ≡ chosen_after a b p (pick 3 0 p)) refl refl refl refl) (c.differences_four.ensures 3 (omega arith)))
