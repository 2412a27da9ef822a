-- A step back over a stage from its best edges.
use Rattle.std.proofs.Common.{◌≡◌, ℕ, zero, suc, ◌+◌, ◌-◌, ◌*◌, ◌/◌, ◌%◌, ◌^◌, ◌<◌, ◌≤◌, ⊎_elim, inl, inr, sym, ◌∙◌, ap, ap₂, subst, arith, ℤ, pos, ◌+ℤ◌, ◌-ℤ◌, ◌≤ℤ◌, List, [], ◌∷◌, length, get_or, to_z, of_z, w32, lit≤}
use Rattle.std.specs.Int.{int_max}
use Rattle.std.proofs.lemmas.Int.{ints}
use Rattle.hpe_base.specs.Greatest.{IsGreatest}
use Rattle.hpe_base.specs.Sizes.{number_at, Within}
use Rattle.hpe_base.proofs.Greatest.{IsGreatest-join, max_cases}
use Rattle.hpe_lane.specs.Edges.{gray_from, HasParity}
use Rattle.hpe_lane.specs.Parts.{AreBestEdges, part_sum, joint_edge, joint_part, stage_edge}
use Rattle.hpe_lane.specs.Stages.{IsStage}
use Rattle.hpe_lane.proofs.BestEdges.{best_within, low_edge, high_edge, low_or_high, four_ends, edge_sizes, sum_is, less_is}
use Rattle.hpe_lane.proofs.DifferingBits.{gray-turned, list_within}
use Rattle.hpe_lane.proofs.Sizes.{wider}
use Rattle.hpe_lane.proofs.Sums.{after_top, parity_of_one}

-- the symbols of m bits with the first bit f and the last bit b
abbrev pub InHalf : ℕ → ℕ → ℕ → ℕ → Type 0
InHalf m f b v = (v < 2 ^ m) × ((v / 2 ^ (m - 1) ≡ f) × (v % 2 ≡ b))

-- ---- the best edges of state 1

-- scores that are changed, where more stays more
IsGreatest-moved : {A : Type 0} {P : A → Type 0} {f g : A → ℤ} {t : ℤ} (move : ℤ → ℤ) → ((x y : ℤ) → x ≤ℤ y → move x ≤ℤ move y)
    → ((x : A) → P x → g x ≡ move (f x)) → IsGreatest P f t → IsGreatest P g (move t)
IsGreatest-moved {A} {P} {f} {g} {t} move more is h = record {
  reached = (h.reached.0, (h.reached.1.0, is h.reached.0 h.reached.1.0 ∙ ap move h.reached.1.1));
  bound = λ x p. subst (λ (z : ℤ). z ≤ℤ move t) (sym (is x p)) (more (f x) t (h.bound x p));
}

sum_more : (d x y : ℤ) → x ≤ℤ y → (x +ℤ d) ≤ℤ (y +ℤ d)
sum_more d x y h = omega (arith, ints)

less_more : (d x y : ℤ) → x ≤ℤ y → (x -ℤ d) ≤ℤ (y -ℤ d)
less_more d x y h = omega (arith, ints)

swapped : (x y : ℤ) → x +ℤ y ≡ y +ℤ x
swapped x y = omega (arith, ints)

low_best : (counts : List ℕ) (l : List ℤ) (b : ℕ) (z : ℤ) → 1 ≤ length l → IsGreatest (InHalf (length l) 0 b) (stage_edge counts l 0) z → IsGreatest (InHalf (length l) 0 b) (stage_edge counts l 1) (z +ℤ number_at l 0)
low_best counts l b z some g =
    IsGreatest-moved (λ (y : ℤ). y +ℤ number_at l 0) (sum_more (number_at l 0)) (λ v p. low_edge counts l v some p.1.0 ∙ swapped (number_at l 0) (stage_edge counts l 0 v)) g

high_best : (counts : List ℕ) (l : List ℤ) (b : ℕ) (z : ℤ) → 1 ≤ length l → IsGreatest (InHalf (length l) 1 b) (stage_edge counts l 0) z → IsGreatest (InHalf (length l) 1 b) (stage_edge counts l 1) (z -ℤ number_at l 0)
high_best counts l b z some g =
    IsGreatest-moved (λ (y : ℤ). y -ℤ number_at l 0) (less_more (number_at l 0)) (λ v p. high_edge counts l v some p.1.0) g

-- a sum and a difference, as the code has them
abbrev pub sum_of : ℤ → ℤ → ℤ
sum_of a x = to_z w32 (of_z w32 (to_z w32 (of_z w32 a) +ℤ to_z w32 (of_z w32 x)))

abbrev pub less_of : ℤ → ℤ → ℤ
less_of a x = to_z w32 (of_z w32 (to_z w32 (of_z w32 a) -ℤ to_z w32 (of_z w32 x)))

pub best_of_one : (counts : List ℕ) (l best : List ℤ) → IsStage counts l → AreBestEdges (length l) (stage_edge counts l 0) best
    → AreBestEdges (length l) (stage_edge counts l 1) (sum_of (number_at best 0) (number_at l 0) ∷ sum_of (number_at best 1) (number_at l 0) ∷ less_of (number_at best 2) (number_at l 0) ∷ less_of (number_at best 3) (number_at l 0) ∷ [])
best_of_one counts l best stage is =
    four_ends (λ (f b : ℕ) (z : ℤ). IsGreatest (InHalf (length l) f b) (stage_edge counts l 1) z) _ _ _ _
    (low 0 (omega arith)) (low 1 (omega arith)) (high 0 (omega arith)) (high 1 (omega arith))
  where
    small : (f b : ℕ) → f < 2 → b < 2 → Within 1099983617 (number_at best (2 * f + b))
    small f b lf lb = wider 147447 1099983617 (number_at best (2 * f + b)) (lit≤ tt) (best_within counts l best 0 stage is f b lf lb)

    low : (b : ℕ) → b < 2 → IsGreatest (InHalf (length l) 0 b) (stage_edge counts l 1) (sum_of (number_at best (2 * 0 + b)) (number_at l 0))
    low b lb =
        subst (IsGreatest (InHalf (length l) 0 b) (stage_edge counts l 1)) (sym (sum_is (number_at best (2 * 0 + b)) (number_at l 0) (small 0 b (omega arith) lb) (stage.within 0)))
        (low_best counts l b (number_at best (2 * 0 + b)) (let two = stage.few.0 in omega arith) (is 0 b (omega arith) lb))

    high : (b : ℕ) → b < 2 → IsGreatest (InHalf (length l) 1 b) (stage_edge counts l 1) (less_of (number_at best (2 * 1 + b)) (number_at l 0))
    high b lb =
        subst (IsGreatest (InHalf (length l) 1 b) (stage_edge counts l 1)) (sym (less_is (number_at best (2 * 1 + b)) (number_at l 0) (small 1 b (omega arith) lb) (stage.within 0)))
        (high_best counts l b (number_at best (2 * 1 + b)) (let two = stage.few.0 in omega arith) (is 1 b (omega arith) lb))

-- ---- the row before a stage

-- the best of both halves
both_halves : (m b : ℕ) (f : ℕ → ℤ) (x y : ℤ) → 2 ≤ m → IsGreatest (InHalf m 0 b) f x → IsGreatest (InHalf m 1 b) f y → IsGreatest (HasParity (2 ^ m) 1 b) f (int_max x y)
both_halves m b f x y two g h =
    IsGreatest-join (λ v p. (p.0, parity_of_one v ∙ p.1.1)) (λ v p. (p.0, parity_of_one v ∙ p.1.1))
    (λ v p. low_or_high _ m v two p.0 (λ q. inl (p.0, (q, sym (parity_of_one v) ∙ p.1))) (λ q. inr (p.0, (q, sym (parity_of_one v) ∙ p.1))))
    g h

-- what a state scores from the stage on, from its best edges
pub after_by_best : (m : ℕ) (edge : ℕ → ℤ) (best back : List ℤ) → 2 ≤ m → AreBestEdges m edge best
    → IsGreatest (λ (v : ℕ). v < 2 ^ m) (λ v. edge v +ℤ number_at back (v % 2))
    (int_max (number_at back 0 +ℤ int_max (number_at best 0) (number_at best 2)) (number_at back 1 +ℤ int_max (number_at best 1) (number_at best 3)))
after_by_best m edge best back two is =
    after_top edge back (2 ^ m) _ _
    (both_halves m 0 edge (number_at best 0) (number_at best 2) two (is 0 0 (omega arith) (omega arith)) (is 1 0 (omega arith) (omega arith)))
    (both_halves m 1 edge (number_at best 1) (number_at best 3) two (is 0 1 (omega arith) (omega arith)) (is 1 1 (omega arith) (omega arith)))

four_places : (P : ℤ → Type 0) (best : List ℤ) → ((f b : ℕ) → f < 2 → b < 2 → P (number_at best (2 * f + b))) → (i : ℕ) → i < 4 → P (number_at best i)
four_places P best each zero h = each 0 0 (omega arith) (omega arith)
four_places P best each (suc zero) h = each 0 1 (omega arith) (omega arith)
four_places P best each (suc (suc zero)) h = each 1 0 (omega arith) (omega arith)
four_places P best each (suc (suc (suc zero))) h = each 1 1 (omega arith) (omega arith)
four_places P best each (suc (suc (suc (suc i)))) h = absurd (omega arith)

-- the best edges as a row
pub best_row : (counts : List ℕ) (l best : List ℤ) (s : ℕ) → IsStage counts l → AreBestEdges (length l) (stage_edge counts l s) best → (i : ℕ) → i < 4 → Within 147447 (number_at best i)
best_row counts l best s stage is = four_places (Within 147447) best (best_within counts l best s stage is)

edge_is : (z : ℤ) → Within 147447 z → to_z w32 (of_z w32 z) ≡ z
edge_is z h = omega (arith, ints)

-- the greater of two edges, as the code has it
pub greater_edge : (x y r : ℤ) → Within 147447 x → Within 147447 y → r ≡ int_max (to_z w32 (of_z w32 x)) (to_z w32 (of_z w32 y)) → (r ≡ int_max x y) × Within 147447 r
greater_edge x y r h k e =
    let f : r ≡ int_max x y = e ∙ ap₂ int_max (edge_is x h) (edge_is y k) in
    (f, subst (Within 147447) (sym f) (⊎_elim (λ m. subst (Within 147447) (sym m) h) (λ m. subst (Within 147447) (sym m) k) (max_cases x y)))

-- ---- the edges of both states in parts

-- the scores of a block with their counts are within an edge's size
pub counted_within : (scores sums : List ℤ) (count : ℕ → ℕ) (at : ℕ → ℕ) → length scores ≡ 8 → ((i : ℕ) → count i ≤ 16383) → ((i : ℕ) → Within 131064 (number_at sums i))
    → ((j : ℕ) → j < 8 → number_at scores j ≡ pos (count j) +ℤ number_at sums (at j)) → (i : ℕ) → Within 147447 (number_at scores i)
counted_within scores sums count at long most small is =
    list_within 147447 scores (λ i h.
    subst (Within 147447) (sym (is i (omega arith))) (edge_sizes (count i) 8 (number_at sums (at i)) (most i) (lit≤ tt) (small (at i))))

twice_turned : (j : ℕ) → j < 8 → 7 - (7 - j) ≡ j
twice_turned j h = omega arith

same_end : (w j : ℕ) → j % 2 ≡ (8 * w + j) % 2
same_end w j = omega arith

mirror_place : (n w j : ℕ) → w < n → j < 8 → 8 * (n - 1 - w) + (7 - j) ≡ 8 * n - 1 - (8 * w + j)
mirror_place n w j h k = omega arith

-- place j of block w
pub joined_at : (counts : List ℕ) (blocks eight around0 around1 from0 from1 sums : List ℤ) (w j : ℕ) → length counts ≡ 8 * length blocks → w < length blocks → j < 8
    → ((i : ℕ) → i < 8 → number_at sums i ≡ part_sum blocks eight (8 * w + i))
    → ((i : ℕ) → i < 8 → number_at from0 i ≡ pos (get_or counts (8 * w + i) 0) +ℤ number_at sums i)
    → ((i : ℕ) → i < 8 → number_at from1 i ≡ pos (get_or counts (8 * (length blocks - 1 - w) + i) 0) +ℤ number_at sums (7 - i))
    → int_max (number_at around0 (j % 2) +ℤ number_at from0 j) (number_at around1 (j % 2) +ℤ number_at from1 (7 - j)) ≡ joint_part counts blocks eight around0 around1 (8 * w + j)
joined_at counts blocks eight around0 around1 from0 from1 sums w j long lw lj is is0 is1 =
    ap₂ int_max
    (ap₂ (λ (k : ℕ) (z : ℤ). number_at around0 k +ℤ z) (same_end w j) (is0 j lj ∙ ap (λ (z : ℤ). pos (get_or counts (8 * w + j) 0) +ℤ z) (is j lj)))
    (ap₂ (λ (k : ℕ) (z : ℤ). number_at around1 k +ℤ z) (same_end w j)
    (is1 (7 - j) (omega arith)
    ∙ ap₂ (λ (k : ℕ) (z : ℤ). pos (get_or counts k 0) +ℤ z)
    (mirror_place (length blocks) w j lw lj ∙ ap (λ (n : ℕ). n - 1 - (8 * w + j)) (sym long))
    (ap (number_at sums) (twice_turned j lj) ∙ is j lj)))

-- the edges in parts are those of the stage
pub joint_whole : (counts : List ℕ) (l blocks eight around0 around1 : List ℤ) (v : ℕ) → length counts ≡ 2 ^ length l → v < 2 ^ length l → part_sum blocks eight v ≡ gray_from 0 l v
    → joint_part counts blocks eight around0 around1 v ≡ joint_edge (2 ^ length l) (stage_edge counts l) around0 around1 v
joint_whole counts l blocks eight around0 around1 v long h sum =
    ap₂ (λ (x y : ℤ). int_max (number_at around0 (v % 2) +ℤ x) (number_at around1 (v % 2) +ℤ y))
    (ap (λ (z : ℤ). pos (get_or counts v 0) +ℤ z) sum)
    (ap₂ (λ (k : ℕ) (z : ℤ). pos (get_or counts k 0) +ℤ z) (ap (λ (n : ℕ). n - 1 - v) long) (sum ∙ sym (gray-turned 0 l v (omega arith) h)))
