-- The best edges of a stage, by the first and the last bit of the symbol.
use Rattle.std.proofs.Common.{◌≡◌, ℕ, zero, suc, ◌+◌, ◌-◌, ◌*◌, ◌/◌, ◌%◌, ◌^◌, ◌<◌, ◌≤◌, ⊎_elim, inl, inr, sym, ◌∙◌, ap, ap₂, subst, refl, arith, ℤ, pos, ◌+ℤ◌, ◌-ℤ◌, ◌≤ℤ◌, List, [], ◌∷◌, length, get_or, to_z, of_z, w32, FitsSigned, cond, rules, lit≤}
use Rattle.std.specs.Prelude.{nat_eq}
use Rattle.std.specs.Int.{int_max}
use Rattle.std.proofs.lemmas.Bool.{cases_lt}
use Rattle.std.proofs.lemmas.Int.{ints}
use Rattle.std.proofs.lemmas.Nat.{div-mul-add}
use Rattle.std.proofs.Math.Nat.{two-pow-succ}
use Rattle.std.proofs.Math.Pow.{pow_mono, pow_pos}
use Rattle.hpe_base.specs.Greatest.{IsGreatest}
use Rattle.hpe_base.specs.Sizes.{number_at, Within, AllWithin}
use Rattle.hpe_base.specs.Trellis.{IsEdge}
use Rattle.hpe_base.proofs.Greatest.{IsGreatest-carry, IsGreatest-join, IsGreatest-single, IsGreatest-widen, max_left, max_right, max_cases}
use Rattle.hpe_lane.specs.Edges.{gray_from}
use Rattle.hpe_lane.specs.Parts.{AreBestEdges, AreParts, stage_edge}
use Rattle.hpe_lane.specs.Stages.{IsStage}
use Rattle.hpe_lane.proofs.Sums.{IsGreatest-within}
use Rattle.hpe_lane.proofs.DifferingBits.{gray-within}
use Rattle.hpe_lane.proofs.EndBests.{InLane8, IsEnd, ends_join}
use Rattle.hpe_lane.proofs.GrayParts.{eights_of}
use Rattle.hpe_lane.proofs.OneLane.{ends_of}
use Rattle.hpe_lane.proofs.Sizes.{wider}

-- ---- lanes of blocks

pub first_lane : (f : ℕ → ℤ) (i : ℕ) (z : ℤ) → i < 8 → z ≡ f i → IsGreatest (InLane8 1 i) f z
first_lane f i z h e =
    subst (IsGreatest (InLane8 1 i) f) (sym e)
    (IsGreatest-widen (λ v e. (omega arith, omega arith)) (λ v p. omega (arith, p.0, p.1)) (IsGreatest-single f i))

pub parts_are : (counts : List ℕ) (blocks eight : List ℤ) (m : ℕ) → 4 ≤ m → length counts ≡ 2 ^ m → length blocks ≡ 2 ^ (m - 3) → length eight ≡ 8
    → ((v : ℕ) → get_or counts v 0 ≤ 16383) → AllWithin 81915 blocks → AllWithin 49149 eight → AreParts counts blocks eight
parts_are counts blocks eight m h lc lb le most small small_eight = record {
  long = let e = eights_of m (omega arith) in omega arith;
  eight_long = le;
  most = most;
  small = small;
  small_eight = small_eight;
}

half_below : (f h x : ℕ) → f < 2 → x < h → f * h + x < h + h
half_below zero h x lf lx = omega arith
half_below (suc zero) h x lf lx = omega arith
half_below (suc (suc f)) h x lf lx = absurd (omega arith)

half_even : (f h x : ℕ) → f < 2 → h % 2 ≡ 0 → (f * h + x) % 2 ≡ x % 2
half_even zero h x lf e = omega arith
half_even (suc zero) h x lf e = omega arith
half_even (suc (suc f)) h x lf e = absurd (omega arith)

half_back : (f h y : ℕ) → 0 < h → y / h ≡ f → (f * h ≤ y) × (y - f * h < h)
half_back f h y up e =
    let a : ℕ = y / h in
    let split : y ≡ a * h + y % h = omega arith in
    let small : y % h < h = omega arith in
    subst (λ (k : ℕ). (k * h ≤ y) × (y - k * h < h)) e (omega arith, omega arith)

pub halves_of : (m : ℕ) → 2 ≤ m → (2 ^ m ≡ 2 ^ (m - 1) + 2 ^ (m - 1)) × (2 ^ (m - 1) % 2 ≡ 0)
halves_of m h =
    let e : suc (m - 1) ≡ m = omega arith in
    let f : suc (m - 2) ≡ m - 1 = omega arith in
    let d : 2 ^ (m - 1) ≡ 2 ^ (m - 2) + 2 ^ (m - 2) = ap (λ (k : ℕ). 2 ^ k) (sym f) ∙ two-pow-succ (m - 2) in
    (ap (λ (k : ℕ). 2 ^ k) (sym e) ∙ two-pow-succ (m - 1), omega arith)

pub eighth : (m n : ℕ) → 4 ≤ m → m ≤ 8 → n ≡ 2 ^ m → (n / 8 ≡ 2 ^ (m - 3)) × (n / 8 ≤ 32)
eighth m n h l e =
    let a = eights_of m (omega arith) in
    let p : 2 ^ (m - 3) ≤ 2 ^ 5 = pow_mono {i = m - 3} {j = 5} (omega arith) in
    (omega arith, omega arith)

-- the best of the ends in a half of the blocks is the best of that half of the symbols
pub half_best : (m f b first : ℕ) (edge g : ℕ → ℤ) (z : ℤ) → 2 ≤ m → f < 2 → 8 * first ≡ f * 2 ^ (m - 1) → ((v : ℕ) → v < 2 ^ m → g v ≡ edge v)
    → IsGreatest (IsEnd (2 ^ (m - 1)) b) (λ v. g (8 * first + v)) z
    → IsGreatest (λ (v : ℕ). (v < 2 ^ m) × ((v / 2 ^ (m - 1) ≡ f) × (v % 2 ≡ b))) edge z
half_best m f b first edge g z two lf at same best =
    let h : ℕ = 2 ^ (m - 1) in
    let all = halves_of m two in
    let start : (x : ℕ) → 8 * first + x ≡ f * h + x = λ x. ap (λ (k : ℕ). k + x) at in
    let below : (x : ℕ) → x < h → 8 * first + x < 2 ^ m = λ x l. subst (λ (k : ℕ). 8 * first + x < k) (sym all.0) (subst (λ (k : ℕ). k < h + h) (sym (start x)) (half_below f h x lf l)) in
    IsGreatest-carry
    (λ x p. (8 * first + x, ((below x p.0, (ap (λ (k : ℕ). k / h) (start x) ∙ div-mul-add f h x p.0, ap (λ (k : ℕ). k % 2) (start x) ∙ half_even f h x lf all.1 ∙ p.1)), sym (same (8 * first + x) (below x p.0)))))
    (λ y q.
    let x : ℕ = y - f * h in
    let r = half_back f h y (pow_pos (m - 1)) q.1.0 in
    let e : f * h + x ≡ y = omega (arith, r.0) in
    (x, ((r.1, sym (half_even f h x lf all.1) ∙ ap (λ (k : ℕ). k % 2) e ∙ q.1.1), ap g (start x ∙ e) ∙ same y q.0)))
    best

-- the same, from the lanes
pub half_ends : (m f b first k : ℕ) (edge g : ℕ → ℤ) (lanes : List ℤ) (z : ℤ) → 2 ≤ m → f < 2 → b < 2 → 8 * first ≡ f * 2 ^ (m - 1) → 8 * k ≡ 2 ^ (m - 1) → ((v : ℕ) → v < 2 ^ m → g v ≡ edge v)
    → ((i : ℕ) → i < 8 → IsGreatest (InLane8 k i) (λ v. g (8 * first + v)) (number_at lanes i)) → z ≡ ends_of lanes b
    → IsGreatest (λ (v : ℕ). (v < 2 ^ m) × ((v / 2 ^ (m - 1) ≡ f) × (v % 2 ≡ b))) edge z
half_ends m f b first k edge g lanes z two lf lb at whole same each e =
    half_best m f b first edge g z two lf at same
    (subst (IsGreatest (IsEnd (2 ^ (m - 1)) b) (λ v. g (8 * first + v))) (sym e)
    (subst (λ (n : ℕ). IsGreatest (IsEnd n b) (λ v. g (8 * first + v)) (ends_of lanes b)) whole (ends_join (λ (v : ℕ). g (8 * first + v)) k lanes b lb each)))

-- four numbers, by two bits
pub four_ends : (P : ℕ → ℕ → ℤ → Type 0) (x y z w : ℤ) → P 0 0 x → P 0 1 y → P 1 0 z → P 1 1 w
    → (f b : ℕ) → f < 2 → b < 2 → P f b (number_at (x ∷ y ∷ z ∷ w ∷ []) (2 * f + b))
four_ends P x y z w p q r s zero zero lf lb = p
four_ends P x y z w p q r s zero (suc zero) lf lb = q
four_ends P x y z w p q r s (suc zero) zero lf lb = r
four_ends P x y z w p q r s (suc zero) (suc zero) lf lb = s
four_ends P x y z w p q r s f (suc (suc b)) lf lb = absurd (omega arith)
four_ends P x y z w p q r s (suc (suc f)) b lf lb = absurd (omega arith)

-- ---- edges from state 1 score what those from state 0 do, but for the number of the first input bit

bit_sum : (n : ℕ) (x y z : ℤ) → (pos n +ℤ (x +ℤ z)) ≡ x +ℤ (pos n +ℤ (pos 0 +ℤ z))
bit_sum n x y z = omega (arith, ints)

bit_less : (n : ℕ) (x z : ℤ) → (pos n +ℤ (pos 0 +ℤ z)) ≡ (pos n +ℤ (x +ℤ z)) -ℤ x
bit_less n x z = omega (arith, ints)

last_of : (m : ℕ) → suc m - 1 ≡ m
last_of m = omega arith

pub low_edge : (counts : List ℕ) (l : List ℤ) (v : ℕ) → 1 ≤ length l → v / 2 ^ (length l - 1) ≡ 0 → stage_edge counts l 1 v ≡ number_at l 0 +ℤ stage_edge counts l 0 v
low_edge counts [] v h e = absurd (omega arith)
low_edge counts (x ∷ l) v h e =
    let n : ℕ = get_or counts v 0 in
    let b : v / 2 ^ length l % 2 ≡ 0 = ap (λ (k : ℕ). v / 2 ^ k % 2) (sym (last_of (length l))) ∙ ap (λ (k : ℕ). k % 2) e in
    ap (λ (c : ℕ). pos n +ℤ (cond (nat_eq c 1) (pos 0) x +ℤ gray_from c l v)) b
    ∙ bit_sum n x x (gray_from 0 l v)
    ∙ sym (ap (λ (c : ℕ). x +ℤ (pos n +ℤ (cond (nat_eq c 0) (pos 0) x +ℤ gray_from c l v))) b)

pub high_edge : (counts : List ℕ) (l : List ℤ) (v : ℕ) → 1 ≤ length l → v / 2 ^ (length l - 1) ≡ 1 → stage_edge counts l 1 v ≡ stage_edge counts l 0 v -ℤ number_at l 0
high_edge counts [] v h e = absurd (omega arith)
high_edge counts (x ∷ l) v h e =
    let n : ℕ = get_or counts v 0 in
    let b : v / 2 ^ length l % 2 ≡ 1 = ap (λ (k : ℕ). v / 2 ^ k % 2) (sym (last_of (length l))) ∙ ap (λ (k : ℕ). k % 2) e in
    ap (λ (c : ℕ). pos n +ℤ (cond (nat_eq c 1) (pos 0) x +ℤ gray_from c l v)) b
    ∙ bit_less n x (gray_from 1 l v)
    ∙ sym (ap (λ (c : ℕ). (pos n +ℤ (cond (nat_eq c 0) (pos 0) x +ℤ gray_from c l v)) -ℤ x) b)

pub edge_sizes : (n k : ℕ) (z : ℤ) → n ≤ 16383 → k ≤ 8 → Within (k * 16383) z → Within 147447 (pos n +ℤ z)
edge_sizes n k z hn hk h = (let a = h.0 in omega (arith, ints), let a = h.1 in omega (arith, ints))

pub stage-within : (counts : List ℕ) (l : List ℤ) (s v : ℕ) → length l ≤ 8 → ((i : ℕ) → get_or counts i 0 ≤ 16383) → AllWithin 16383 l → Within 147447 (stage_edge counts l s v)
stage-within counts l s v short most within = edge_sizes (get_or counts v 0) (length l) (gray_from s l v) (most v) short (gray-within 16383 s l v within)

-- and so are the best edges
pub best_within : (counts : List ℕ) (l best : List ℤ) (s : ℕ) → IsStage counts l → AreBestEdges (length l) (stage_edge counts l s) best → (f b : ℕ) → f < 2 → b < 2 → Within 147447 (number_at best (2 * f + b))
best_within counts l best s stage is f b lf lb = IsGreatest-within 147447 (λ v. stage-within counts l s v stage.few.1 stage.most stage.within) (is f b lf lb)

-- ---- both states at once

module _ (V : ℕ → Type 0) (row : ℕ → ℤ) (g : ℕ → ℕ → ℤ) (r k : ℤ) (step : (v : ℕ) → V v → row 1 +ℤ g 1 v ≡ r +ℤ g 0 v) (best : IsGreatest V (g 0) k) where
  first_way : (a b x y : ℤ) → x ≡ y → int_max a b ≡ a → a +ℤ x ≡ int_max a b +ℤ y
  first_way a b x y e m = ap₂ (λ (p q : ℤ). p +ℤ q) (sym m) e

  less_sum : (a b x y : ℤ) → a ≤ℤ b → x ≤ℤ y → (a +ℤ x) ≤ℤ (b +ℤ y)
  less_sum a b x y h l = omega (arith, ints)

  way_bound : (s v : ℕ) → s < 2 → V v → (row s +ℤ g s v) ≤ℤ (int_max (row 0) r +ℤ k)
  way_bound zero v h p = less_sum (row 0) (int_max (row 0) r) (g 0 v) k (max_left (row 0) r) (best.bound v p)
  way_bound (suc zero) v h p = subst (λ (z : ℤ). z ≤ℤ (int_max (row 0) r +ℤ k)) (sym (step v p)) (less_sum r (int_max (row 0) r) (g 0 v) k (max_right (row 0) r) (best.bound v p))
  way_bound (suc (suc s)) v h p = absurd (omega arith)

  -- the greatest over both states, of a set of symbols
  pub both_states : IsGreatest (λ (e : ℕ × ℕ). (e.0 < 2) × V e.1) (λ e. row e.0 +ℤ g e.0 e.1) (int_max (row 0) r +ℤ k)
  both_states = record {
    reached = let v = best.reached.0 in let p = best.reached.1 in ⊎_elim
        (λ m. ((0, v), ((omega arith, p.0), ap₂ (λ (a b : ℤ). a +ℤ b) (sym m) p.1)))
        (λ m. ((1, v), ((omega arith, p.0), step v p.0 ∙ ap₂ (λ (a b : ℤ). a +ℤ b) (sym m) p.1)))
        (max_cases (row 0) r);
    bound = λ e q. way_bound e.0 e.1 q.0 q.1;
  }

moved : (a b x : ℤ) → a +ℤ (x +ℤ b) ≡ (a +ℤ x) +ℤ b
moved a b x = omega (arith, ints)

moved_less : (a b x : ℤ) → a +ℤ (b -ℤ x) ≡ (a -ℤ x) +ℤ b
moved_less a b x = omega (arith, ints)

pub low_or_high : (P : Type 0) (m v : ℕ) → 2 ≤ m → v < 2 ^ m → (v / 2 ^ (m - 1) ≡ 0 → P) → (v / 2 ^ (m - 1) ≡ 1 → P) → P
low_or_high P m v two below f g =
    let h : ℕ = 2 ^ (m - 1) in
    let up : 0 < h = pow_pos (m - 1) in
    let all = halves_of m two in
    let a : ℕ = v / h in
    let split : v ≡ a * h + v % h = omega arith in
    ⊎_elim (λ (l : a < 1). f (omega arith)) (λ (l : 1 ≤ a). g (one_half a h (v % h) v l up split (subst (λ (k : ℕ). v < k) all.0 below))) (cases_lt a 1)
  where
    one_half : (a h r v : ℕ) → 1 ≤ a → 0 < h → v ≡ a * h + r → v < h + h → a ≡ 1
    one_half zero h r v l up e b = absurd (omega arith)
    one_half (suc zero) h r v l up e b = refl
    one_half (suc (suc a)) h r v l up e b = absurd (omega arith)

-- a step forward, from the best edges of each half
pub forward_by_best : (counts : List ℕ) (l row : List ℤ) (b : ℕ) (x y : ℤ) → 2 ≤ length l
    → IsGreatest (λ (v : ℕ). (v < 2 ^ length l) × ((v / 2 ^ (length l - 1) ≡ 0) × (v % 2 ≡ b))) (stage_edge counts l 0) x
    → IsGreatest (λ (v : ℕ). (v < 2 ^ length l) × ((v / 2 ^ (length l - 1) ≡ 1) × (v % 2 ≡ b))) (stage_edge counts l 0) y
    → IsGreatest (λ (e : ℕ × ℕ). IsEdge (2 ^ length l) 2 e × (e.1 % 2 ≡ b)) (λ e. number_at row e.0 +ℤ stage_edge counts l e.0 e.1)
    (int_max (int_max (number_at row 0) (number_at row 1 +ℤ number_at l 0) +ℤ x) (int_max (number_at row 0) (number_at row 1 -ℤ number_at l 0) +ℤ y))
forward_by_best counts l row b x y two low high =
    let m : ℕ = length l in
    let d : ℤ = number_at l 0 in
    IsGreatest-join
    (λ e p. ((p.0, p.1.0), p.1.1.1)) (λ e p. ((p.0, p.1.0), p.1.1.1))
    (λ e p. low_or_high _ m e.1 two p.0.1 (λ q. inl (p.0.0, (p.0.1, (q, p.1)))) (λ q. inr (p.0.0, (p.0.1, (q, p.1)))))
    (both_states (λ (v : ℕ). (v < 2 ^ m) × ((v / 2 ^ (m - 1) ≡ 0) × (v % 2 ≡ b))) (number_at row) (stage_edge counts l) (number_at row 1 +ℤ d) x
    (λ v p. ap (λ (z : ℤ). number_at row 1 +ℤ z) (low_edge counts l v (omega arith) p.1.0) ∙ moved (number_at row 1) (stage_edge counts l 0 v) d) low)
    (both_states (λ (v : ℕ). (v < 2 ^ m) × ((v / 2 ^ (m - 1) ≡ 1) × (v % 2 ≡ b))) (number_at row) (stage_edge counts l) (number_at row 1 -ℤ d) y
    (λ v p. ap (λ (z : ℤ). number_at row 1 +ℤ z) (high_edge counts l v (omega arith) p.1.0) ∙ moved_less (number_at row 1) (stage_edge counts l 0 v) d) high)

-- ---- a row by halves, as the code has it

pub entry_less : (a x : ℤ) → Within 1099983617 a → Within 16383 x → FitsSigned w32 (to_z w32 (of_z w32 a) -ℤ to_z w32 (of_z w32 x))
entry_less a x h k =
    let p : FitsSigned w32 a = search (rules, ints) in
    let q : FitsSigned w32 x = search (rules, ints) in
    search (rules, ints)

entry_is : (a : ℤ) → Within 1099983617 a → to_z w32 (of_z w32 a) ≡ a
entry_is a h = omega (arith, ints)

pub sum_is : (a x : ℤ) → Within 1099983617 a → Within 16383 x → to_z w32 (of_z w32 (to_z w32 (of_z w32 a) +ℤ to_z w32 (of_z w32 x))) ≡ a +ℤ x
sum_is a x h k = omega (arith, ints)

pub less_is : (a x : ℤ) → Within 1099983617 a → Within 16383 x → to_z w32 (of_z w32 (to_z w32 (of_z w32 a) -ℤ to_z w32 (of_z w32 x))) ≡ a -ℤ x
less_is a x h k = omega (arith, ints)

sum_within : (a x : ℤ) → Within 1099983617 a → Within 16383 x → Within 1100000000 (a +ℤ x)
sum_within a x h k = (omega (arith, ints), omega (arith, ints))

less_within : (a x : ℤ) → Within 1099983617 a → Within 16383 x → Within 1100000000 (a -ℤ x)
less_within a x h k = (omega (arith, ints), omega (arith, ints))

max_within : (x y : ℤ) → Within 1100000000 x → Within 1100000000 y → Within 1100000000 (int_max x y)
max_within x y h k = ⊎_elim (λ e. subst (Within 1100000000) (sym e) h) (λ e. subst (Within 1100000000) (sym e) k) (max_cases x y)

row_is : (z : ℤ) → Within 1100000000 z → to_z w32 (of_z w32 z) ≡ z
row_is z h = omega (arith, ints)

max_row : (x y r p q : ℤ) → Within 1100000000 x → Within 1100000000 y → r ≡ int_max p q → p ≡ x → q ≡ y → (to_z w32 (of_z w32 r) ≡ int_max x y) × Within 1100000000 (to_z w32 (of_z w32 r))
max_row x y r p q hx hy e ep eq =
    let w : Within 1100000000 (int_max x y) = max_within x y hx hy in
    let f : to_z w32 (of_z w32 r) ≡ int_max x y = ap (λ (z : ℤ). to_z w32 (of_z w32 z)) (e ∙ ap₂ int_max ep eq) ∙ row_is (int_max x y) w in
    (f, subst (Within 1100000000) (sym f) w)

pub low_way : (a b x r : ℤ) → Within 1099983617 a → Within 1099983617 b → Within 16383 x
    → r ≡ int_max (to_z w32 (of_z w32 a)) (to_z w32 (of_z w32 (to_z w32 (of_z w32 b) +ℤ to_z w32 (of_z w32 x)))) → (to_z w32 (of_z w32 r) ≡ int_max a (b +ℤ x)) × Within 1100000000 (to_z w32 (of_z w32 r))
low_way a b x r ha hb hx e = max_row a (b +ℤ x) r _ _ (wider 1099983617 1100000000 a (lit≤ tt) ha) (sum_within b x hb hx) e (entry_is a ha) (sum_is b x hb hx)

pub high_way : (a b x r : ℤ) → Within 1099983617 a → Within 1099983617 b → Within 16383 x
    → r ≡ int_max (to_z w32 (of_z w32 a)) (to_z w32 (of_z w32 (to_z w32 (of_z w32 b) -ℤ to_z w32 (of_z w32 x)))) → (to_z w32 (of_z w32 r) ≡ int_max a (b -ℤ x)) × Within 1100000000 (to_z w32 (of_z w32 r))
high_way a b x r ha hb hx e = max_row a (b -ℤ x) r _ _ (wider 1099983617 1100000000 a (lit≤ tt) ha) (less_within b x hb hx) e (entry_is a ha) (less_is b x hb hx)
