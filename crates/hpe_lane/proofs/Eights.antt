-- The first eight gray scores, and the last eight of a folded list, as vectors.
use Rattle.std.proofs.Common.{◌≡◌, ◌⊎◌, inl, inr, ⊎_elim, lit<, lit≤, ℕ, zero, suc, ◌<◌, ◌≤◌, subst, sym, ◌∙◌, ap, ap₂, refl, arith, ℤ, pos, ◌+ℤ◌, ◌-ℤ◌, ◌≤ℤ◌, List, [], ◌∷◌, map, replicate, length, FitsSigned, of_z, to_z, w32, set, ◌++◌, ◌+◌, ◌-◌, ◌^◌}
use Rattle.std.proofs.Math.ListN.{get_or-append}
use Rattle.std.proofs.lemmas.List.{get_or-append-add}
use Rattle.std.proofs.lemmas.Bool.{cases_lt}
use Rattle.hpe_lane.specs.Folds.{Folded}
use Rattle.hpe_lane.proofs.Folding.{soft_from, near_from}
use Rattle.std.specs.Int.{int_max}
use Rattle.std.proofs.lemmas.Int.{ints}
use Rattle.hpe_base.specs.Sizes.{number_at, Within, AllWithin}
use Rattle.hpe_base.specs.Greatest.{IsGreatest, IsSoft}
use Rattle.hpe_base.proofs.Greatest.{IsGreatest-join, max_cases, max_left, le_trans, IsGreatest-single}
use Rattle.hpe_lane.specs.Edges.{gray_from, input_bit}
use Rattle.hpe_lane.specs.Eights.{top_of, soft_of_eight}
use Rattle.hpe_lane.specs.Near.{Near}
use Rattle.hpe_lane.proofs.Sizes.{wider}
use Rattle.hpe_lane.proofs.Soft.{IsSoft-score}
use Rattle.hpe_lane.proofs.OneLane.{bits32, plus32, minus32, numbers32, greater32, halves32, shuffled, max32, best4, bits_sum, bits_max, lane_sum, max_fits, plain_gap, fits_lane, at_four_places, AreEight}
use Rattle.hpe_lane.proofs.Vectors.{at_eight, eight_numbers}
use lib.Lanes.{zip2}

three_numbers : (P : List ℤ → Type 0) → ((a b c : ℤ) → P (a ∷ b ∷ c ∷ [])) → (xs : List ℤ) → length xs ≡ 3 → P xs
three_numbers P k [] e = absurd (omega arith)
three_numbers P k (a ∷ []) e = absurd (omega arith)
three_numbers P k (a ∷ b ∷ []) e = absurd (omega arith)
three_numbers P k (a ∷ b ∷ c ∷ []) e = k a b c
three_numbers P k (a ∷ b ∷ c ∷ d ∷ xs) e = absurd (omega arith)

-- a number at the places that hold 0, and nothing at those that hold 8
abbrev pub kept8 : ℤ → List ℕ → List ℕ
kept8 x ks = shuffled (replicate 8 (bits32 x)) (replicate 8 (bits32 (pos 0))) ks

small : (x : ℤ) → Within 16383 x → Within 1000000000 x
small x h = wider 16383 1000000000 x (lit≤ tt) h

pair_small : (x y : ℤ) → Within 16383 x → Within 16383 y → Within 1000000000 (x +ℤ y)
pair_small x y h k = (omega (arith, ints), omega (arith, ints))

nothing_more : (a b c : ℤ) → a +ℤ (b +ℤ c) ≡ a +ℤ (b +ℤ (c +ℤ pos 0))
nothing_more a b c = omega (arith, ints)

gray_lane : (a b c : ℤ) → Within 16383 a → Within 16383 b → Within 16383 c → to_z w32 (plus32 (of_z w32 a) (plus32 (of_z w32 b) (of_z w32 c))) ≡ a +ℤ (b +ℤ (c +ℤ pos 0))
gray_lane a b c ha hb hc =
    ap (λ (n : ℕ). to_z w32 (plus32 (of_z w32 a) n)) (bits_sum b c (small b hb) (small c hc)) ∙ lane_sum a (b +ℤ c) (small a ha) (pair_small b c hb hc) ∙ nothing_more a b c

none : Within 16383 (pos 0)
none = (omega (arith, ints), omega (arith, ints))

-- the gray scores of three numbers
pub gray_lanes : (l : List ℤ) → length l ≡ 3 → AllWithin 16383 l → AreEight (numbers32 (zip2 plus32 (kept8 (number_at l 0) (8 ∷ 8 ∷ 8 ∷ 8 ∷ 0 ∷ 0 ∷ 0 ∷ 0 ∷ [])) (zip2 plus32 (kept8 (number_at l 1) (8 ∷ 8 ∷ 0 ∷ 0 ∷ 0 ∷ 0 ∷ 8 ∷ 8 ∷ [])) (kept8 (number_at l 2) (8 ∷ 0 ∷ 0 ∷ 8 ∷ 8 ∷ 0 ∷ 0 ∷ 8 ∷ []))))) (gray_from 0 l)
gray_lanes = three_numbers (λ (l : List ℤ). AllWithin 16383 l → AreEight (numbers32 (zip2 plus32 (kept8 (number_at l 0) (8 ∷ 8 ∷ 8 ∷ 8 ∷ 0 ∷ 0 ∷ 0 ∷ 0 ∷ [])) (zip2 plus32 (kept8 (number_at l 1) (8 ∷ 8 ∷ 0 ∷ 0 ∷ 0 ∷ 0 ∷ 8 ∷ 8 ∷ [])) (kept8 (number_at l 2) (8 ∷ 0 ∷ 0 ∷ 8 ∷ 8 ∷ 0 ∷ 0 ∷ 8 ∷ []))))) (gray_from 0 l))
    (λ x y z w. record { long = refl; each = at_eight _ (gray_lane (pos 0) (pos 0) (pos 0) none none none) (gray_lane (pos 0) (pos 0) z none none (w 2)) (gray_lane (pos 0) y z none (w 1) (w 2)) (gray_lane (pos 0) y (pos 0) none (w 1) none) (gray_lane x y (pos 0) (w 0) (w 1) none) (gray_lane x y z (w 0) (w 1) (w 2)) (gray_lane x (pos 0) z (w 0) none (w 2)) (gray_lane x (pos 0) (pos 0) (w 0) none none) })

-- ---- the last eight scores

max_least : (a b z : ℤ) → a ≤ℤ z → b ≤ℤ z → int_max a b ≤ℤ z
max_least a b z h k = ⊎_elim (λ e. subst (λ (x : ℤ). x ≤ℤ z) (sym e) h) (λ e. subst (λ (x : ℤ). x ≤ℤ z) (sym e) k) (max_cases a b)

more_left : (x y z n : ℤ) → x ≤ℤ (y +ℤ n) → y ≤ℤ z → x ≤ℤ (z +ℤ n)
more_left x y z n h k = omega (arith, ints)

gap_fits : (x y : ℤ) → x ≤ℤ (y +ℤ pos 1200294894) → y ≤ℤ (x +ℤ pos 1200294894) → Within 2000000000 (x -ℤ y)
gap_fits x y h k = (omega (arith, ints), omega (arith, ints))

module _ (f : ℕ → ℤ) (fit : (i : ℕ) → i < 8 → FitsSigned w32 (f i)) (near : (v w : ℕ) → v < 8 → w < 8 → f v ≤ℤ (f w +ℤ pos 1200294894)) where
  top_near : (a b c d e : ℕ) → a < 8 → b < 8 → c < 8 → d < 8 → e < 8 → top_of f a b c d ≤ℤ (f e +ℤ pos 1200294894)
  top_near a b c d e ha hb hc hd he =
      max_least (int_max (f a) (f b)) (int_max (f c) (f d)) (f e +ℤ pos 1200294894)
      (max_least (f a) (f b) (f e +ℤ pos 1200294894) (near a e ha he) (near b e hb he))
      (max_least (f c) (f d) (f e +ℤ pos 1200294894) (near c e hc he) (near d e hd he))

  first_top : (a b c d : ℕ) → f a ≤ℤ top_of f a b c d
  first_top a b c d = le_trans _ _ _ (max_left (f a) (f b)) (max_left (int_max (f a) (f b)) (int_max (f c) (f d)))

  tops_near : (a b c d e g h i : ℕ) → a < 8 → b < 8 → c < 8 → d < 8 → e < 8 → top_of f a b c d ≤ℤ (top_of f e g h i +ℤ pos 1200294894)
  tops_near a b c d e g h i ha hb hc hd he = more_left (top_of f a b c d) (f e) (top_of f e g h i) (pos 1200294894) (top_near a b c d e ha hb hc hd he) (first_top e g h i)

  pair_fits : (a b : ℕ) → a < 8 → b < 8 → FitsSigned w32 (int_max (f a) (f b))
  pair_fits a b ha hb = max_fits (f a) (f b) (fit a ha) (fit b hb)

  bits_top : (a b c d : ℕ) → a < 8 → b < 8 → c < 8 → d < 8 → best4 (of_z w32 (f a)) (of_z w32 (f b)) (of_z w32 (f c)) (of_z w32 (f d)) ≡ of_z w32 (top_of f a b c d)
  bits_top a b c d ha hb hc hd =
      ap₂ (λ (x y : ℕ). max32 x y) (bits_max (f a) (f b) (fit a ha) (fit b hb)) (bits_max (f c) (f d) (fit c hc) (fit d hd))
      ∙ bits_max (int_max (f a) (f b)) (int_max (f c) (f d)) (pair_fits a b ha hb) (pair_fits c d hc hd)

  top_fits : (a b c d : ℕ) → a < 8 → b < 8 → c < 8 → d < 8 → FitsSigned w32 (top_of f a b c d)
  top_fits a b c d ha hb hc hd = max_fits (int_max (f a) (f b)) (int_max (f c) (f d)) (pair_fits a b ha hb) (pair_fits c d hc hd)

  -- a lane of the soft values
  lane_soft : (a b c d e g h i : ℕ) → a < 8 → b < 8 → c < 8 → d < 8 → e < 8 → g < 8 → h < 8 → i < 8
      → to_z w32 (minus32 (best4 (of_z w32 (f a)) (of_z w32 (f b)) (of_z w32 (f c)) (of_z w32 (f d))) (best4 (of_z w32 (f e)) (of_z w32 (f g)) (of_z w32 (f h)) (of_z w32 (f i)))) ≡ top_of f a b c d -ℤ top_of f e g h i
  lane_soft a b c d e g h i ha hb hc hd he hg hh hi =
      ap₂ (λ (x y : ℕ). to_z w32 (minus32 x y)) (bits_top a b c d ha hb hc hd) (bits_top e g h i he hg hh hi)
      ∙ plain_gap (top_of f a b c d) (top_of f e g h i) (top_fits a b c d ha hb hc hd) (top_fits e g h i he hg hh hi)
      (fits_lane (top_of f a b c d -ℤ top_of f e g h i) (gap_fits (top_of f a b c d) (top_of f e g h i) (tops_near a b c d e g h i ha hb hc hd he) (tops_near e g h i a b c d he hg hh hi ha)))

abbrev pub pairs_of : List ℕ → List ℕ
pairs_of s = greater32 (shuffled s s (0 ∷ 2 ∷ 4 ∷ 6 ∷ [])) (shuffled s s (1 ∷ 3 ∷ 5 ∷ 7 ∷ []))

abbrev pub softs32 : List ℕ → List ℕ
softs32 s = zip2 minus32
    (greater32 (shuffled (pairs_of s) (halves32 s) (2 ∷ 1 ∷ 5 ∷ 5 ∷ [])) (shuffled (pairs_of s) (halves32 s) (3 ∷ 2 ∷ 6 ∷ 6 ∷ [])))
    (greater32 (shuffled (pairs_of s) (halves32 s) (0 ∷ 0 ∷ 4 ∷ 4 ∷ [])) (shuffled (pairs_of s) (halves32 s) (1 ∷ 3 ∷ 7 ∷ 7 ∷ [])))

pub softs_lanes : (s : List ℤ) → length s ≡ 8 → ((i : ℕ) → i < 8 → FitsSigned w32 (number_at s i)) → Near 1200294894 8 s → (k : ℕ) → k < 4 → number_at (numbers32 (softs32 (map bits32 s))) k ≡ soft_of_eight (number_at s) k
softs_lanes = eight_numbers (λ (s : List ℤ). ((i : ℕ) → i < 8 → FitsSigned w32 (number_at s i)) → Near 1200294894 8 s → (k : ℕ) → k < 4 → number_at (numbers32 (softs32 (map bits32 s))) k ≡ soft_of_eight (number_at s) k) (λ s0 s1 s2 s3 s4 s5 s6 s7 w near. at_four_places _ (lane_soft (number_at (s0 ∷ s1 ∷ s2 ∷ s3 ∷ s4 ∷ s5 ∷ s6 ∷ s7 ∷ [])) w near 4 5 6 7 0 1 2 3 (lit< tt) (lit< tt) (lit< tt) (lit< tt) (lit< tt) (lit< tt) (lit< tt) (lit< tt)) (lane_soft (number_at (s0 ∷ s1 ∷ s2 ∷ s3 ∷ s4 ∷ s5 ∷ s6 ∷ s7 ∷ [])) w near 2 3 4 5 0 1 6 7 (lit< tt) (lit< tt) (lit< tt) (lit< tt) (lit< tt) (lit< tt) (lit< tt) (lit< tt)) (lane_soft (number_at (s0 ∷ s1 ∷ s2 ∷ s3 ∷ s4 ∷ s5 ∷ s6 ∷ s7 ∷ [])) w near 1 5 2 6 0 4 3 7 (lit< tt) (lit< tt) (lit< tt) (lit< tt) (lit< tt) (lit< tt) (lit< tt) (lit< tt)) (lane_soft (number_at (s0 ∷ s1 ∷ s2 ∷ s3 ∷ s4 ∷ s5 ∷ s6 ∷ s7 ∷ [])) w near 1 5 2 6 0 4 3 7 (lit< tt) (lit< tt) (lit< tt) (lit< tt) (lit< tt) (lit< tt) (lit< tt) (lit< tt)))

-- ---- what the soft values tell apart

abbrev IsOneOf : ℕ → ℕ → ℕ → ℕ → ℕ → Type 0
IsOneOf a b c d v = (v ≡ a) ⊎ ((v ≡ b) ⊎ ((v ≡ c) ⊎ (v ≡ d)))

none_one : {A : Type 0} → ◌≡◌ {A = ℕ} 0 1 → A
none_one e = absurd (omega (arith, e))

one_none : {A : Type 0} → ◌≡◌ {A = ℕ} 1 0 → A
one_none e = absurd (omega (arith, e))

double : (f : ℕ → ℤ) (a b : ℕ) → IsGreatest (λ (v : ℕ). (v ≡ a) ⊎ (v ≡ b)) f (int_max (f a) (f b))
double f a b = IsGreatest-join (λ v e. inl e) (λ v e. inr e) (λ v p. p) (IsGreatest-single f a) (IsGreatest-single f b)

greatest_four : (P : ℕ → Type 0) (f : ℕ → ℤ) (a b c d : ℕ) → P a → P b → P c → P d → ((v : ℕ) → P v → IsOneOf a b c d v) → IsGreatest P f (top_of f a b c d)
greatest_four P f a b c d pa pb pc pd only =
    IsGreatest-join
    (λ v e. ⊎_elim (λ (q : v ≡ a). subst P (sym q) pa) (λ (q : v ≡ b). subst P (sym q) pb) e)
    (λ v e. ⊎_elim (λ (q : v ≡ c). subst P (sym q) pc) (λ (q : v ≡ d). subst P (sym q) pd) e)
    (λ v p. ⊎_elim (λ q. inl (inl q)) (λ q. ⊎_elim (λ r. inl (inr r)) (λ r. inr r) q) (only v p))
    (double f a b) (double f c d)

pub softs_are : (f : ℕ → ℤ) (k : ℕ) → k < 3 → IsSoft (λ (v : ℕ). v < 8) (input_bit 3 k 0) f (soft_of_eight f k)
softs_are f zero h = record {
  one = top_of f 4 5 6 7;
  zero = top_of f 0 1 2 3;
  with_one = greatest_four (λ (v : ℕ). (v < 8) × (input_bit 3 0 0 v ≡ 1)) f 4 5 6 7 (lit< tt, refl) (lit< tt, refl) (lit< tt, refl) (lit< tt, refl) (λ v p. at_eight (λ (v : ℕ). (input_bit 3 0 0 v ≡ 1) → IsOneOf 4 5 6 7 v) (λ e. absurd (none_one e)) (λ e. absurd (none_one e)) (λ e. absurd (none_one e)) (λ e. absurd (none_one e)) (λ e. inl refl) (λ e. inr (inl refl)) (λ e. inr (inr (inl refl))) (λ e. inr (inr (inr refl))) v p.0 p.1);
  with_zero = greatest_four (λ (v : ℕ). (v < 8) × (input_bit 3 0 0 v ≡ 0)) f 0 1 2 3 (lit< tt, refl) (lit< tt, refl) (lit< tt, refl) (lit< tt, refl) (λ v p. at_eight (λ (v : ℕ). (input_bit 3 0 0 v ≡ 0) → IsOneOf 0 1 2 3 v) (λ e. inl refl) (λ e. inr (inl refl)) (λ e. inr (inr (inl refl))) (λ e. inr (inr (inr refl))) (λ e. absurd (one_none e)) (λ e. absurd (one_none e)) (λ e. absurd (one_none e)) (λ e. absurd (one_none e)) v p.0 p.1);
  value = refl;
}
softs_are f (suc zero) h = record {
  one = top_of f 2 3 4 5;
  zero = top_of f 0 1 6 7;
  with_one = greatest_four (λ (v : ℕ). (v < 8) × (input_bit 3 1 0 v ≡ 1)) f 2 3 4 5 (lit< tt, refl) (lit< tt, refl) (lit< tt, refl) (lit< tt, refl) (λ v p. at_eight (λ (v : ℕ). (input_bit 3 1 0 v ≡ 1) → IsOneOf 2 3 4 5 v) (λ e. absurd (none_one e)) (λ e. absurd (none_one e)) (λ e. inl refl) (λ e. inr (inl refl)) (λ e. inr (inr (inl refl))) (λ e. inr (inr (inr refl))) (λ e. absurd (none_one e)) (λ e. absurd (none_one e)) v p.0 p.1);
  with_zero = greatest_four (λ (v : ℕ). (v < 8) × (input_bit 3 1 0 v ≡ 0)) f 0 1 6 7 (lit< tt, refl) (lit< tt, refl) (lit< tt, refl) (lit< tt, refl) (λ v p. at_eight (λ (v : ℕ). (input_bit 3 1 0 v ≡ 0) → IsOneOf 0 1 6 7 v) (λ e. inl refl) (λ e. inr (inl refl)) (λ e. absurd (one_none e)) (λ e. absurd (one_none e)) (λ e. absurd (one_none e)) (λ e. absurd (one_none e)) (λ e. inr (inr (inl refl))) (λ e. inr (inr (inr refl))) v p.0 p.1);
  value = refl;
}
softs_are f (suc (suc zero)) h = record {
  one = top_of f 1 5 2 6;
  zero = top_of f 0 4 3 7;
  with_one = greatest_four (λ (v : ℕ). (v < 8) × (input_bit 3 2 0 v ≡ 1)) f 1 5 2 6 (lit< tt, refl) (lit< tt, refl) (lit< tt, refl) (lit< tt, refl) (λ v p. at_eight (λ (v : ℕ). (input_bit 3 2 0 v ≡ 1) → IsOneOf 1 5 2 6 v) (λ e. absurd (none_one e)) (λ e. inl refl) (λ e. inr (inr (inl refl))) (λ e. absurd (none_one e)) (λ e. absurd (none_one e)) (λ e. inr (inl refl)) (λ e. inr (inr (inr refl))) (λ e. absurd (none_one e)) v p.0 p.1);
  with_zero = greatest_four (λ (v : ℕ). (v < 8) × (input_bit 3 2 0 v ≡ 0)) f 0 4 3 7 (lit< tt, refl) (lit< tt, refl) (lit< tt, refl) (lit< tt, refl) (λ v p. at_eight (λ (v : ℕ). (input_bit 3 2 0 v ≡ 0) → IsOneOf 0 4 3 7 v) (λ e. inl refl) (λ e. absurd (one_none e)) (λ e. absurd (one_none e)) (λ e. inr (inr (inl refl))) (λ e. inr (inl refl)) (λ e. absurd (one_none e)) (λ e. absurd (one_none e)) (λ e. inr (inr (inr refl))) v p.0 p.1);
  value = refl;
}
softs_are f (suc (suc (suc k))) h = absurd (omega arith)

-- three numbers, written over
pub set_three : (f : ℕ → ℤ) (a b c : ℤ) → a ≡ f 0 → b ≡ f 1 → c ≡ f 2 → (xs : List ℤ) → length xs ≡ 3 → (i : ℕ) → i < 3 → number_at (set (set (set xs 0 a) 1 b) 2 c) i ≡ f i
set_three f a b c ea eb ec = three_numbers (λ (xs : List ℤ). (i : ℕ) → i < 3 → number_at (set (set (set xs 0 a) 1 b) 2 c) i ≡ f i) (λ x y z. at_three f a b c ea eb ec)
  where
    at_three : (f : ℕ → ℤ) (a b c : ℤ) → a ≡ f 0 → b ≡ f 1 → c ≡ f 2 → (i : ℕ) → i < 3 → number_at (a ∷ b ∷ c ∷ []) i ≡ f i
    at_three f a b c ea eb ec zero h = ea
    at_three f a b c ea eb ec (suc zero) h = eb
    at_three f a b c ea eb ec (suc (suc zero)) h = ec
    at_three f a b c ea eb ec (suc (suc (suc i))) h = absurd (omega arith)

-- a list that is folded to eight numbers
module _ (m k : ℕ) (start now : List ℤ) (three : k + 3 ≡ m) (so_far : Folded m k (m - k) start now) where
  to_eight : Folded m k 3 start now
  to_eight = let e : m - k ≡ 3 = omega arith in subst (λ (j : ℕ). Folded m k j start now) e so_far

  pub eight_near : (most : ℕ) → length start ≡ 2 ^ m → Near most (length start) start → Near most 8 now
  eight_near most long near = near_from m k 3 start now most to_eight (subst (λ (n : ℕ). Near most n start) long near)

  pub whole_soft : (first last : List ℤ) → length first ≡ k
      → ((i : ℕ) → i < k → IsSoft (λ (v : ℕ). v < 2 ^ m) (input_bit m i 0) (number_at start) (number_at first i))
      → ((i : ℕ) → i < 3 → IsSoft (λ (v : ℕ). v < 8) (input_bit 3 i 0) (number_at now) (number_at last i))
      → (i : ℕ) → i < m → IsSoft (λ (v : ℕ). v < 2 ^ m) (input_bit m i 0) (number_at start) (number_at (first ++ last) i)
  whole_soft first last long front back i h =
      ⊎_elim
      (λ (p : i < k). subst (IsSoft (λ (v : ℕ). v < 2 ^ m) (input_bit m i 0) (number_at start)) (sym (get_or-append first last (pos 0) i (omega arith))) (front i p))
      (λ (p : k ≤ i).
      let j : ℕ = i - k in
      let lj : j < 3 = omega arith in
      let at : k + j ≡ i = omega arith in
      let there : length first + j ≡ i = omega arith in
      subst (λ (n : ℕ). IsSoft (λ (v : ℕ). v < 2 ^ m) (input_bit m n 0) (number_at start) (number_at (first ++ last) i)) at
      (subst (IsSoft (λ (v : ℕ). v < 2 ^ m) (input_bit m (k + j) 0) (number_at start)) (sym (get_or-append-add first last j (pos 0)) ∙ ap (number_at (first ++ last)) there)
      (soft_from m k 3 start now to_eight j (number_at last j) lj (back j lj))))
      (cases_lt i k)

-- a list that is folded to one that the rest of the turns fold
module _ (m k j : ℕ) (start now part : List ℤ) (parts : k + j ≡ m) (so_far : Folded m k (m - k) start now) (same : (v : ℕ) → v < 2 ^ j → number_at part v ≡ number_at now v) where
  to_part : Folded m k j start now
  to_part = let e : m - k ≡ j = omega arith in subst (λ (n : ℕ). Folded m k n start now) e so_far

  pub rest_near : (most : ℕ) → length start ≡ 2 ^ m → Near most (length start) start → length part ≡ 2 ^ j → Near most (length part) part
  rest_near most long near size = subst (λ (n : ℕ). Near most n part) (sym size)
      (λ v w h l.
      subst (λ (z : ℤ). z ≤ℤ (number_at part w +ℤ pos most)) (sym (same v h))
      (subst (λ (z : ℤ). number_at now v ≤ℤ (z +ℤ pos most)) (sym (same w l))
      (near_from m k j start now most to_part (subst (λ (n : ℕ). Near most n start) long near) v w h l)))

  pub rest_soft : (first last : List ℤ) → length first ≡ k
      → ((i : ℕ) → i < k → IsSoft (λ (v : ℕ). v < 2 ^ m) (input_bit m i 0) (number_at start) (number_at first i))
      → ((i : ℕ) → i < j → IsSoft (λ (v : ℕ). v < 2 ^ j) (input_bit j i 0) (number_at part) (number_at last i))
      → (i : ℕ) → i < m → IsSoft (λ (v : ℕ). v < 2 ^ m) (input_bit m i 0) (number_at start) (number_at (first ++ last) i)
  rest_soft first last long front back i h =
      ⊎_elim
      (λ (p : i < k). subst (IsSoft (λ (v : ℕ). v < 2 ^ m) (input_bit m i 0) (number_at start)) (sym (get_or-append first last (pos 0) i (omega arith))) (front i p))
      (λ (p : k ≤ i).
      let d : ℕ = i - k in
      let ld : d < j = omega arith in
      let at : k + d ≡ i = omega arith in
      let there : length first + d ≡ i = omega arith in
      subst (λ (n : ℕ). IsSoft (λ (v : ℕ). v < 2 ^ m) (input_bit m n 0) (number_at start) (number_at (first ++ last) i)) at
      (subst (IsSoft (λ (v : ℕ). v < 2 ^ m) (input_bit m (k + d) 0) (number_at start)) (sym (get_or-append-add first last d (pos 0)) ∙ ap (number_at (first ++ last)) there)
      (soft_from m k j start now to_part d (number_at last d) ld (IsSoft-score (λ v q. sym (same v q)) (back d ld)))))
      (cases_lt i k)
