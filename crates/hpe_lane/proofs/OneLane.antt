-- One lane of a vector of 32 bits: its number, sums of two, the greater of two.
use Rattle.std.proofs.Common.{◌≡◌, ◌%◌, lit≤, lit<, ℕ, zero, suc, ◌+◌, ◌<◌, ◌≤◌, ⊎_elim, subst, sym, ◌∙◌, ap, ap₂, refl, arith, rules, ℤ, pos, ◌+ℤ◌, ◌-ℤ◌, ◌≤ℤ◌, ◌<ℤ◌, List, [], ◌∷◌, ◌++◌, length, map, take, cond, w32, w16, to_z, of_z, FitsSigned, Bool, true, false}
use Rattle.std.specs.Int.{int_max}
use Rattle.std.proofs.lemmas.Int.{ints, clamps, to_z-of_z}
use Rattle.std.proofs.lemmas.Simd.{get_or-put_chunk_at}
use Rattle.hpe_base.specs.Sizes.{number_at, Within, AllWithin}
use Rattle.hpe_lane.proofs.Sizes.{wider}
use Rattle.hpe_base.proofs.Greatest.{max_cases}
use Rattle.hpe_lane.specs.OuterSums.{best_sum}
use Rattle.hpe_lane.proofs.OuterFits.{fits, best_within, best_gap}
use lib.Signed.{lt_z}
use lib.Lanes.{zip2, sel_l, top, put_chunk, pick_l}
use borrow.Rule.Simd.Lanes.{act1, act2}
use borrow.Table.Row.{s_int}
use mir.Syntax.{mask, lt, wrap_add, wrap_sub, signed, unsigned, cast}

-- the bits of a number
abbrev pub bits32 : ℤ → ℕ
bits32 = of_z w32

-- a lane of a sum, of a comparison and of a count that is made wider
abbrev pub plus32 : ℕ → ℕ → ℕ
plus32 = act2 wrap_add (s_int w32) (s_int w32) (s_int w32)

abbrev pub less32 : ℕ → ℕ → ℕ
less32 = act2 (mask (lt signed)) (s_int w32) (s_int w32) (s_int w32)

abbrev pub wide32 : ℕ → ℕ
wide32 = act1 (cast unsigned signed w32) (s_int w16) (s_int w32)

-- the numbers that lanes stand for
abbrev pub numbers32 : List ℕ → List ℤ
numbers32 = map (to_z w32)

-- the lanes of the first eight numbers
abbrev pub lanes8 : List ℤ → List ℕ
lanes8 xs = map bits32 (take 8 xs)

-- the greater of two vectors
abbrev pub greater32 : List ℕ → List ℕ → List ℕ
greater32 xs ys = sel_l (map (top 31) (zip2 less32 xs ys)) ys xs

-- the eight lanes, last first
abbrev pub turned8 : List ℕ → List ℕ
turned8 xs = pick_l 0 (xs ++ xs) (7 ∷ 6 ∷ 5 ∷ 4 ∷ 3 ∷ 2 ∷ 1 ∷ 0 ∷ [])

-- eight numbers, of which that of place j is f j
pub record AreEight (xs : List ℤ) (f : ℕ → ℤ) : Type 0 where
  pub long : length xs ≡ 8
  pub each : (j : ℕ) → j < 8 → number_at xs j ≡ f j

none_before : (j : ℕ) → j ≡ 0 + j
none_before j = omega arith

-- a slice of eight, written over
pub put_eight : (xs ys : List ℤ) (f : ℕ → ℤ) → length xs ≡ 8 → AreEight ys f → (j : ℕ) → j < 8 → number_at (put_chunk 0 xs ys) j ≡ f j
put_eight xs ys f e r j h =
    let l = r.long in
    ap (number_at (put_chunk 0 xs ys)) (none_before j) ∙ get_or-put_chunk_at 0 xs ys j (pos 0) (omega arith) (omega arith) ∙ r.each j h

-- within a size is within a greater one
pub all_wider : (m n : ℕ) (xs : List ℤ) → m ≤ n → AllWithin m xs → AllWithin n xs
all_wider m n xs le f = λ i. wider m n (number_at xs i) le (f i)

-- what fits a lane
pub fits_lane : (x : ℤ) → Within 2000000000 x → FitsSigned w32 x
fits_lane x h = search (rules, ints)

half_fits : (x : ℤ) → Within 1000000000 x → Within 2000000000 x
half_fits x h = (omega (arith, ints), omega (arith, ints))

pub sum_fits : (x y : ℤ) → Within 1000000000 x → Within 1000000000 y → Within 2000000000 (x +ℤ y)
sum_fits x y h k = (omega (arith, ints), omega (arith, ints))

count_fits : (n : ℕ) (y : ℤ) → n ≤ 16383 → Within 1000000000 y → Within 2000000000 (pos n +ℤ y)
count_fits n y h k = (omega (arith, ints), omega (arith, ints))

-- a lane of each operation
plain_sum : (x y : ℤ) → FitsSigned w32 x → FitsSigned w32 y → FitsSigned w32 (x +ℤ y) → to_z w32 ((of_z w32 x + of_z w32 y) % 4294967296) ≡ x +ℤ y
plain_sum x y f g s = grind (arith, ints)

pub lane_sum : (x y : ℤ) → Within 1000000000 x → Within 1000000000 y → to_z w32 (plus32 (of_z w32 x) (of_z w32 y)) ≡ x +ℤ y
lane_sum x y h k = plain_sum x y (fits_lane x (half_fits x h)) (fits_lane y (half_fits y k)) (fits_lane (x +ℤ y) (sum_fits x y h k))

swapped : (x y : ℤ) → x +ℤ y ≡ y +ℤ x
swapped x y = omega (arith, ints)

pub lane_added : (y x : ℤ) → Within 1000000000 y → Within 1000000000 x → to_z w32 (plus32 (of_z w32 y) (of_z w32 x)) ≡ x +ℤ y
lane_added y x h k = lane_sum y x h k ∙ swapped y x

plain_count : (n : ℕ) (y : ℤ) → n ≤ 16383 → FitsSigned w32 y → FitsSigned w32 (pos n +ℤ y) → to_z w32 ((n + of_z w32 y) % 4294967296) ≡ pos n +ℤ y
plain_count n y h f s = grind (arith, ints)

pub lane_count : (n : ℕ) (y : ℤ) → n ≤ 16383 → Within 1000000000 y → to_z w32 (plus32 (wide32 n) (of_z w32 y)) ≡ pos n +ℤ y
lane_count n y h k = plain_count n y h (fits_lane y (half_fits y k)) (fits_lane (pos n +ℤ y) (count_fits n y h k))

below_max : (x y : ℤ) → x <ℤ y → y ≡ int_max x y
below_max x y h = omega (arith, ints, clamps)

above_max : (x y : ℤ) → y ≤ℤ x → x ≡ int_max x y
above_max x y h = omega (arith, ints, clamps)

pick_max : (x y : ℤ) (t : Bool) → lt_z x y ≡ t → to_z w32 (of_z w32 x) ≡ x → to_z w32 (of_z w32 y) ≡ y → to_z w32 (cond (top 31 (cond t 4294967295 0)) (of_z w32 y) (of_z w32 x)) ≡ int_max x y
pick_max x y true e ex ey = let h : x <ℤ y = grind (arith, ints) in ey ∙ below_max x y h
pick_max x y false e ex ey = let h : y ≤ℤ x = grind (arith, ints) in ex ∙ above_max x y h

pub fit_max : (x y : ℤ) → FitsSigned w32 x → FitsSigned w32 y → to_z w32 (cond (top 31 (less32 (of_z w32 x) (of_z w32 y))) (of_z w32 y) (of_z w32 x)) ≡ int_max x y
fit_max x y h k =
    let ex = to_z-of_z w32 x h in
    let ey = to_z-of_z w32 y k in
    ap (λ (t : Bool). to_z w32 (cond (top 31 (cond t 4294967295 0)) (of_z w32 y) (of_z w32 x))) (ap₂ lt_z ex ey) ∙ pick_max x y (lt_z x y) refl ex ey

pub lane_max : (x y : ℤ) → Within 2000000000 x → Within 2000000000 y → to_z w32 (cond (top 31 (less32 (of_z w32 x) (of_z w32 y))) (of_z w32 y) (of_z w32 x)) ≡ int_max x y
lane_max x y h k = fit_max x y (fits_lane x h) (fits_lane y k)

-- the same in bits, for a lane that is worked on further
pub bits_sum : (x y : ℤ) → Within 1000000000 x → Within 1000000000 y → plus32 (of_z w32 x) (of_z w32 y) ≡ of_z w32 (x +ℤ y)
bits_sum x y h k = plain_bits x y (fits_lane x (half_fits x h)) (fits_lane y (half_fits y k)) (fits_lane (x +ℤ y) (sum_fits x y h k))
  where
    plain_bits : (x y : ℤ) → FitsSigned w32 x → FitsSigned w32 y → FitsSigned w32 (x +ℤ y) → (of_z w32 x + of_z w32 y) % 4294967296 ≡ of_z w32 (x +ℤ y)
    plain_bits x y f g s = grind (arith, ints)

-- the greater of two lanes
abbrev pub max32 : ℕ → ℕ → ℕ
max32 a b = cond (top 31 (less32 a b)) b a

pick_bits : (x y : ℤ) (t : Bool) → lt_z x y ≡ t → cond (top 31 (cond t 4294967295 0)) (of_z w32 y) (of_z w32 x) ≡ of_z w32 (int_max x y)
pick_bits x y true e = let h : x <ℤ y = grind (arith, ints) in ap (of_z w32) (below_max x y h)
pick_bits x y false e = let h : y ≤ℤ x = grind (arith, ints) in ap (of_z w32) (above_max x y h)

pub bits_max : (x y : ℤ) → FitsSigned w32 x → FitsSigned w32 y → max32 (of_z w32 x) (of_z w32 y) ≡ of_z w32 (int_max x y)
bits_max x y h k =
    ap (λ (t : Bool). cond (top 31 (cond t 4294967295 0)) (of_z w32 y) (of_z w32 x)) (ap₂ lt_z (to_z-of_z w32 x h) (to_z-of_z w32 y k)) ∙ pick_bits x y (lt_z x y) refl

pub max_fits : (x y : ℤ) → FitsSigned w32 x → FitsSigned w32 y → FitsSigned w32 (int_max x y)
max_fits x y h k = ⊎_elim (λ e. subst (FitsSigned w32) (sym e) h) (λ e. subst (FitsSigned w32) (sym e) k) (max_cases x y)

-- the greatest of four lanes
pub lane_greatest : (a b c d : ℤ) → FitsSigned w32 a → FitsSigned w32 b → FitsSigned w32 c → FitsSigned w32 d
    → to_z w32 (max32 (max32 (of_z w32 a) (of_z w32 b)) (max32 (of_z w32 c) (of_z w32 d))) ≡ int_max (int_max a b) (int_max c d)
lane_greatest a b c d ha hb hc hd =
    ap₂ (λ (m n : ℕ). to_z w32 (max32 m n)) (bits_max a b ha hb) (bits_max c d hc hd) ∙ fit_max (int_max a b) (int_max c d) (max_fits a b ha hb) (max_fits c d hc hd)

-- the greater of two sums
pub lane_best : (a x b y : ℤ) → Within 1000000000 a → Within 1000000000 x → Within 1000000000 b → Within 1000000000 y
    → to_z w32 (max32 (plus32 (of_z w32 a) (of_z w32 x)) (plus32 (of_z w32 b) (of_z w32 y))) ≡ int_max (a +ℤ x) (b +ℤ y)
lane_best a x b y ha hx hb hy =
    ap₂ (λ (m n : ℕ). to_z w32 (max32 m n)) (bits_sum a x ha hx) (bits_sum b y hb hy) ∙ lane_max (a +ℤ x) (b +ℤ y) (sum_fits a x ha hx) (sum_fits b y hb hy)

-- what holds of each of two places
pub at_two_places : (P : ℕ → Type 0) → P 0 → P 1 → (j : ℕ) → j < 2 → P j
at_two_places P p q zero h = p
at_two_places P p q (suc zero) h = q
at_two_places P p q (suc (suc j)) h = absurd (omega arith)

-- and of each of four
pub at_four_places : (P : ℕ → Type 0) → P 0 → P 1 → P 2 → P 3 → (j : ℕ) → j < 4 → P j
at_four_places P p0 p1 p2 p3 zero h = p0
at_four_places P p0 p1 p2 p3 (suc zero) h = p1
at_four_places P p0 p1 p2 p3 (suc (suc zero)) h = p2
at_four_places P p0 p1 p2 p3 (suc (suc (suc zero))) h = p3
at_four_places P p0 p1 p2 p3 (suc (suc (suc (suc j)))) h = absurd (omega arith)

-- a list of four numbers, written out
pub four_numbers : (P : List ℤ → Type 0) → ((a b c d : ℤ) → P (a ∷ b ∷ c ∷ d ∷ [])) → (xs : List ℤ) → length xs ≡ 4 → P xs
four_numbers P k [] e = absurd (omega arith)
four_numbers P k (a ∷ []) e = absurd (omega arith)
four_numbers P k (a ∷ b ∷ []) e = absurd (omega arith)
four_numbers P k (a ∷ b ∷ c ∷ []) e = absurd (omega arith)
four_numbers P k (a ∷ b ∷ c ∷ d ∷ []) e = k a b c d
four_numbers P k (a ∷ b ∷ c ∷ d ∷ f ∷ xs) e = absurd (omega arith)

-- the greater of two sums of what stands around an edge and the edge
around_fits : (a x : ℤ) → Within 1700000000 a → Within 147447 x → Within 2000000000 (a +ℤ x)
around_fits a x h k = (omega (arith, ints), omega (arith, ints))

bits_around : (a x : ℤ) → Within 1700000000 a → Within 147447 x → plus32 (of_z w32 a) (of_z w32 x) ≡ of_z w32 (a +ℤ x)
bits_around a x h k = around_bits a x (fits_lane a (wider 1700000000 2000000000 a (lit≤ tt) h)) (fits_lane x (wider 147447 2000000000 x (lit≤ tt) k)) (fits_lane (a +ℤ x) (around_fits a x h k))
  where
    around_bits : (x y : ℤ) → FitsSigned w32 x → FitsSigned w32 y → FitsSigned w32 (x +ℤ y) → (of_z w32 x + of_z w32 y) % 4294967296 ≡ of_z w32 (x +ℤ y)
    around_bits x y f g s = grind (arith, ints)

-- the greater of two such sums
pub lane_joined : (a x b y : ℤ) → Within 1700000000 a → Within 147447 x → Within 1700000000 b → Within 147447 y
    → to_z w32 (max32 (plus32 (of_z w32 a) (of_z w32 x)) (plus32 (of_z w32 b) (of_z w32 y))) ≡ int_max (a +ℤ x) (b +ℤ y)
lane_joined a x b y ha hx hb hy =
    ap₂ (λ (m n : ℕ). to_z w32 (max32 m n)) (bits_around a x ha hx) (bits_around b y hb hy) ∙ lane_max (a +ℤ x) (b +ℤ y) (around_fits a x ha hx) (around_fits b y hb hy)

-- the sums that lead to each state, of which the second four are those from the odd states
abbrev pub forward_sums : List ℕ → List ℕ → List ℕ
forward_sums r e = zip2 plus32 (pick_l 0 (r ++ r) (0 ∷ 2 ∷ 0 ∷ 2 ∷ 1 ∷ 3 ∷ 1 ∷ 3 ∷ [])) e

-- the greater of the two halves, lane by lane
abbrev pub halves32 : List ℕ → List ℕ
halves32 s = greater32 (pick_l 0 (s ++ s) (0 ∷ 1 ∷ 2 ∷ 3 ∷ [])) (pick_l 0 (s ++ s) (4 ∷ 5 ∷ 6 ∷ 7 ∷ []))

-- the greatest of the even lanes and of the odd ones
abbrev pub quarter32 : List ℕ → List ℕ
quarter32 s = greater32 (pick_l 0 (s ++ s) (0 ∷ 1 ∷ [])) (pick_l 0 (s ++ s) (2 ∷ 3 ∷ []))

-- the greatest of the even places and of the odd ones
abbrev pub ends_of : List ℤ → ℕ → ℤ
ends_of b j = int_max (int_max (number_at b j) (number_at b (4 + j))) (int_max (number_at b (2 + j)) (number_at b (6 + j)))

-- a list of two numbers, written out
pub two_numbers : (P : List ℤ → Type 0) → ((a b : ℤ) → P (a ∷ b ∷ [])) → (xs : List ℤ) → length xs ≡ 2 → P xs
two_numbers P k [] e = absurd (omega arith)
two_numbers P k (a ∷ []) e = absurd (omega arith)
two_numbers P k (a ∷ b ∷ []) e = k a b
two_numbers P k (a ∷ b ∷ c ∷ xs) e = absurd (omega arith)

-- a pair, four times over
abbrev pub paired8 : List ℕ → List ℕ
paired8 a = pick_l 0 (a ++ a) (0 ∷ 1 ∷ 0 ∷ 1 ∷ 0 ∷ 1 ∷ 0 ∷ 1 ∷ [])

-- the greater of the edges of both states, those of the second turned
abbrev pub joined32 : List ℤ → List ℤ → List ℤ → List ℤ → List ℕ
joined32 a f b g = greater32 (zip2 plus32 (paired8 (map bits32 a)) (lanes8 f)) (zip2 plus32 (paired8 (map bits32 b)) (turned8 (lanes8 g)))

-- a lane of a difference
abbrev pub minus32 : ℕ → ℕ → ℕ
minus32 = act2 wrap_sub (s_int w32) (s_int w32) (s_int w32)

pub plain_gap : (x y : ℤ) → FitsSigned w32 x → FitsSigned w32 y → FitsSigned w32 (x -ℤ y) → to_z w32 (minus32 (of_z w32 x) (of_z w32 y)) ≡ x -ℤ y
plain_gap x y f g s = grind (arith, ints)

-- the sum of what a state scores before a stage and from it on
bits_after : (a x : ℤ) → Within 600000000 a → Within 600049149 x → plus32 (of_z w32 a) (of_z w32 x) ≡ of_z w32 (a +ℤ x)
bits_after a x h k = after_bits a x (fits_lane a (wider 600000000 2000000000 a (lit≤ tt) h)) (fits_lane x (wider 600049149 2000000000 x (lit≤ tt) k)) (after_fits a x h k)
  where
    after_bits : (x y : ℤ) → FitsSigned w32 x → FitsSigned w32 y → FitsSigned w32 (x +ℤ y) → (of_z w32 x + of_z w32 y) % 4294967296 ≡ of_z w32 (x +ℤ y)
    after_bits x y f g s = grind (arith, ints)

    after_size : (a x : ℤ) → Within 600000000 a → Within 600049149 x → Within 2000000000 (a +ℤ x)
    after_size a x h k = (omega (arith, ints), omega (arith, ints))

    after_fits : (a x : ℤ) → Within 600000000 a → Within 600049149 x → FitsSigned w32 (a +ℤ x)
    after_fits a x h k = fits_lane (a +ℤ x) (after_size a x h k)

-- the greatest of four such sums
abbrev pub best4 : ℕ → ℕ → ℕ → ℕ → ℕ
best4 a b c d = max32 (max32 a b) (max32 c d)

bits_best : (f g : ℕ → ℤ) → ((p : ℕ) → p < 4 → Within 600000000 (f p)) → ((p : ℕ) → p < 4 → Within 600049149 (g p))
    → best4 (plus32 (of_z w32 (f 0)) (of_z w32 (g 0))) (plus32 (of_z w32 (f 1)) (of_z w32 (g 1))) (plus32 (of_z w32 (f 2)) (of_z w32 (g 2))) (plus32 (of_z w32 (f 3)) (of_z w32 (g 3))) ≡ of_z w32 (best_sum f g)
bits_best f g hf hg =
    let e : (p : ℕ) → p < 4 → plus32 (of_z w32 (f p)) (of_z w32 (g p)) ≡ of_z w32 (f p +ℤ g p) = λ p l. bits_after (f p) (g p) (hf p l) (hg p l) in
    let s : (p : ℕ) → p < 4 → FitsSigned w32 (f p +ℤ g p) = λ p l. fits (f p +ℤ g p) (after_within_row f g p l hf hg) in
    ap₂ (λ (x y : ℕ). max32 x y)
    (ap₂ (λ (x y : ℕ). max32 x y) (e 0 (lit< tt)) (e 1 (lit< tt)) ∙ bits_max (f 0 +ℤ g 0) (f 1 +ℤ g 1) (s 0 (lit< tt)) (s 1 (lit< tt)))
    (ap₂ (λ (x y : ℕ). max32 x y) (e 2 (lit< tt)) (e 3 (lit< tt)) ∙ bits_max (f 2 +ℤ g 2) (f 3 +ℤ g 3) (s 2 (lit< tt)) (s 3 (lit< tt)))
    ∙ bits_max (int_max (f 0 +ℤ g 0) (f 1 +ℤ g 1)) (int_max (f 2 +ℤ g 2) (f 3 +ℤ g 3))
    (max_fits (f 0 +ℤ g 0) (f 1 +ℤ g 1) (s 0 (lit< tt)) (s 1 (lit< tt))) (max_fits (f 2 +ℤ g 2) (f 3 +ℤ g 3) (s 2 (lit< tt)) (s 3 (lit< tt)))
  where
    sum_size : (a x : ℤ) → Within 600000000 a → Within 600049149 x → Within 1300000000 (a +ℤ x)
    sum_size a x h k = (omega (arith, ints), omega (arith, ints))

    after_within_row : (f g : ℕ → ℤ) (p : ℕ) → p < 4 → ((p : ℕ) → p < 4 → Within 600000000 (f p)) → ((p : ℕ) → p < 4 → Within 600049149 (g p)) → Within 1300000000 (f p +ℤ g p)
    after_within_row f g p l hf hg = sum_size (f p) (g p) (hf p l) (hg p l)

-- the greatest of four sums less the greatest of four others
pub lane_gap : (f g h : ℕ → ℤ) → ((p : ℕ) → p < 4 → Within 600000000 (f p)) → ((p : ℕ) → p < 4 → Within 600049149 (g p)) → ((p : ℕ) → p < 4 → Within 600049149 (h p))
    → to_z w32 (minus32 (best4 (plus32 (of_z w32 (f 0)) (of_z w32 (g 0))) (plus32 (of_z w32 (f 1)) (of_z w32 (g 1))) (plus32 (of_z w32 (f 2)) (of_z w32 (g 2))) (plus32 (of_z w32 (f 3)) (of_z w32 (g 3))))
    (best4 (plus32 (of_z w32 (f 0)) (of_z w32 (h 0))) (plus32 (of_z w32 (f 1)) (of_z w32 (h 1))) (plus32 (of_z w32 (f 2)) (of_z w32 (h 2))) (plus32 (of_z w32 (f 3)) (of_z w32 (h 3))))) ≡ best_sum f g -ℤ best_sum f h
lane_gap f g h hf hg hh =
    ap₂ (λ (x y : ℕ). to_z w32 (minus32 x y)) (bits_best f g hf hg) (bits_best f h hf hh)
    ∙ plain_gap (best_sum f g) (best_sum f h) (fits (best_sum f g) (best_within f g hf hg)) (fits (best_sum f h) (best_within f h hf hh)) (fits (best_sum f g -ℤ best_sum f h) (best_gap f g h hg hh))

-- lanes of two vectors
abbrev pub shuffled : List ℕ → List ℕ → List ℕ → List ℕ
shuffled a b ks = pick_l 0 (a ++ b) ks

-- the greater of neighbours
abbrev pub pairs32 : List ℕ → List ℕ → List ℕ
pairs32 a b = greater32 (shuffled a b (0 ∷ 2 ∷ 4 ∷ 6 ∷ [])) (shuffled a b (1 ∷ 3 ∷ 5 ∷ 7 ∷ []))

-- the greatest of each exchange
abbrev pub greatest32 : List ℕ → List ℕ → List ℕ
greatest32 a b = pairs32 (pairs32 a (shuffled a b (0 ∷ 5 ∷ 2 ∷ 7 ∷ []))) (pairs32 (shuffled a b (0 ∷ 5 ∷ 6 ∷ 3 ∷ [])) (shuffled a b (0 ∷ 5 ∷ 6 ∷ 3 ∷ [])))

-- what the exchanges tell apart
abbrev pub gaps32 : List ℕ → List ℕ → List ℕ → List ℕ
gaps32 f z o = zip2 minus32 (greatest32 (zip2 plus32 f o) (zip2 plus32 f z)) (greatest32 (zip2 plus32 f z) (zip2 plus32 f o))
