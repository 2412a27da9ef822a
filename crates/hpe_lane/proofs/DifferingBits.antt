-- Laws of the sums over differing bits.
use Rattle.std.proofs.Common.{◌≡◌, ℕ, zero, suc, ◌+◌, ◌-◌, ◌*◌, ◌/◌, ◌%◌, ◌^◌, ◌<◌, ◌≤◌, sym, ◌∙◌, ap, ap₂, subst, refl, arith, ℤ, pos, ◌+ℤ◌, List, [], ◌∷◌, ◌++◌, ⊎_elim, add-one, drop, get_or, to_z, of_z, w32, length, cond, Bool, true, false}
use Rattle.std.specs.Prelude.{nat_eq}
use Rattle.std.proofs.Math.Nat.{two-pow-succ, div-lt_iff_lt-mul, mul-add-div_right}
use Rattle.std.proofs.Math.Pow.{pow_pos, pow_mono}
use Rattle.std.proofs.lemmas.Nat.{div-mul-add}
use Rattle.std.proofs.lemmas.Int.{ints}
use Rattle.std.proofs.lemmas.Bool.{cases_lt}
use Rattle.std.proofs.lemmas.List.{get_or-append-add, length-drop}
use Rattle.std.proofs.Math.Seq.{drop-cons}
use Rattle.std.proofs.Math.ListN.{get_or-append}
use Rattle.std.proofs.Math.IntN.{+ℤ_idl}
use Rattle.hpe_base.specs.Sizes.{number_at, Within, AllWithin}
use Rattle.hpe_lane.proofs.Sizes.{zero_within, wider, drop_within}
use Rattle.hpe_lane.specs.Edges.{gray_from}

double : (a q v : ℕ) → a * (q + q) + v ≡ (a + a) * q + v
double a q v = omega arith

even_more : (a n : ℕ) → (a + a + n) % 2 ≡ n % 2
even_more a n = omega arith

-- what stands above the bits that count plays no part
pub gray-low : (p : ℕ) (l : List ℤ) (a v : ℕ) → gray_from p l (a * 2 ^ length l + v) ≡ gray_from p l v
gray-low p [] a v = refl
gray-low p (x ∷ l) a v =
    let q : ℕ = 2 ^ length l in
    let e : a * 2 ^ suc (length l) + v ≡ (a + a) * q + v = ap (λ (k : ℕ). a * k + v) (two-pow-succ (length l)) ∙ double a q v in
    let bit : ((a + a) * q + v) / q % 2 ≡ v / q % 2 = ap (λ (k : ℕ). k % 2) (mul-add-div_right (pow_pos (length l)) (a + a) v) ∙ even_more a (v / q) in
    ap (λ (w : ℕ). gray_from p (x ∷ l) w) e
    ∙ ap (λ (b : ℕ). cond (nat_eq b p) (pos 0) x +ℤ gray_from b l ((a + a) * q + v)) bit
    ∙ ap (λ (z : ℤ). cond (nat_eq (v / q % 2) p) (pos 0) x +ℤ z) (gray-low (v / q % 2) l (a + a) v)

bit_small : (b : ℕ) → b < 2 → b % 2 ≡ b
bit_small b h = omega arith

-- the first of the bits, and the rest
pub gray-cons : (p : ℕ) (x : ℤ) (l : List ℤ) (b w : ℕ) → b < 2 → w < 2 ^ length l → gray_from p (x ∷ l) (b * 2 ^ length l + w) ≡ cond (nat_eq b p) (pos 0) x +ℤ gray_from b l w
gray-cons p x l b w low below =
    ap (λ (c : ℕ). cond (nat_eq c p) (pos 0) x +ℤ gray_from c l (b * 2 ^ length l + w)) (ap (λ (k : ℕ). k % 2) (div-mul-add b (2 ^ length l) w below) ∙ bit_small b low)
    ∙ ap (λ (z : ℤ). cond (nat_eq b p) (pos 0) x +ℤ z) (gray-low b l b w)

same_test : (b p : ℕ) → b < 2 → p < 2 → nat_eq (1 - b) (1 - p) ≡ nat_eq b p
same_test zero zero h k = refl
same_test zero (suc zero) h k = refl
same_test (suc zero) zero h k = refl
same_test (suc zero) (suc zero) h k = refl
same_test b (suc (suc p)) h k = absurd (omega arith)
same_test (suc (suc b)) p h k = absurd (omega arith)

mirrored : (q b w : ℕ) → b < 2 → w < q → q + q - 1 - (b * q + w) ≡ (1 - b) * q + (q - 1 - w)
mirrored q zero w h k = omega arith
mirrored q (suc zero) w h k = omega arith
mirrored q (suc (suc b)) w h k = absurd (omega arith)

below_two : (v q : ℕ) → 0 < q → v < q + q → v / q < 2
below_two v q up h = grind (arith, div-lt_iff_lt-mul)

-- all bits turned, the one before them too
pub gray-turned : (p : ℕ) (l : List ℤ) (v : ℕ) → p < 2 → v < 2 ^ length l → gray_from (1 - p) l (2 ^ length l - 1 - v) ≡ gray_from p l v
gray-turned p [] v h k = refl
gray-turned p (x ∷ l) v h k =
    let q : ℕ = 2 ^ length l in
    let up : 0 < q = pow_pos (length l) in
    let two : 2 ^ suc (length l) ≡ q + q = two-pow-succ (length l) in
    let b : ℕ = v / q in
    let w : ℕ = v % q in
    let split : v ≡ b * q + w = omega arith in
    let wq : w < q = omega arith in
    let b2 : b < 2 = below_two v q up (subst (λ (n : ℕ). v < n) two k) in
    ap (λ (n : ℕ). gray_from (1 - p) (x ∷ l) (n - 1 - v)) two
    ∙ ap (λ (n : ℕ). gray_from (1 - p) (x ∷ l) (q + q - 1 - n)) split
    ∙ ap (λ (n : ℕ). gray_from (1 - p) (x ∷ l) n) (mirrored q b w b2 wq)
    ∙ gray-cons (1 - p) x l (1 - b) (q - 1 - w) (omega arith) (omega arith)
    ∙ ap₂ (λ (t : Bool) (z : ℤ). cond t (pos 0) x +ℤ z) (same_test b p b2 h) (gray-turned b l w b2 wq)
    ∙ sym (gray-cons p x l b w b2 wq)
    ∙ ap (λ (n : ℕ). gray_from p (x ∷ l) n) (sym split)

pub two_halves : (k m : ℕ) → k < m → 2 ^ k + 2 ^ k ≤ 2 ^ m
two_halves k m h = let e : 2 ^ suc k ≡ 2 ^ k + 2 ^ k = two-pow-succ k in let p : 2 ^ suc k ≤ 2 ^ m = pow_mono {i = suc k} {j = m} h in omega arith

within_more : (most n : ℕ) (t : Bool) (x z : ℤ) → Within most x → Within (n * most) z → Within (suc n * most) (cond t (pos 0) x +ℤ z)
within_more most n true x z h k = (omega (arith, ints), omega (arith, ints))
within_more most n false x z h k = (omega (arith, ints), omega (arith, ints))

-- the sum is at most what the numbers can give
pub gray-within : (most p : ℕ) (l : List ℤ) (v : ℕ) → AllWithin most l → Within (length l * most) (gray_from p l v)
gray-within most p [] v f = (omega (arith, ints), omega (arith, ints))
gray-within most p (x ∷ l) v f =
    let rest = gray-within most (v / 2 ^ length l % 2) l v (λ i. f (suc i)) in
    within_more most (length l) (nat_eq (v / 2 ^ length l % 2) p) x (gray_from (v / 2 ^ length l % 2) l v) (f 0) rest

zero_times : (v q : ℕ) → v ≡ 0 * q + v
zero_times v q = omega arith

one_times : (v q : ℕ) → q + v ≡ 1 * q + v
one_times v q = omega arith

gray_front : (x : ℤ) (l : List ℤ) (v : ℕ) → v < 2 ^ length l → gray_from 0 (x ∷ l) v ≡ gray_from 0 l v
gray_front x l v h =
    ap (gray_from 0 (x ∷ l)) (zero_times v (2 ^ length l)) ∙ gray-cons 0 x l 0 v (omega arith) h ∙ +ℤ_idl (gray_from 0 l v)

gray_back : (x : ℤ) (l : List ℤ) (j : ℕ) → j < 2 ^ length l → gray_from 0 (x ∷ l) (2 ^ length l + j) ≡ x +ℤ gray_from 0 l (2 ^ length l - 1 - j)
gray_back x l j h =
    ap (gray_from 0 (x ∷ l)) (one_times j (2 ^ length l)) ∙ gray-cons 0 x l 1 j (omega arith) h ∙ ap (λ (z : ℤ). x +ℤ z) (sym (gray-turned 1 l j (omega arith) h))

-- one number more in front
pub gray_step : (x : ℤ) (l low high rest : List ℤ) → length low ≡ 2 ^ length l → length high ≡ 2 ^ length l
    → ((v : ℕ) → v < 2 ^ length l → number_at low v ≡ gray_from 0 l v)
    → ((j : ℕ) → j < 2 ^ length l → number_at high j ≡ x +ℤ number_at low (2 ^ length l - 1 - j))
    → (v : ℕ) → v < 2 ^ length l + 2 ^ length l → number_at (low ++ (high ++ rest)) v ≡ gray_from 0 (x ∷ l) v
gray_step x l low high rest ll lh front back v h =
    ⊎_elim
    (λ (p : v < 2 ^ length l). get_or-append low (high ++ rest) (pos 0) v (omega arith) ∙ front v p ∙ sym (gray_front x l v p))
    (λ (p : 2 ^ length l ≤ v).
    let j : ℕ = v - 2 ^ length l in
    let q : j < 2 ^ length l = omega arith in
    let e : v ≡ length low + j = omega arith in
    let f : 2 ^ length l + j ≡ v = omega arith in
    let g : 2 ^ length l - 1 - j < 2 ^ length l = omega arith in
    ap (number_at (low ++ (high ++ rest))) e ∙ get_or-append-add low (high ++ rest) j (pos 0) ∙ get_or-append high rest (pos 0) j (omega arith)
    ∙ back j q ∙ ap (λ (z : ℤ). x +ℤ z) (front (2 ^ length l - 1 - j) g) ∙ sym (gray_back x l j q) ∙ ap (gray_from 0 (x ∷ l)) f)
    (cases_lt v (2 ^ length l))

lanes_cons : (m : ℕ) (x : ℤ) (xs : List ℤ) → Within m x → AllWithin m xs → (i : ℕ) → Within m (number_at (x ∷ xs) i)
lanes_cons m x xs h f zero = h
lanes_cons m x xs h f (suc i) = f i

front_below : (n i : ℕ) → i < n → suc i < suc n
front_below n i h = omega arith

first_below : (n : ℕ) → 0 < suc n
first_below n = omega arith

-- a bound of the elements is a bound of the list
pub list_within : (m : ℕ) (xs : List ℤ) → ((i : ℕ) → i < length xs → Within m (number_at xs i)) → AllWithin m xs
list_within m [] f = λ i. zero_within m
list_within m (x ∷ xs) f = λ i. lanes_cons m x xs (f 0 (first_below (length xs))) (list_within m xs (λ k h. f (suc k) (front_below (length xs) k h))) i

seven : (k : ℕ) → k ≤ 7 → k * 16383 ≤ 114681
seven k h = omega arith

suffix_long : (m k : ℕ) → k ≤ m → m - (m - k) ≡ k
suffix_long m k h = omega arith

pub gray_low_within : (l : List ℤ) (k half : ℕ) (out low high : List ℤ) → length l ≤ 8 → k < length l → out ≡ low ++ high → length low ≡ half → AllWithin 16383 l
    → ((v : ℕ) → v < half → number_at out v ≡ gray_from 0 (drop (length l - k) l) v) → AllWithin 114681 low
gray_low_within l k half out low high short lt whole ll within done =
    list_within 114681 low (λ i h.
    let p : i < half = omega arith in
    let e : number_at low i ≡ gray_from 0 (drop (length l - k) l) i = sym (get_or-append low high (pos 0) i h) ∙ ap (λ (xs : List ℤ). number_at xs i) (sym whole) ∙ done i p in
    let n : length (drop (length l - k) l) ≡ k = length-drop (length l - k) l ∙ suffix_long (length l) k (omega arith) in
    let w = gray-within 16383 0 (drop (length l - k) l) i (drop_within 16383 (length l - k) l within) in
    let cap : length (drop (length l - k) l) * 16383 ≤ 114681 = subst (λ (j : ℕ). j * 16383 ≤ 114681) (sym n) (seven k (omega arith)) in
    subst (Within 114681) (sym e) (wider (length (drop (length l - k) l) * 16383) 114681 (gray_from 0 (drop (length l - k) l) i) cap w))

before_it : (m k : ℕ) → k < m → suc (m - (k + 1)) ≡ m - k
before_it m k h = omega arith

same_place : (m k : ℕ) → k < m → m - 1 - k ≡ m - (k + 1)
same_place m k h = omega arith

next_half : (k : ℕ) → 2 ^ (k + 1) ≡ 2 ^ k + 2 ^ k
next_half k = ap (λ (j : ℕ). 2 ^ j) (add-one k) ∙ two-pow-succ k

next_two : (half k : ℕ) → half ≡ 2 ^ k → half * 2 ≡ 2 ^ (k + 1)
next_two half k e = let n = next_half k in omega arith

fits_number : (z : ℤ) → Within 16383 z → to_z w32 (of_z w32 z) ≡ z
fits_number z h = omega (arith, ints)

pub gray_more : (l : List ℤ) (k half : ℕ) (out low back high rest : List ℤ) → k < length l → half ≡ 2 ^ k → out ≡ low ++ back → length low ≡ half → length high ≡ half → AllWithin 16383 l
    → ((v : ℕ) → v < half → number_at out v ≡ gray_from 0 (drop (length l - k) l) v)
    → ((j : ℕ) → j < length low → number_at high j ≡ to_z w32 (of_z w32 (get_or l (length l - 1 - k) (pos 0))) +ℤ number_at low (length low - 1 - j))
    → (half * 2 ≡ 2 ^ (k + 1)) × ((v : ℕ) → v < half * 2 → number_at (low ++ (high ++ rest)) v ≡ gray_from 0 (drop (length l - (k + 1)) l) v)
gray_more l k half out low back high rest lt eh whole ll lh within done up =
    let m : ℕ = length l in
    let L : List ℤ = drop (m - k) l in
    let x : ℤ = get_or l (m - 1 - k) (pos 0) in
    let n : length L ≡ k = length-drop (m - k) l ∙ suffix_long m k (omega arith) in
    let two : 2 ^ length L ≡ half = ap (λ (j : ℕ). 2 ^ j) n ∙ sym eh in
    let cons : drop (m - (k + 1)) l ≡ x ∷ L =
    drop-cons l (m - (k + 1)) (pos 0) (omega arith)
    ∙ ap₂ (λ (i j : ℕ). get_or l i (pos 0) ∷ drop j l) (sym (same_place m k lt)) (before_it m k lt) in
    let clean = fits_number x (within (m - 1 - k)) in (
      next_two half k eh,
      λ v h. gray_step x L low high rest (ll ∙ sym two) (lh ∙ sym two)
          (λ w p. sym (get_or-append low back (pos 0) w (omega arith)) ∙ ap (λ (xs : List ℤ). number_at xs w) (sym whole) ∙ done w (omega arith))
          (λ j p. up j (omega arith) ∙ ap₂ (λ (z : ℤ) (q : ℕ). z +ℤ number_at low (q - 1 - j)) clean (ll ∙ sym two))
          v (omega arith)
          ∙ ap (λ (xs : List ℤ). gray_from 0 xs v) (sym cons),
    )

eight : (k : ℕ) → k ≤ 8 → k * 16383 ≤ 131064
eight k h = omega arith

pub gray_scores_within : (l scores : List ℤ) → length l ≤ 8 → length scores ≡ 2 ^ length l → AllWithin 16383 l → ((v : ℕ) → v < 2 ^ length l → number_at scores v ≡ gray_from 0 l v) → AllWithin 131064 scores
gray_scores_within l scores short ls within is =
    list_within 131064 scores (λ i h.
    subst (Within 131064) (sym (is i (subst (λ (n : ℕ). i < n) ls h))) (wider (length l * 16383) 131064 (gray_from 0 l i) (eight (length l) short) (gray-within 16383 0 l i within)))

last_place : (n v : ℕ) → v < n → n - 1 - v < n
last_place n v h = omega arith

pub turned_edges : (l g : List ℤ) (n v : ℕ) → n ≡ 2 ^ length l → v < n → ((w : ℕ) → w < 2 ^ length l → number_at g w ≡ gray_from 0 l w) → number_at g (n - 1 - v) ≡ gray_from 1 l v
turned_edges l g n v e h is =
    is (n - 1 - v) (subst (λ (k : ℕ). n - 1 - v < k) e (last_place n v h)) ∙ ap (λ (k : ℕ). gray_from 0 l (k - 1 - v)) e ∙ gray-turned 1 l v (omega arith) (subst (λ (k : ℕ). v < k) e h)
