-- What the numbers of a stage score, in two parts.
use Rattle.std.proofs.Common.{◌≡◌, ℕ, zero, suc, ◌+◌, ◌-◌, ◌*◌, ◌/◌, ◌%◌, ◌^◌, ◌<◌, ◌≤◌, ⊎_elim, sym, ◌∙◌, ap, ap₂, subst, arith, ℤ, pos, ◌+ℤ◌, List, [], ◌∷◌, ◌++◌, length, length-append, take, drop, cond}
use Rattle.std.specs.Prelude.{nat_eq}
use Rattle.std.specs.Int.{bit_at}
use Rattle.std.proofs.lemmas.Bool.{cases_lt}
use Rattle.std.proofs.lemmas.Int.{ints}
use Rattle.std.proofs.lemmas.List.{length-drop, take-append-drop}
use Rattle.std.proofs.lemmas.Nat.{div-mul-add, pow-add}
use Rattle.std.proofs.lemmas.Nat.Bits.{bit_at_lowest}
use Rattle.std.proofs.Math.IntN.{+ℤ_idl}
use Rattle.std.proofs.Math.Nat.{div-div-eq-div-mul}
use Rattle.std.proofs.Math.Seq.{take-length}
use Rattle.hpe_base.specs.Sizes.{number_at, Within, AllWithin}
use Rattle.hpe_lane.specs.Edges.{gray_from}
use Rattle.hpe_lane.specs.Parts.{turned_lane, part_sum}
use Rattle.hpe_lane.proofs.Blocks.{take_long}
use Rattle.hpe_lane.proofs.DifferingBits.{gray-low, gray-turned, gray-within, list_within}
use Rattle.hpe_lane.proofs.Sizes.{zero_within, wider}

-- the bit before the numbers that come after l
abbrev last_bit : ℕ → List ℤ → ℕ → ℕ
last_bit p [] w = p
last_bit p (x ∷ l) w = last_bit (bit_at w (length l)) l w

bit_above : (w j k a : ℕ) → j < 2 ^ k → (w * 2 ^ k + j) / 2 ^ (k + a) % 2 ≡ w / 2 ^ a % 2
bit_above w j k a h =
    ap (λ (n : ℕ). n % 2)
    (ap (λ (q : ℕ). (w * 2 ^ k + j) / q) (pow-add 2 k a) ∙ sym (div-div-eq-div-mul (w * 2 ^ k + j) (2 ^ k) (2 ^ a)) ∙ ap (λ (n : ℕ). n / 2 ^ a) (div-mul-add w (2 ^ k) j h))

regroup : (a b c : ℤ) → a +ℤ (b +ℤ c) ≡ (a +ℤ b) +ℤ c
regroup a b c = omega (arith, ints)

-- the numbers of the first bits, and those of the others
gray-split : (p : ℕ) (l lo : List ℤ) (w j : ℕ) → j < 2 ^ length lo → gray_from p (l ++ lo) (w * 2 ^ length lo + j) ≡ gray_from p l w +ℤ gray_from (last_bit p l w) lo j
gray-split p [] lo w j h = gray-low p lo w j ∙ sym (+ℤ_idl (gray_from p lo j))
gray-split p (x ∷ l) lo w j h =
    let v : ℕ = w * 2 ^ length lo + j in
    let b : ℕ = bit_at w (length l) in
    let n : length (l ++ lo) ≡ length lo + length l = omega (arith, length-append l lo) in
    let e : bit_at v (length (l ++ lo)) ≡ b = ap (λ (k : ℕ). v / 2 ^ k % 2) n ∙ bit_above w j (length lo) (length l) h in
    ap (λ (c : ℕ). cond (nat_eq c p) (pos 0) x +ℤ gray_from c (l ++ lo) v) e
    ∙ ap (λ (z : ℤ). cond (nat_eq b p) (pos 0) x +ℤ z) (gray-split b l lo w j h)
    ∙ regroup (cond (nat_eq b p) (pos 0) x) (gray_from b l w) (gray_from (last_bit b l w) lo j)

last_is : (p : ℕ) (x : ℤ) (l : List ℤ) (w : ℕ) → last_bit p (x ∷ l) w ≡ w % 2
last_is p x [] w = bit_at_lowest w
last_is p x (y ∷ l) w = last_is (bit_at w (suc (length l))) y l w

last_whole : (p : ℕ) (l : List ℤ) (w : ℕ) → 1 ≤ length l → last_bit p l w ≡ w % 2
last_whole p [] w h = absurd (omega arith)
last_whole p (x ∷ l) w h = last_is p x l w

-- ---- lanes of a block, turned where it is odd

pub even_lane : (w j : ℕ) → w % 2 ≡ 0 → turned_lane w j ≡ j
even_lane w j e = ap (λ (k : ℕ). cond (nat_eq k 0) j (7 - j)) e

pub odd_lane : (w j : ℕ) → w % 2 ≡ 1 → turned_lane w j ≡ 7 - j
odd_lane w j e = ap (λ (k : ℕ). cond (nat_eq k 0) j (7 - j)) e

-- what holds of even numbers and of odd ones
pub even_or_odd : (P : Type 0) (w : ℕ) → (w % 2 ≡ 0 → P) → (w % 2 ≡ 1 → P) → P
even_or_odd P w f g = ⊎_elim (λ (h : w % 2 < 1). f (omega arith)) (λ (h : 1 ≤ w % 2). g (omega arith)) (cases_lt (w % 2) 1)

pub lane_below : (w j : ℕ) → j < 8 → turned_lane w j < 8
lane_below w j h = even_or_odd (turned_lane w j < 8) w
    (λ e. subst (λ (k : ℕ). k < 8) (sym (even_lane w j e)) h)
    (λ e. subst (λ (k : ℕ). k < 8) (sym (odd_lane w j e)) (omega arith))

pub block_at : (w j : ℕ) → j < 8 → (8 * w + j) / 8 ≡ w
block_at w j h = omega arith

pub lane_at : (w j : ℕ) → j < 8 → (8 * w + j) % 8 ≡ j
lane_at w j h = omega arith

pub part_at : (blocks eight : List ℤ) (w j : ℕ) → j < 8 → number_at blocks w +ℤ number_at eight (turned_lane w j) ≡ part_sum blocks eight (8 * w + j)
part_at blocks eight w j h = ap₂ (λ (a b : ℕ). number_at blocks a +ℤ number_at eight (turned_lane a b)) (sym (block_at w j h)) (sym (lane_at w j h))

eight_turned : (lo : List ℤ) (w j : ℕ) → length lo ≡ 3 → j < 8 → gray_from (w % 2) lo j ≡ gray_from 0 lo (turned_lane w j)
eight_turned lo w j n h = even_or_odd (gray_from (w % 2) lo j ≡ gray_from 0 lo (turned_lane w j)) w
    (λ e. ap (λ (b : ℕ). gray_from b lo j) e ∙ ap (gray_from 0 lo) (sym (even_lane w j e)))
    (λ e. ap (λ (b : ℕ). gray_from b lo j) e ∙ sym (gray-turned 1 lo j (omega arith) (subst (λ (k : ℕ). j < 2 ^ k) (sym n) h))
    ∙ ap (λ (k : ℕ). gray_from 0 lo (2 ^ k - 1 - j)) n ∙ ap (gray_from 0 lo) (sym (odd_lane w j e)))

three_left : (m : ℕ) → 4 ≤ m → m - (m - 3) ≡ 3
three_left m h = omega arith

pub eights_of : (m : ℕ) → 3 ≤ m → 2 ^ m ≡ 2 ^ (m - 3) * 8
eights_of m h = let e : m ≡ m - 3 + 3 = omega arith in ap (λ (k : ℕ). 2 ^ k) e ∙ pow-add 2 (m - 3) 3

block_below : (m v : ℕ) → 4 ≤ m → v < 2 ^ m → v / 8 < 2 ^ (m - 3)
block_below m v h below = let e = eights_of m (omega arith) in omega arith

split_eight : (v : ℕ) → v ≡ v / 8 * 2 ^ 3 + v % 8
split_eight v = omega arith

-- the numbers in blocks
pub gray_parts : (l blocks eight : List ℤ) → 4 ≤ length l
    → ((w : ℕ) → w < 2 ^ (length l - 3) → number_at blocks w ≡ gray_from 0 (take (length l - 3) l) w)
    → ((j : ℕ) → j < 8 → number_at eight j ≡ gray_from 0 (drop (length l - 3) l) j)
    → (v : ℕ) → v < 2 ^ length l → part_sum blocks eight v ≡ gray_from 0 l v
gray_parts l blocks eight long front back v h =
    let k : ℕ = length l - 3 in
    let lo : List ℤ = drop k l in
    let hi : List ℤ = take k l in
    let n : length lo ≡ 3 = length-drop k l ∙ three_left (length l) long in
    let w : ℕ = v / 8 in
    let j : ℕ = v % 8 in
    let lj : j < 8 = omega arith in
    let lw : w < 2 ^ k = block_below (length l) v long h in
    let kl : length hi ≡ k = take_long k l (omega arith) in
    let some : 1 ≤ length hi = omega arith in
    let e : v ≡ w * 2 ^ length lo + j = split_eight v ∙ ap (λ (i : ℕ). v / 8 * 2 ^ i + v % 8) (sym n) in
    ap₂ (λ (a b : ℤ). a +ℤ b) (front w lw) (back (turned_lane w j) (lane_below w j lj) ∙ sym (eight_turned lo w j n lj) ∙ ap (λ (b : ℕ). gray_from b lo j) (sym (last_whole 0 hi w some)))
    ∙ sym (gray-split 0 hi lo w j (subst (λ (i : ℕ). j < 2 ^ i) (sym n) lj))
    ∙ ap (gray_from 0 (hi ++ lo)) (sym e)
    ∙ ap (λ (xs : List ℤ). gray_from 0 xs v) (take-append-drop k l)

-- the last numbers, as the code cuts them
pub tail_whole : (k : ℕ) (l : List ℤ) → take (length l - k) (drop k l) ≡ drop k l
tail_whole k l = ap (λ (n : ℕ). take n (drop k l)) (sym (length-drop k l)) ∙ take-length (drop k l)

-- ---- sizes

pub take_within : (m n : ℕ) (xs : List ℤ) → AllWithin m xs → (i : ℕ) → Within m (number_at (take n xs) i)
take_within m zero xs f i = zero_within m
take_within m (suc n) [] f i = zero_within m
take_within m (suc n) (x ∷ xs) f zero = f 0
take_within m (suc n) (x ∷ xs) f (suc i) = take_within m n xs (λ k. f (suc k)) i

-- the scores of so many numbers are within their sizes
pub gray_all_within : (most : ℕ) (l scores : List ℤ) → length l * 16383 ≤ most → length scores ≡ 2 ^ length l → AllWithin 16383 l → ((v : ℕ) → v < 2 ^ length l → number_at scores v ≡ gray_from 0 l v) → AllWithin most scores
gray_all_within most l scores cap ls within is =
    list_within most scores (λ i h.
    subst (Within most) (sym (is i (subst (λ (n : ℕ). i < n) ls h))) (wider (length l * 16383) most (gray_from 0 l i) cap (gray-within 16383 0 l i within)))

pub five_most : (m : ℕ) → m ≤ 8 → (m - 3) * 16383 ≤ 81915
five_most m h = omega arith

both_small : (x y : ℤ) → Within 81915 x → Within 49149 y → Within 131064 (x +ℤ y)
both_small x y h k = (omega (arith, ints), omega (arith, ints))

pub parts_within : (blocks eight scores : List ℤ) (w : ℕ) → length scores ≡ 8 → AllWithin 81915 blocks → AllWithin 49149 eight
    → ((j : ℕ) → j < 8 → number_at scores j ≡ part_sum blocks eight (8 * w + j)) → AllWithin 131064 scores
parts_within blocks eight scores w long hb he is =
    list_within 131064 scores (λ i h.
    let v : ℕ = 8 * w + i in
    subst (Within 131064) (sym (is i (omega arith))) (both_small (number_at blocks (v / 8)) (number_at eight (turned_lane (v / 8) (v % 8))) (hb (v / 8)) (he (turned_lane (v / 8) (v % 8)))))
