-- The division is linear, so that eight steps are one look into a table.
use Rattle.std.proofs.Common.{◌≡◌, ◌++◌, ◌+◌, ◌-◌, ◌*◌, ◌/◌, ◌%◌, ◌^◌, ◌<◌, ◌≤◌, ℕ, List, [], ◌∷◌, refl, length, sym, ◌∙◌, ap, arith, zero, suc, bit_xor, replicate}
use Rattle.std.proofs.Math.Nat.{pow-suc}
use Rattle.std.proofs.lemmas.Nat.{xor_comm, xor_shr, xor_mod, xor_block, xor_lt, mul-mod_first, div-add-mod', mod_below, pow_pos}
use Rattle.std.specs.Int.{bit_at}
use Rattle.std.specs.Int.Bits.{xor_self, xor_zero_l, xor_zero_r, xor_assoc}
use Rattle.std.proofs.lemmas.Nat.Bits.{bit_at_xor, bit_at-suc, bit_at-lt, bit_at_lowest, bit_at_above, bit_at_cat_high}
use Rattle.hpe_base.specs.Bits.{bits_of, number_of, AreBits}
use Rattle.hpe_base.proofs.BitLists.{bit_at-mod, xor_of_bits}
use Rattle.hpe_base.proofs.Numbers.{bits_of-number_of}
use Rattle.hpe_block.specs.Division.{divided, divided_by}
use Rattle.hpe_block.proofs.Division.{divided_same, divided-lt, divided_by-push}

-- two sums, added
xor_swap : (a b c d : ℕ) → bit_xor (bit_xor a b) (bit_xor c d) ≡ bit_xor (bit_xor a c) (bit_xor b d)
xor_swap a b c d =
    xor_assoc a b (bit_xor c d)
    ∙ (ap (bit_xor a) (sym (xor_assoc b c d) ∙ (ap (λ x. bit_xor x d) (xor_comm b c) ∙ xor_assoc c b d))
    ∙ sym (xor_assoc a c (bit_xor b d)))

-- a sum of bits, times a number
xor_scaled : (a b n : ℕ) → a < 2 → b < 2 → bit_xor a b * n ≡ bit_xor (a * n) (b * n)
xor_scaled zero zero n h k = let none : 0 * n ≡ 0 = omega arith in rw none refl
xor_scaled zero (suc zero) n h k = let none : 0 * n ≡ 0 = omega arith in rw none (sym (xor_zero_l (1 * n)))
xor_scaled (suc zero) zero n h k = let none : 0 * n ≡ 0 = omega arith in rw none (sym (xor_zero_r (1 * n)))
xor_scaled (suc zero) (suc zero) n h k = let none : 0 * n ≡ 0 = omega arith in none ∙ sym (xor_self (1 * n))
xor_scaled (suc (suc a)) b n h k = absurd (omega arith)
xor_scaled zero (suc (suc b)) n h k = absurd (omega arith)
xor_scaled (suc zero) (suc (suc b)) n h k = absurd (omega arith)

-- a sum, shifted up
xor_doubled : (x y : ℕ) → bit_xor x y * 2 ≡ bit_xor (x * 2) (y * 2)
xor_doubled x y =
    let plain : (n : ℕ) → n * 2 ^ 1 + 0 ≡ n * 2 = λ n. omega arith in
    sym (plain (bit_xor x y)) ∙ (sym (xor_block 1 x y 0 0 (omega arith) (omega arith))
    ∙ (ap (λ n. bit_xor n (y * 2 ^ 1 + 0)) (plain x) ∙ ap (bit_xor (x * 2)) (plain y)))

-- a step of a sum is the sum of the steps
divided-xor : (check x y a b : ℕ) → x < 2 ^ 32 → y < 2 ^ 32 → a < 2 → b < 2 → divided check (bit_xor x y) (bit_xor a b) ≡ bit_xor (divided check x a) (divided check y b)
divided-xor check x y a b hx hy ha hb =
    let p : ℕ = x / 2 ^ 31 in
    let q : ℕ = y / 2 ^ 31 in
    let up : bit_xor x y * 2 % 2 ^ 32 ≡ bit_xor (x * 2 % 2 ^ 32) (y * 2 % 2 ^ 32) = ap (λ n. n % 2 ^ 32) (xor_doubled x y) ∙ xor_mod (x * 2) (y * 2) 32 in
    let top : bit_xor (bit_xor x y / 2 ^ 31) (bit_xor a b) ≡ bit_xor (bit_xor p a) (bit_xor q b) = ap (λ n. bit_xor n (bit_xor a b)) (xor_shr x y 31) ∙ xor_swap p q a b in
    let added : bit_xor (bit_xor x y / 2 ^ 31) (bit_xor a b) * check ≡ bit_xor (bit_xor p a * check) (bit_xor q b * check) =
    ap (λ n. n * check) top ∙ xor_scaled (bit_xor p a) (bit_xor q b) check (xor_lt 1 p a (omega arith) ha) (xor_lt 1 q b (omega arith) hb) in
    ap (λ n. bit_xor n (bit_xor (bit_xor x y / 2 ^ 31) (bit_xor a b) * check)) up
    ∙ (ap (bit_xor (bit_xor (x * 2 % 2 ^ 32) (y * 2 % 2 ^ 32))) added
    ∙ xor_swap (x * 2 % 2 ^ 32) (y * 2 % 2 ^ 32) (bit_xor p a * check) (bit_xor q b * check))

-- and so of many
divided_by-xor : (check w x y m n : ℕ) → check < 2 ^ 32 → x < 2 ^ 32 → y < 2 ^ 32 →
    divided_by check (bit_xor x y) (bits_of w (bit_xor m n)) ≡ bit_xor (divided_by check x (bits_of w m)) (divided_by check y (bits_of w n))
unfolding divided_by bits_of
divided_by-xor check zero x y m n c hx hy = refl
divided_by-xor check (suc w) x y m n c hx hy =
    let a : ℕ = bit_at m w in
    let b : ℕ = bit_at n w in
    let bit : bit_at (bit_xor m n) w ≡ bit_xor a b = bit_at_xor m n w ∙ sym (xor_of_bits a b (bit_at-lt m w) (bit_at-lt n w)) in
    let step : divided check (bit_xor x y) (bit_at (bit_xor m n) w) ≡ bit_xor (divided check x a) (divided check y b) =
    ap (divided check (bit_xor x y)) bit ∙ divided-xor check x y a b hx hy (bit_at-lt m w) (bit_at-lt n w) in
    ap (λ r. divided_by check r (bits_of w (bit_xor m n))) step
    ∙ divided_by-xor check w (divided check x a) (divided check y b) m n c (divided-lt check x a c hx (bit_at-lt m w)) (divided-lt check y b c hy (bit_at-lt n w))

-- the bits of a number, from place k on
bit_at-shifted : (k n i : ℕ) → bit_at (n / 2 ^ k) i ≡ bit_at n (k + i)
bit_at-shifted k n i =
    let place : k + i - k ≡ i = omega arith in
    sym (ap (λ m. bit_at m (k + i)) (sym (div-add-mod' n (2 ^ k))) ∙ (bit_at_cat_high (n / 2 ^ k) k (n % 2 ^ k) (k + i) (mod_below n (2 ^ k) (pow_pos k)) (omega arith) ∙ ap (bit_at (n / 2 ^ k)) place))

-- the bits that a register begins with only shift it
divided_by-own : (check w r n : ℕ) → w ≤ 32 → r < 2 ^ 32 → ((i : ℕ) → i < w → bit_at n i ≡ bit_at r (32 - w + i)) → divided_by check r (bits_of w n) ≡ r * 2 ^ w % 2 ^ 32
unfolding divided_by bits_of
divided_by-own check zero r n h k same = omega arith
divided_by-own check (suc w) r n h k same =
    let place : 32 - suc w + w ≡ 31 = omega arith in
    let first : r / 2 ^ 31 ≡ bit_at n w = sym (same w (omega arith) ∙ (ap (bit_at r) place ∙ omega arith)) in
    let step : divided check r (bit_at n w) ≡ r * 2 % 2 ^ 32 = divided_same check r (bit_at n w) first in
    let scaled : r * 2 * 2 ^ w ≡ r * 2 ^ suc w = rw (pow-suc 2 w) (grind arith) in
    ap (λ s. divided_by check s (bits_of w n)) step
    ∙ (divided_by-own check w (r * 2 % 2 ^ 32) n (omega arith) (omega arith) (λ i b.
    let half : r * 2 / 2 ≡ r = omega arith in
    let next : 32 - w + i ≡ suc (32 - suc w + i) = omega arith in
    same i (omega arith) ∙ sym (ap (bit_at (r * 2 % 2 ^ 32)) next ∙ (bit_at-mod (r * 2) 32 (suc (32 - suc w + i)) (omega arith) ∙ (bit_at-suc (r * 2) (32 - suc w + i) ∙ ap (λ s. bit_at s (32 - suc w + i)) half))))
    ∙ (mul-mod_first (r * 2) (2 ^ w) (2 ^ 32) ∙ ap (λ s. s % 2 ^ 32) scaled))

-- eight steps, by the remainder of the octet that the register's first octet and the bits add to
pub divided_octet : (check r : ℕ) (bits : List ℕ) → check < 2 ^ 32 → r < 2 ^ 32 → AreBits bits → length bits ≡ 8 →
    bit_xor (r * 2 ^ 8 % 2 ^ 32) (divided_by check 0 (bits_of 8 (bit_xor (r / 2 ^ 24) (number_of bits)))) ≡ divided_by check r bits
divided_octet check r bits c h are long =
    let top : ℕ = r / 2 ^ 24 in
    let n : ℕ = number_of bits in
    let own : divided_by check r (bits_of 8 top) ≡ r * 2 ^ 8 % 2 ^ 32 = divided_by-own check 8 r top (omega arith) h (λ i b. bit_at-shifted 24 r i) in
    let cancel : bit_xor top (bit_xor top n) ≡ n = sym (xor_assoc top top n) ∙ (ap (λ x. bit_xor x n) (xor_self top) ∙ xor_zero_l n) in
    let back : bits_of 8 n ≡ bits = ap (λ w. bits_of w n) (sym long) ∙ bits_of-number_of bits are in
    ap (λ x. bit_xor x (divided_by check 0 (bits_of 8 (bit_xor top n)))) (sym own)
    ∙ (sym (divided_by-xor check 8 r 0 top (bit_xor top n) c h (omega arith))
    ∙ (ap (λ x. divided_by check x (bits_of 8 (bit_xor top (bit_xor top n)))) (xor_zero_r r)
    ∙ ap (divided_by check r) (ap (bits_of 8) cancel ∙ back)))

-- a bit of zeros from a register of zeros
divided_zero : (check : ℕ) → divided check 0 0 ≡ 0
divided_zero check = divided_same check 0 0 refl

-- the last of a number's bits
bits_of-half : (w n : ℕ) → bits_of (suc w) n ≡ bits_of w (n / 2) ++ n % 2 ∷ []
unfolding bits_of
bits_of-half zero n = ap (λ b. b ∷ []) (bit_at_lowest n)
bits_of-half (suc w) n =
    let first : bit_at n (suc w) ≡ bit_at (n / 2) w = bit_at-suc n w in
    let rest : bits_of (suc w) n ≡ bits_of w (n / 2) ++ n % 2 ∷ [] = bits_of-half w n in
    cc

-- the remainder of an octet from that of its half
pub remainder_half : (check n : ℕ) → n < 2 ^ 8 → divided_by check 0 (bits_of 8 n) ≡ divided check (divided_by check 0 (bits_of 8 (n / 2))) (n % 2)
unfolding divided_by bits_of
remainder_half check n h =
    let top : bit_at (n / 2) 7 ≡ 0 = bit_at_above (n / 2) 7 7 (omega arith) (omega arith) in
    let lead : divided check 0 (bit_at (n / 2) 7) ≡ 0 = ap (divided check 0) top ∙ divided_zero check in
    let half : divided_by check 0 (bits_of 8 (n / 2)) ≡ divided_by check 0 (bits_of 7 (n / 2)) = ap (λ r. divided_by check r (bits_of 7 (n / 2))) lead in
    ap (divided_by check 0) (bits_of-half 7 n) ∙ (divided_by-push check 0 (bits_of 7 (n / 2)) (n % 2) ∙ ap (λ r. divided check r (n % 2)) (sym half))

-- zeros leave a register of zeros
divided_by-zeros : (check n : ℕ) → divided_by check 0 (replicate n 0) ≡ 0
unfolding divided_by
divided_by-zeros check zero = refl
divided_by-zeros check (suc n) = ap (λ r. divided_by check r (replicate n 0)) (divided_zero check) ∙ divided_by-zeros check n

-- the remainder of no bit set
pub remainder_zero : (check : ℕ) → divided_by check 0 (bits_of 8 0) ≡ 0
unfolding bits_of
remainder_zero check = divided_by-zeros check 8
