-- A number as a shift register: its bits reversed, its set bits counted, and a bit that comes in at the top.
use Rattle.std.proofs.Common.{◌≡◌, ◌+◌, ◌-◌, ◌*◌, ◌/◌, ◌%◌, ◌^◌, ◌<◌, ℕ, refl, sym, ◌∙◌, ap, arith, sum, zero, suc, bit_and, bit_or, min, count_ones, inl, inr}
use Rattle.std.specs.Int.{bit_at, reverse_bits_onto}
use Rattle.std.specs.Int.Count.{ones, ones_in}
use Rattle.std.proofs.Math.Nat.{mod-eq_of_lt}
use Rattle.std.proofs.lemmas.Nat.{mod-pow-add, mod_below, ones_cat, and_le_l, and_mask, or_shifted, pow_pos}
use Rattle.std.proofs.lemmas.Nat.Bits.{bit_at_and, bit_at-lt, bit_at-suc, bit_at_lowest, bit_at_cat_low, bit_at_cat_high}
use Rattle.std.proofs.lemmas.Bool.{cases_eq}
use Rattle.hpe_base.specs.Lists.{tabulate}
use Rattle.hpe_base.proofs.Tabulated.{tabulate-none, tabulate-same, sum-tabulate-suc}

-- the set bits of a number of one bit
ones_of_bit : (b : ℕ) → b < 2 → count_ones b ≡ b
unfolding ones ones_in
ones_of_bit zero h = refl
ones_of_bit (suc zero) h = refl
ones_of_bit (suc (suc b)) h = absurd (omega arith)

-- the set bits among the low w
ones_below : (w n : ℕ) → count_ones (n % 2 ^ w) ≡ sum (tabulate w (bit_at n))
ones_below zero n =
    let none : n % 2 ^ 0 ≡ 0 = omega arith in
    ap count_ones none ∙ (ones_of_bit 0 (omega arith) ∙ ap sum (sym (tabulate-none (bit_at n))))
ones_below (suc w) n =
    let width : suc w ≡ 1 + w = omega arith in
    let split : n % 2 ^ suc w ≡ bit_at n w * 2 ^ w + n % 2 ^ w = ap (λ k. n % 2 ^ k) width ∙ mod-pow-add n 1 w in
    let top : count_ones (bit_at n w) ≡ bit_at n w = ones_of_bit (bit_at n w) (bit_at-lt n w) in
    let both : count_ones (bit_at n w * 2 ^ w + n % 2 ^ w) ≡ count_ones (bit_at n w) + count_ones (n % 2 ^ w) =
    ones_cat w (bit_at n w) (n % 2 ^ w) (mod_below n (2 ^ w) (pow_pos w)) in
    ap count_ones split ∙ omega (arith, both, top, ones_below w n, sum-tabulate-suc w (bit_at n))

-- the lesser of two bits is their product
least_is_product : (a b : ℕ) → a < 2 → b < 2 → min a b ≡ b * a
least_is_product zero b h k = omega arith
least_is_product (suc zero) b h k = omega arith
least_is_product (suc (suc a)) b h k = absurd (omega arith)

-- the set bits of a register that the taps select
ones_selected : (taps register : ℕ) → register < 2 ^ 8 → count_ones (bit_and register taps) ≡ sum (tabulate 8 (λ i. bit_at taps i * bit_at register i))
ones_selected taps register h =
    let small : bit_and register taps % 2 ^ 8 ≡ bit_and register taps = mod-eq_of_lt (omega (arith, and_le_l register taps)) in
    ap count_ones (sym small) ∙ (ones_below 8 (bit_and register taps) ∙ ap sum (tabulate-same 8 _ _ (λ i b.
    bit_at_and register taps i ∙ least_is_product _ _ (bit_at-lt register i) (bit_at-lt taps i))))

-- the register after a step, as the code computes it
abbrev stepped : ℕ → ℕ → ℕ
stepped taps register = bit_or (bit_and (count_ones (bit_and register taps)) 1 * 128 % 256) (register / 2)

-- the bit that comes in stands above the others
stepped_is : (taps register : ℕ) → register < 2 ^ 8 → stepped taps register ≡ count_ones (bit_and register taps) % 2 * 2 ^ 7 + register / 2
stepped_is taps register h =
    let parity : bit_and (count_ones (bit_and register taps)) 1 ≡ count_ones (bit_and register taps) % 2 = and_mask (count_ones (bit_and register taps)) 1 in
    let top : bit_and (count_ones (bit_and register taps)) 1 * 128 % 256 ≡ count_ones (bit_and register taps) % 2 * 2 ^ 7 = omega arith in
    ap (λ n. bit_or n (register / 2)) top ∙ or_shifted (count_ones (bit_and register taps) % 2) 7 (register / 2) (omega arith)

-- the bits below it are those of before, moved by one
pub stepped_below : (taps register i : ℕ) → register < 2 ^ 8 → i < 7 → bit_at (stepped taps register) i ≡ bit_at register (i + 1)
stepped_below taps register i h k =
    let next : suc i ≡ i + 1 = omega arith in
    ap (λ n. bit_at n i) (stepped_is taps register h)
    ∙ (bit_at_cat_low _ 7 (register / 2) i k ∙ (sym (bit_at-suc register i) ∙ ap (bit_at register) next))

-- the bit that comes in is the sum modulo 2 of those that the taps select
pub stepped_top : (taps register : ℕ) → register < 2 ^ 8 → bit_at (stepped taps register) 7 ≡ sum (tabulate 8 (λ i. bit_at taps i * bit_at register i)) % 2
stepped_top taps register h =
    let parity : ℕ = count_ones (bit_and register taps) % 2 in
    let bit : bit_at parity 0 ≡ parity = omega (arith, bit_at_lowest parity) in
    ap (λ n. bit_at n 7) (stepped_is taps register h)
    ∙ (bit_at_cat_high parity 7 (register / 2) 7 (omega arith) (omega arith) ∙ (bit ∙ ap (λ n. n % 2) (ones_selected taps register h)))

-- the bits above a bit that is appended
bit_at-appended : (a b i : ℕ) → b < 2 → bit_at (a * 2 + b) (suc i) ≡ bit_at a i
bit_at-appended a b i h = let half : (a * 2 + b) / 2 ≡ a = omega arith in bit_at-suc (a * 2 + b) i ∙ ap (λ n. bit_at n i) half

-- the bits above the k reversed ones
reversed_above : (k n a i : ℕ) → bit_at (reverse_bits_onto k n a) (k + i) ≡ bit_at a i
unfolding reverse_bits_onto
reversed_above zero n a i = let e : 0 + i ≡ i = omega arith in ap (bit_at a) e
reversed_above (suc k) n a i =
    let e : suc k + i ≡ k + suc i = omega arith in
    ap (bit_at (reverse_bits_onto k (n / 2) (a * 2 + n % 2))) e ∙ (reversed_above k (n / 2) (a * 2 + n % 2) (suc i) ∙ bit_at-appended a (n % 2) i (omega arith))

-- the k lowest bits of a number, reversed
pub bit_at-reversed : (k n a i : ℕ) → i < k → bit_at (reverse_bits_onto k n a) i ≡ bit_at n (k - 1 - i)
unfolding reverse_bits_onto
bit_at-reversed zero n a i h = absurd (omega arith)
bit_at-reversed (suc k) n a i h =
    elim (cases_eq i k) [
      | inl e ↦
          let at_k : i ≡ k + 0 = omega arith in
          let low : bit_at (a * 2 + n % 2) 0 ≡ n % 2 = omega (arith, bit_at_lowest (a * 2 + n % 2)) in
          let first : 0 ≡ suc k - 1 - i = omega arith in
          ap (bit_at (reverse_bits_onto k (n / 2) (a * 2 + n % 2))) at_k
          ∙ (reversed_above k (n / 2) (a * 2 + n % 2) 0 ∙ (low ∙ (sym (bit_at_lowest n) ∙ ap (bit_at n) first)))
      | inr apart ↦
          let place : suc (k - 1 - i) ≡ suc k - 1 - i = omega arith in
          bit_at-reversed k (n / 2) (a * 2 + n % 2) i (omega arith) ∙ (sym (bit_at-suc n (k - 1 - i)) ∙ ap (bit_at n) place)
    ]
