-- A place whose bits under the mask are odd in number.
use Rattle.std.proofs.Common.{◌≡◌, ℕ, ◌+◌, ◌*◌, ◌/◌, ◌%◌, ◌^◌, ◌<◌, ◌≤◌, bit_and, sym, ◌∙◌, ap, subst, arith, w32}
use Rattle.std.specs.Prelude.{count_ones}
use Rattle.std.specs.Int.{bit_at}
use Rattle.std.specs.Int.Count.{ones_cat, ones-le, ones-ones, count_trailing_zeros}
use Rattle.std.proofs.lemmas.Nat.Bits.{bit_at-trailing_zeros, and_pow}
use Rattle.std.proofs.lemmas.Nat.{and_comm}
use Rattle.std.proofs.Math.Pow.{pow_pos}
use Rattle.std.proofs.Math.Nat.{div-eq_of_lt}
use Rattle.hpe_lane.specs.Edges.{HasParity}

below_of_bit : (n q : ℕ) → n / q % 2 ≡ 1 → 0 < q → q ≤ n
below_of_bit n q e p = grind (arith, div-eq_of_lt {n = n} {m = q})

ones_pow : (k : ℕ) → count_ones (2 ^ k) ≡ 1
ones_pow k =
    let p : 0 < 2 ^ k = pow_pos k in
    let s : 1 * 2 ^ k + 0 ≡ 2 ^ k = omega arith in
    let zero_bits : count_ones 0 ≤ 0 = ones-le 0 0 (omega arith) in
    let one_bit : count_ones 1 ≡ 1 = ones-ones 1 in
    let two : count_ones 1 + count_ones 0 ≡ 1 = omega arith in
    ap count_ones (sym s) ∙ ones_cat k 1 0 p ∙ two

parity_one : (k mask : ℕ) → bit_at mask k ≡ 1 → count_ones (bit_and (2 ^ k) mask) % 2 ≡ 1
parity_one k mask e =
    let s : bit_and (2 ^ k) mask ≡ 2 ^ k = and_comm (2 ^ k) mask ∙ and_pow mask k ∙ (ap (λ (b : ℕ). b * 2 ^ k) e ∙ omega arith) in
    ap (λ (n : ℕ). count_ones n % 2) s ∙ ap (λ (n : ℕ). n % 2) (ones_pow k)

pub lowest_set : (mask n : ℕ) → 1 ≤ mask → mask < n → mask < 4294967296 → HasParity n mask 1 (1 * 2 ^ count_trailing_zeros 32 mask % 18446744073709551616)
lowest_set mask n low high short =
    let k : ℕ = count_trailing_zeros 32 mask in
    let t = bit_at-trailing_zeros w32 mask low (omega arith) in
    let q : 2 ^ k ≤ mask = below_of_bit mask (2 ^ k) t.1 (pow_pos k) in
    let s : 1 * 2 ^ k % 18446744073709551616 ≡ 2 ^ k = omega arith in
    subst (λ (v : ℕ). HasParity n mask 1 v) (sym s) (omega arith, parity_one k mask t.1)

pub ones_zero : count_ones 0 ≡ 0
ones_zero = let z : count_ones 0 ≤ 0 = ones-le 0 0 (omega arith) in omega arith
