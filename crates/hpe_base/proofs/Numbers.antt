-- Numbers that bits write.
use Rattle.std.proofs.Common.{◌≡◌, ◌<◌, ◌+◌, ◌-◌, ◌*◌, ◌^◌, ◌++◌, ℕ, List, [], ◌∷◌, refl, length, sym, ◌∙◌, ap, arith, suc, length-append}
use Rattle.std.specs.Int.{bit_at}
use Rattle.std.proofs.Math.Nat.{pow-suc, mul-le-mul_right}
use Rattle.std.proofs.lemmas.Nat.{pow-add, mod-mul-add}
use Rattle.std.proofs.lemmas.Nat.Bits.{bit_at_cat_high, bit_at_lowest}
use Rattle.hpe_base.specs.Bits.{AreBits, bits_of, number_of}
use Rattle.hpe_base.proofs.BitLists.{bits_of-mod, are_bits-tail}

-- a bit more behind
pub number_of-push : (bits : List ℕ) (b : ℕ) → number_of (bits ++ b ∷ []) ≡ number_of bits * 2 + b
number_of-push [] b = omega arith
number_of-push (x ∷ bits) b =
    let ih : number_of (bits ++ b ∷ []) ≡ number_of bits * 2 + b = number_of-push bits b in
    let len : length (bits ++ b ∷ []) ≡ suc (length bits) = omega (arith, length-append bits (b ∷ [])) in
    let pow : 2 ^ suc (length bits) ≡ 2 ^ length bits * 2 = pow-suc 2 (length bits) in
    rw (ih, len, pow) (grind arith)

-- a bit more doubles the bound
pub double_below : (i n b : ℕ) → n < 2 ^ i → b < 2 → n * 2 + b < 2 ^ (i + 1)
double_below i n b h k =
    let e : 2 ^ (i + 1) ≡ 2 ^ i * 2 = pow-add 2 i 1 in
    omega arith

-- a number is within the bits that write it
pub number_of-lt : (bits : List ℕ) → AreBits bits → number_of bits < 2 ^ length bits
number_of-lt [] h = omega arith
number_of-lt (b ∷ bits) h =
    let first : b < 2 = h 0 0 (omega arith) in
    let rest : number_of bits < 2 ^ length bits = number_of-lt bits (are_bits-tail b bits h) in
    let pow : 2 ^ suc (length bits) ≡ 2 ^ length bits * 2 = pow-suc 2 (length bits) in
    grind (arith, mul-le-mul_right)

-- the bits of the number that bits write
pub bits_of-number_of : (bits : List ℕ) → AreBits bits → bits_of (length bits) (number_of bits) ≡ bits
unfolding bits_of
bits_of-number_of [] h = refl
bits_of-number_of (b ∷ bits) h =
    let w : ℕ = length bits in
    let bit : b < 2 = h 0 0 (omega arith) in
    let below : number_of bits < 2 ^ w = number_of-lt bits (are_bits-tail b bits h) in
    let none : w - w ≡ 0 = omega arith in
    let first : bit_at (b * 2 ^ w + number_of bits) w ≡ b =
    bit_at_cat_high b w (number_of bits) w below (omega arith) ∙ (ap (bit_at b) none ∙ (bit_at_lowest b ∙ omega arith)) in
    let rest : bits_of w (b * 2 ^ w + number_of bits) ≡ bits =
    sym (bits_of-mod w w (b * 2 ^ w + number_of bits) (omega arith))
    ∙ (ap (bits_of w) (mod-mul-add b (2 ^ w) (number_of bits) below) ∙ bits_of-number_of bits (are_bits-tail b bits h)) in
    cc
