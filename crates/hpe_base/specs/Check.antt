-- The 32-bit cyclic redundancy check.
use Rattle.std.specs.Prelude.{ℕ, ◌*◌, List, [], ◌∷◌, ◌++◌, length, map, zero, suc, replicate}
use Rattle.hpe_base.specs.Bits.{bits_of, xor, zeros}

-- ys with xs added modulo 2 to its first places
abbrev pub add_front : List ℕ → List ℕ → List ℕ
add_front [] ys = ys
add_front (x ∷ xs) [] = []
add_front (x ∷ xs) (y ∷ ys) = xor x y ∷ add_front xs ys

-- n steps of the long division by x^32 and the generator's 32 lower bits: the divisor is added where the first bit
-- is 1, which makes that bit 0, and the first bit is dropped
abbrev pub divide : ℕ → List ℕ → List ℕ → List ℕ
divide zero generator bits = bits
divide (suc n) generator [] = []
divide (suc n) generator (b ∷ bits) = divide n generator (add_front (map (λ g. b * g) generator) bits)

-- the check: the remainder of the bits and 32 zeros, of which the first 32 places are inverted
unfoldable pub check_bits : ℕ → List ℕ → List ℕ
check_bits generator bits =
    divide (length bits) (bits_of 32 generator) (add_front (replicate 32 1) (bits ++ zeros 32))
