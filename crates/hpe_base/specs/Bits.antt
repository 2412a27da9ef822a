-- Octets and bits. A bit is a number that is 0 or 1, and the most significant bit comes first.
use Rattle.std.specs.Prelude.{ℕ, ◌+◌, ◌*◌, ◌^◌, ◌%◌, ◌<◌, List, [], ◌∷◌, length, All, zero, suc, replicate}
use Rattle.std.specs.Int.{bit_at}
use Rattle.std.specs.List.{flat_map}

-- each is 0 or 1
abbrev pub AreBits : List ℕ → Type 0
AreBits bits = All (λ b. b < 2) bits

-- the low w bits of a number
unfoldable pub bits_of : ℕ → ℕ → List ℕ
bits_of zero n = []
bits_of (suc w) n = bit_at n w ∷ bits_of w n

-- the bits of octets, one octet after another
abbrev pub octet_bits : List ℕ → List ℕ
octet_bits octets = flat_map (bits_of 8) octets

-- the number that a list of bits writes
abbrev pub number_of : List ℕ → ℕ
number_of [] = 0
number_of (b ∷ bits) = b * 2 ^ length bits + number_of bits

-- the sum modulo 2
abbrev pub xor : ℕ → ℕ → ℕ
xor a b = (a + b) % 2

-- n zeros
unfoldable pub zeros : ℕ → List ℕ
zeros n = replicate n 0
