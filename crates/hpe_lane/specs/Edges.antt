-- The edges of one stage of the inner code: an edge leaves a state, which is the last bit of the accumulator, and its
-- input is a symbol v of m bits, most significant first.
use Rattle.std.specs.Prelude.{if◌then◌else◌, ◌==◌, ◌≡◌, ℕ, zero, suc, ◌-◌, ◌%◌, ◌<◌, ℤ, pos, ◌+ℤ◌, List, [], ◌∷◌, length, slice_index, bit_and, count_ones}
use Rattle.std.specs.Int.{bit_at}
use Rattle.hpe_base.specs.Bits.{xor}
use Rattle.hpe_base.specs.Sizes.{number_at}

-- the sum of the numbers at which a bit of v differs from the bit before it; as many bits of v count as there are
-- numbers, and `before` stands before the first of them
abbrev pub gray_from : ℕ → List ℤ → ℕ → ℤ
gray_from before [] v = pos 0
gray_from before (x ∷ l) v =
    (if bit_at v (length l) == before then pos 0 else x) +ℤ gray_from (bit_at v (length l)) l v

-- a place below n whose bits under the mask have parity b
abbrev pub HasParity : ℕ → ℕ → ℕ → ℕ → Type 0
HasParity n mask b v = (v < n) × (count_ones (bit_and v mask) % 2 ≡ b)

-- what the edge of symbol v scores that leaves state s
abbrev pub edge_of : List ℤ → List ℤ → ℕ → ℕ → ℤ
edge_of from0 from1 s v = if s == 0 then number_at from0 v else number_at from1 v

-- bit i of the m bits of v
abbrev pub bit_of : ℕ → ℕ → ℕ → ℕ
bit_of m v i = bit_at v (m - 1 - i)

-- bit i of those that enter the accumulator in state s where symbol v leaves it
abbrev pub input_bit : ℕ → ℕ → ℕ → ℕ → ℕ
input_bit m zero s v = xor (bit_of m v 0) s
input_bit m (suc i) s v = xor (bit_of m v (suc i)) (bit_of m v i)

-- what the symbols score from state s: each its count, and the numbers of its input bits that are 1
abbrev pub AreEdgeScores : ℕ → List ℕ → List ℤ → List ℤ → Type 0
AreEdgeScores s counts l from =
    (v : ℕ) → v < length counts → number_at from v ≡ pos (slice_index counts v) +ℤ gray_from s l v
