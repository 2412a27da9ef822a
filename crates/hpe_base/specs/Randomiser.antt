-- The pseudo-randomiser.
use Rattle.std.specs.Prelude.{ℕ, ◌+◌, ◌-◌, ◌*◌, ◌%◌, List, [], ◌∷◌, ◌++◌, length, slice_index, sum, zero, suc}
use Rattle.std.specs.Int.{bit_at}
use Rattle.hpe_base.specs.Lists.{tabulate}
use Rattle.hpe_base.specs.Bits.{bits_of, xor}
use Rattle.hpe_base.specs.Parameters.{Parameters}

-- the bit after these, of which the last eight count: the sum modulo 2 of those that the taps select
abbrev pub next_bit : ℕ → List ℕ → ℕ
next_bit taps bits = sum (tabulate 8 (λ i. bit_at taps i * slice_index bits (length bits - 8 + i))) % 2

-- the pseudo-random sequence: the eight bits of the seed, and n further bits
unfoldable pub pseudo_random : ℕ → ℕ → ℕ → List ℕ
pseudo_random taps seed zero = bits_of 8 seed
pseudo_random taps seed (suc n) =
    let before = pseudo_random taps seed n in before ++ next_bit taps before ∷ []

-- the bits with the sequence added modulo 2, place by place; it restarts at each block
abbrev pub randomised : Parameters → List ℕ → List ℕ
randomised p bits =
    let sequence = pseudo_random p.taps p.seed (length bits) in
    tabulate (length bits) (λ n. xor (slice_index bits n) (slice_index sequence n))
