-- The code interleaver.
use Rattle.std.specs.Prelude.{ℕ, ◌+◌, ◌*◌, ◌%◌, ◌<◌, ◌≡◌, List, slice_index, slice_index_or}
use Rattle.hpe_base.specs.Lists.{tabulate}
use Rattle.hpe_base.specs.Parameters.{codeword_bits}

-- the place of the code bit that goes to place j
abbrev pub pi : ℕ → ℕ
pi j = (11 * j + 210 * (j * j)) % codeword_bits

-- the place that the code bit of place e goes to
abbrev pub pi_inverse : ℕ → ℕ
pi_inverse e = (14891 * e + 210 * (e * e)) % codeword_bits

-- the code bits in the interleaver's order
abbrev pub interleaved : List ℕ → List ℕ
interleaved bits = tabulate codeword_bits (λ j. slice_index bits (pi j))

-- the same for values of any type: each place j holds what stood at place pi j
abbrev pub IsInterleaved : {V : Type 0} → List V → List V → Type 0
IsInterleaved {V} from into = (j : ℕ) (d : V) → j < codeword_bits → slice_index_or into j d ≡ slice_index_or from (pi j) d
