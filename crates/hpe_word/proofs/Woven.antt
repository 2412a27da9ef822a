-- The code interleaver over bits.
use Rattle.std.proofs.Common.{◌≡◌, ◌<◌, ℕ, List, length, get_or, arith}
use Rattle.std.proofs.lemmas.List.Elements.{All-get_or, All-from_get_or}
use Rattle.hpe_base.specs.Bits.{AreBits}
use Rattle.hpe_base.specs.CodeInterleaver.{IsInterleaved, interleaved, pi}
use Rattle.hpe_base.specs.Parameters.{codeword_bits}
use Rattle.hpe_base.proofs.Tabulated.{tabulate_from_places}
use Rattle.hpe_base.proofs.Permutation.{pi-lt}

-- interleaved values are the interleaved bits
pub interleaved_is : (from into : List ℕ) → length into ≡ codeword_bits → IsInterleaved from into → into ≡ interleaved from
interleaved_is from into h e = tabulate_from_places codeword_bits _ into 0 h (λ k b. e k 0 b)

-- interleaved bits are bits
pub interleaved_bits : (from into : List ℕ) → length from ≡ codeword_bits → length into ≡ codeword_bits → AreBits from → IsInterleaved from into → AreBits into
interleaved_bits from into f h bits e =
    let bit_at : (k : ℕ) → k < length into → get_or into k 0 < 2 = λ k b.
    rw (e k 0 (omega arith)) (All-get_or (λ b. b < 2) from (pi k) 0 (omega (arith, pi-lt k)) bits) in
    All-from_get_or (λ b. b < 2) into 0 bit_at
