-- Laws of the convolutional code and of the code interleaver.
use Rattle.std.specs.Prelude.{ℕ, ◌≡◌, ◌<◌, List, length, Bool, All}
use Rattle.hpe_base.specs.Bits.{AreBits}
use Rattle.hpe_base.specs.Parameters.{codeword_bits}
use Rattle.hpe_base.specs.ConvolutionalCode.{code_bits, AreColumns}
use Rattle.hpe_base.specs.CodeInterleaver.{pi, pi_inverse, IsInterleaved}

-- with columns of three flags, lists of bits of one length that have the same code bits are the same
abbrev pub CodeIsOneToOne : Type 0
CodeIsOneToOne =
    (columns : List (List Bool)) (u v : List ℕ) → AreColumns columns → All (λ column. length column ≡ 3) columns →
    AreBits u → AreBits v → length u ≡ length v → code_bits columns u ≡ code_bits columns v → u ≡ v

-- pi permutes the places of a codeword, and pi_inverse is its inverse on both sides
pub record InterleaverIsPermutation : Type 0 where
  pub within : (j : ℕ) → j < codeword_bits → pi j < codeword_bits
  pub inverse_within : (e : ℕ) → e < codeword_bits → pi_inverse e < codeword_bits
  pub undone : (j : ℕ) → j < codeword_bits → pi_inverse (pi j) ≡ j
  pub redone : (e : ℕ) → e < codeword_bits → pi (pi_inverse e) ≡ e

-- a list that is interleaved and then deinterleaved is the first list again
abbrev pub DeinterleaveUndoesInterleave : Type 0 → Type 0
DeinterleaveUndoesInterleave V =
    (first moved last : List V) → length first ≡ codeword_bits → length last ≡ codeword_bits →
    IsInterleaved first moved → IsInterleaved last moved → last ≡ first

-- a list that is deinterleaved and then interleaved is the first list again
abbrev pub InterleaveUndoesDeinterleave : Type 0 → Type 0
InterleaveUndoesDeinterleave V =
    (first moved last : List V) → length first ≡ codeword_bits → length last ≡ codeword_bits →
    IsInterleaved moved first → IsInterleaved moved last → last ≡ first
