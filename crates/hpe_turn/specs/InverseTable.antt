-- The inverse of the code interleaver as a table.
use Rattle.std.specs.Prelude.{◌≡◌, ◌<◌, ℕ, List, length, slice_index}
use Rattle.hpe_base.specs.CodeInterleaver.{pi_inverse}
use Rattle.hpe_base.specs.Parameters.{codeword_bits}

-- for each code bit, the place that it goes to
pub record IsInverseTable (places : List ℕ) : Type 0 where
  pub long : length places ≡ codeword_bits
  pub place : (e : ℕ) → e < codeword_bits → slice_index places e ≡ pi_inverse e
