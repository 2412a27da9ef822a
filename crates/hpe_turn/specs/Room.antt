-- The lengths of the lists that the rounds work on.
use Rattle.std.specs.Prelude.{◌≡◌, ℕ, List, ℤ, length}
use Rattle.hpe_base.specs.Parameters.{Parameters, codeword_symbols, codeword_bits, code_steps}
use Rattle.hpe_base.specs.Parameters.{information_bits}
use Rattle.hpe_inner.specs.Lengths as inner
use Rattle.hpe_trellis.specs.OuterTrellis as outer

pub record HasRoom (p : Parameters) (numbers : List ℤ) (inner_rows outer_rows : List (List ℤ)) (soft information : List ℤ) (hard : List ℕ) : Type 0 where
  pub long_numbers : length numbers ≡ codeword_bits
  pub long_inner_rows : length inner_rows ≡ inner.inner_rows (codeword_symbols p.order)
  pub long_outer_rows : length outer_rows ≡ outer.outer_rows (code_steps p.rate)
  pub long_soft : length soft ≡ codeword_bits
  pub long_information : length information ≡ information_bits p.rate
  pub long_hard : length hard ≡ information_bits p.rate
