-- The lists that a record is read into.
use Rattle.std.specs.Prelude.{◌≡◌, ◌+◌, ℕ, ℤ, List, length}
use Rattle.hpe_base.specs.Parameters.{codeword_bits, code_steps, information_bits}
use Rattle.hpe_base.specs.declared.profile.Rate.{Rate}

-- each is as long as the rate says
pub record HasRoom (r : Rate) (numbers : List ℤ) (bits : List ℕ) (potentials : List (List ℤ)) : Type 0 where
  pub numbers_length : length numbers ≡ codeword_bits
  pub bits_length : length bits ≡ information_bits r
  pub potentials_length : length potentials ≡ code_steps r + 1
