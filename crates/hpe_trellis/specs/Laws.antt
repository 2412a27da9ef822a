-- The law of the sizes of outer scores.
use Rattle.std.specs.Prelude.{ℕ, ◌+◌, ◌≡◌, ◌≤◌, ℤ, pos, ◌+ℤ◌, ◌-ℤ◌, ◌<ℤ◌, List, length, Bool}
use Rattle.hpe_base.specs.Bits.{AreBits}
use Rattle.hpe_base.specs.ConvolutionalCode.{code_bits, AreColumns}
use Rattle.hpe_base.specs.PathScores.{outer_score}
use Rattle.hpe_base.specs.Sizes.{Within, AllWithin}
use Rattle.hpe_trellis.specs.OuterTrellis.{outer_start}
use Rattle.hpe_base.specs.Parameters.{clamp, codeword_bits}

-- the a-priori numbers of the code bits that are kept of n free bits and two termination bits
pub record AreOfCode (columns : List (List Bool)) (n : ℕ) (l : List ℤ) : Type 0 where
  pub keep : AreColumns columns
  pub long : (u : List ℕ) → length u ≡ n + 2 → length l ≡ length (code_bits columns u)
  pub short : length l ≤ codeword_bits
  pub within : AllWithin clamp l

-- n bits
pub record IsFree (n : ℕ) (u : List ℕ) : Type 0 where
  pub bits : AreBits u
  pub long : length u ≡ n

-- the scores of free words: their size, how far two of them are apart, and that another first or last state than 0 costs
-- more. 247,710,960 is 15,120 times 16,383, which is less than the bound of inner scores; it is also how far two are
-- apart, since each number counts in one, in both or in none.
pub record AreBounded (columns : List (List Bool)) (n : ℕ) (l : List ℤ) : Type 0 where
  pub size : (u : List ℕ) → IsFree n u → Within 247710960 (outer_score columns l u)
  pub apart : (u v : List ℕ) → IsFree n u → IsFree n v → Within 247710960 (outer_score columns l u -ℤ outer_score columns l v)
  pub reachable : (u : List ℕ) → IsFree n u → (outer_start 1 +ℤ pos 247710960) <ℤ outer_score columns l u

-- for all columns, numbers of free bits and a-priori numbers
abbrev pub OuterScoresAreBounded : Type 0
OuterScoresAreBounded = (columns : List (List Bool)) (n : ℕ) (l : List ℤ) → AreOfCode columns n l → AreBounded columns n l
