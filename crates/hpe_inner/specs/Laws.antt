-- The law of the sizes of inner scores.
use Rattle.std.specs.Prelude.{ℕ, ◌%◌, ◌≡◌, ◌≤◌, ℤ, pos, ◌+ℤ◌, ◌-ℤ◌, ◌<ℤ◌, List, length, All}
use Rattle.hpe_base.specs.Bits.{AreBits}
use Rattle.hpe_base.specs.Parameters.{symbol_bits, codeword_symbols, clamp}
use Rattle.hpe_base.specs.PathScores.{inner_score}
use Rattle.hpe_base.specs.Sizes.{Within, AllWithin}
use Rattle.hpe_base.specs.declared.profile.Order.{Order}
use Rattle.hpe_inner.specs.Lengths.{symbols_in}
use Rattle.hpe_inner.specs.Sweeps.{inner_start, score_most, apart_most}

-- the counts and the a-priori numbers of as many symbols as a codeword has at most
pub record AreOfCodeword (o : Order) (counts : List ℕ) (l : List ℤ) : Type 0 where
  pub whole : length l % symbol_bits o ≡ 0
  pub fits : symbols_in o l ≤ codeword_symbols o
  pub most : All (λ c. c ≤ clamp) counts
  pub within : AllWithin clamp l

-- bits, as many as there are a-priori numbers
pub record IsWord (l : List ℤ) (x : List ℕ) : Type 0 where
  pub bits : AreBits x
  pub long : length x ≡ length l

-- the scores of words: their size, how far two of them are apart, and that another start state than 0 costs more.
-- Scores are up to 371,566,440 above 0, and up to 247,710,960 below it.
pub record AreBounded (o : Order) (counts : List ℕ) (l : List ℤ) : Type 0 where
  pub size : (x : List ℕ) → IsWord l x → Within score_most (inner_score o counts l x)
  pub apart : (x y : List ℕ) → IsWord l x → IsWord l y → Within apart_most (inner_score o counts l x -ℤ inner_score o counts l y)
  pub reachable : (x : List ℕ) → IsWord l x → (inner_start 1 +ℤ pos apart_most) <ℤ inner_score o counts l x

-- at every order, for all counts and numbers
abbrev pub InnerScoresAreBounded : Type 0
InnerScoresAreBounded = (o : Order) (counts : List ℕ) (l : List ℤ) → AreOfCodeword o counts l → AreBounded o counts l
