-- The first round that is right.
use Rattle.std.specs.Prelude.{◌≡◌, ℕ, zero, suc, ◌<◌, ◌≤◌, ℤ, pos, List, take, replicate, true, false}
use Rattle.hpe_base.specs.Parameters.{Parameters, codeword_bits, block_bits}
use Rattle.hpe_base.specs.Randomiser.{randomised}
use Rattle.hpe_base.specs.Rounds.{round, is_right}

-- the a-priori numbers of round r: zeros for round 1, and what round r gives for the one after it
unfoldable pub numbers_at : Parameters → List ℕ → ℕ → List ℤ
numbers_at p counts zero = replicate codeword_bits (pos 0)
numbers_at p counts (suc zero) = replicate codeword_bits (pos 0)
numbers_at p counts (suc (suc r)) = (round p counts (numbers_at p counts (suc r))).next

-- the hard bits of round r
abbrev pub hard_at : Parameters → List ℕ → ℕ → List ℕ
hard_at p counts r = (round p counts (numbers_at p counts r)).hard

-- round r is right and gives the block, and no round before it is right
pub record IsFirstRight (p : Parameters) (counts : List ℕ) (r : ℕ) (block : List ℕ) : Type 0 where
  pub right : is_right p (hard_at p counts r) ≡ true
  pub block_is : block ≡ randomised p (take (block_bits p.rate) (hard_at p counts r))
  pub first : (s : ℕ) → 1 ≤ s → s < r → is_right p (hard_at p counts s) ≡ false
