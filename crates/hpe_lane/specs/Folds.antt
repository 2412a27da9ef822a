-- Lists of scores that are folded by the input bits of their places.
use Rattle.std.specs.Prelude.{◌≡◌, ℕ, ◌+◌, ◌^◌, ◌<◌, ℤ, ◌≤ℤ◌, List}
use Rattle.hpe_base.specs.Sizes.{number_at}
use Rattle.hpe_lane.specs.Edges.{input_bit}

-- the input bits from i on of place v of m bits are those of place w of k bits
abbrev pub SameBits : ℕ → ℕ → ℕ → ℕ → ℕ → Type 0
SameBits m i k v w = (j : ℕ) → j < k → input_bit m (i + j) 0 v ≡ input_bit k j 0 w

-- a list `start` of 2 ^ m scores that is folded i times to 2 ^ k of them: each is the greatest of the scores at the
-- places with the input bits of its place
pub record Folded (m i k : ℕ) (start now : List ℤ) : Type 0 where
  pub from : (w : ℕ) → w < 2 ^ k → (v : ℕ) × ((v < 2 ^ m) × ((number_at start v ≡ number_at now w) × SameBits m i k v w))
  pub into : (v : ℕ) → v < 2 ^ m → (w : ℕ) × ((w < 2 ^ k) × ((number_at start v ≤ℤ number_at now w) × SameBits m i k v w))
