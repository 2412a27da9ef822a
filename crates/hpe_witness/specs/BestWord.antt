-- The best word: of greatest outer score, and of those the first when read from its last bit to its first.
use Rattle.std.specs.Prelude.{◌≡◌, ℕ, zero, suc, ◌<◌, ◌⊎◌, ℤ, ◌≤ℤ◌, List, [], ◌∷◌, Bool, int_lt, if◌then◌else◌}
use Rattle.hpe_base.specs.PathScores.{outer_score}
use Rattle.hpe_trellis.specs.Laws.{IsFree}

-- u comes before v when both are read from the last bit to the first: where they first differ, u has the lesser
abbrev pub IsBefore : List ℕ → List ℕ → Type 0
IsBefore [] v = ⊥
IsBefore (a ∷ u) [] = ⊥
IsBefore (a ∷ u) (b ∷ v) = IsBefore u v ⊎ ((u ≡ v) × (a < b))

-- of the words of n bits none scores more than u, and u comes before the others that score as much
pub record IsBest (columns : List (List Bool)) (l : List ℤ) (n : ℕ) (u : List ℕ) : Type 0 where
  pub free : IsFree n u
  pub top : (v : List ℕ) → IsFree n v → outer_score columns l v ≤ℤ outer_score columns l u
  pub first : (v : List ℕ) → IsFree n v → outer_score columns l v ≡ outer_score columns l u → (u ≡ v) ⊎ IsBefore u v

-- the second of two words where it scores more, else the first
abbrev pub better : (List ℕ → ℤ) → List ℕ → List ℕ → List ℕ
better score u v = if int_lt (score u) (score v) then v else u

-- of the words that end with w and have so many bits more in front, the best, by branching over both values of each bit
unfoldable pub best_from : (List ℕ → ℤ) → ℕ → List ℕ → List ℕ
best_from score zero w = w
best_from score (suc missing) w = better score (best_from score missing (0 ∷ w)) (best_from score missing (1 ∷ w))

-- the best of all words of n bits
abbrev pub best_word : List (List Bool) → List ℤ → ℕ → List ℕ
best_word columns l n = best_from (outer_score columns l) n []
