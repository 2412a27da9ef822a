-- What the check of a word and its potentials answers.
use Rattle.std.specs.Prelude.{◌≡◌, ◌≢◌, ℕ, ◌+◌, ℤ, pos, ◌≤ℤ◌, List, length, Bool, Ok, Err}
use Rattle.std.specs.declared.result.Result.{Result}
use Rattle.hpe_base.specs.PathScores.{outer_score}
use Rattle.hpe_trellis.specs.Laws.{IsFree}
use Rattle.hpe_witness.specs.Potentials.{potential, IsRising, FallsSomewhere}
use Rattle.hpe_witness.specs.declared.check.PathFault.{PathFault}
use Rattle.hpe_witness.specs.declared.check.PathFault.TheVariants.{Start, Step, Score}

-- the answer for the word u: the first fault that holds, or the word's score
abbrev pub IsPathAnswer : List (List Bool) → List ℤ → List ℕ → List (List ℤ) → Result ℤ PathFault → Type 0
IsPathAnswer columns l u rows (Err Start) = potential rows 0 0 ≢ pos 0
IsPathAnswer columns l u rows (Err Step) =
    (potential rows 0 0 ≡ pos 0) × FallsSomewhere columns l (length u + 2) rows
IsPathAnswer columns l u rows (Err Score) =
    (potential rows 0 0 ≡ pos 0) × IsRising columns l (length u + 2) rows
    × (outer_score columns l u ≢ potential rows (length u + 2) 0)
IsPathAnswer columns l u rows (Ok b) =
    (potential rows 0 0 ≡ pos 0) × IsRising columns l (length u + 2) rows
    × (outer_score columns l u ≡ potential rows (length u + 2) 0) × (b ≡ outer_score columns l u)

-- u scores b, and no word of as many bits scores more
pub record IsBestScore (columns : List (List Bool)) (l : List ℤ) (u : List ℕ) (b : ℤ) : Type 0 where
  pub score : outer_score columns l u ≡ b
  pub best : (v : List ℕ) → IsFree (length u) v → outer_score columns l v ≤ℤ b
