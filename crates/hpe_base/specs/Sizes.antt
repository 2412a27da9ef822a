-- Lists of scores and of a-priori numbers, and bounds on their size.
use Rattle.std.specs.Prelude.{ℕ, ℤ, pos, ◌+ℤ◌, ◌≤ℤ◌, List, slice_index_or}

-- the number at a place
abbrev pub number_at : List ℤ → ℕ → ℤ
number_at xs i = slice_index_or xs i (pos 0)

-- at most `most` in size
abbrev pub Within : ℕ → ℤ → Type 0
Within most z = (z ≤ℤ pos most) × (pos 0 ≤ℤ (z +ℤ pos most))

-- every number of the list is at most `most` in size
abbrev pub AllWithin : ℕ → List ℤ → Type 0
AllWithin most xs = (i : ℕ) → Within most (number_at xs i)
