-- How far the numbers of a list lie apart.
use Rattle.std.specs.Prelude.{ℕ, ◌<◌, ℤ, pos, ◌+ℤ◌, ◌≤ℤ◌, List}
use Rattle.hpe_base.specs.Sizes.{number_at}

-- no two of the first n numbers of the list differ by more than `most`
abbrev pub Near : ℕ → ℕ → List ℤ → Type 0
Near most n xs = (v w : ℕ) → v < n → w < n → number_at xs v ≤ℤ (number_at xs w +ℤ pos most)
