-- Sums of counts in which what was sent stands out.
use Rattle.std.specs.Prelude.{ℕ, ◌+◌, ◌*◌, ◌<◌, ◌≢◌, List, length, slice_index}

-- in each symbol of `size` positions the position of the sent symbol has the strictly greatest sum
abbrev pub Dominates : ℕ → List ℕ → List ℕ → Type 0
Dominates size counts sent =
    (s v : ℕ) → s < length sent → v < size → v ≢ slice_index sent s
    → slice_index counts (s * size + v) < slice_index counts (s * size + slice_index sent s)
