-- The last eight scores of a list that is folded.
use Rattle.std.specs.Prelude.{ℕ, zero, suc, ℤ, ◌-ℤ◌}
use Rattle.std.specs.Int.{int_max}

-- the greatest of four scores
abbrev pub top_of : (ℕ → ℤ) → ℕ → ℕ → ℕ → ℕ → ℤ
top_of f a b c d = int_max (int_max (f a) (f b)) (int_max (f c) (f d))

-- what the input bits of the eight places tell apart
abbrev pub soft_of_eight : (ℕ → ℤ) → ℕ → ℤ
soft_of_eight f zero = top_of f 4 5 6 7 -ℤ top_of f 0 1 2 3
soft_of_eight f (suc zero) = top_of f 2 3 4 5 -ℤ top_of f 0 1 6 7
soft_of_eight f (suc (suc k)) = top_of f 1 5 2 6 -ℤ top_of f 0 4 3 7
