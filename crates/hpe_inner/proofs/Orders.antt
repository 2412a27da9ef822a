-- Bounds of the counts.
use Rattle.std.proofs.Common.{ℕ, ◌≤◌, arith, List, get_or, zero, suc, [], ◌∷◌}
use Rattle.std.specs.Prelude.{All}

-- a bound of each count, also past the last, where 0 stands
pub each_count : (xs : List ℕ) → All (λ c. c ≤ 16383) xs → (i : ℕ) → get_or xs i 0 ≤ 16383
each_count [] h i = omega arith
each_count (x ∷ xs) h zero = h 0 0 (omega arith)
each_count (x ∷ xs) h (suc i) = each_count xs (λ k d b. h (suc k) d (omega arith)) i
