-- Lists that are given by their places or piece by piece.
use Rattle.std.specs.Prelude.{ℕ, List, [], ◌++◌, map, zero, suc}
use Rattle.std.specs.List.{range_with_len}

-- the list of n values that has f i at each place i
unfoldable pub tabulate : {X : Type 0} → ℕ → (ℕ → X) → List X
tabulate n f = map f (range_with_len 0 n)

-- the lists f 0, f 1 and so on, n of them, one after another
unfoldable pub joined : {X : Type 0} → ℕ → (ℕ → List X) → List X
joined zero f = []
joined (suc n) f = joined n f ++ f n
