-- Sizes of numbers.
use Rattle.std.proofs.Common.{ℕ, zero, suc, ◌≤◌, arith, ℤ, pos, List, [], ◌∷◌, drop}
use Rattle.std.proofs.lemmas.Int.{ints}
use Rattle.hpe_base.specs.Sizes.{Within, AllWithin}

-- nothing is within every size
pub zero_within : (m : ℕ) → Within m (pos 0)
zero_within m = (omega (arith, ints), omega (arith, ints))

-- within a size is within a greater one
pub wider : (m n : ℕ) (z : ℤ) → m ≤ n → Within m z → Within n z
wider m n z h k = (let a = k.0 in omega (arith, ints), let a = k.1 in omega (arith, ints))

-- the numbers from a place on are within the size of all
pub drop_within : (m n : ℕ) (xs : List ℤ) → AllWithin m xs → AllWithin m (drop n xs)
drop_within m zero xs f = f
drop_within m (suc n) [] f = λ i. zero_within m
drop_within m (suc n) (x ∷ xs) f = drop_within m n xs (λ k. f (suc k))
