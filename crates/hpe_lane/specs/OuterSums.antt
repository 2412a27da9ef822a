-- Sums of four states, of which the greatest is taken.
use Rattle.std.specs.Prelude.{ℕ, zero, suc, ℤ, ◌+ℤ◌, List, [], ◌∷◌}
use Rattle.std.specs.Int.{int_max}
use Rattle.hpe_base.specs.Sizes.{number_at}

-- the greatest of four sums
abbrev pub best_sum : (ℕ → ℤ) → (ℕ → ℤ) → ℤ
best_sum f g = int_max (int_max (f 0 +ℤ g 0) (f 1 +ℤ g 1)) (int_max (f 2 +ℤ g 2) (f 3 +ℤ g 3))

-- of what the states score from there on with input 0 and with input 1, that of state p with input x
abbrev pub chosen_after : List ℤ → List ℤ → ℕ → ℕ → ℤ
chosen_after with_zero with_one p zero = number_at with_zero p
chosen_after with_zero with_one p (suc x) = number_at with_one p

-- of two lists, the second at the two places that the soft bit k turns
abbrev pub turned_by : ℕ → List ℤ → List ℤ → List ℤ
turned_by zero a b = number_at a 0 ∷ number_at a 1 ∷ number_at a 2 ∷ number_at a 3 ∷ []
turned_by (suc zero) a b = number_at a 0 ∷ number_at b 1 ∷ number_at a 2 ∷ number_at b 3 ∷ []
turned_by (suc (suc k)) a b = number_at a 0 ∷ number_at b 1 ∷ number_at b 2 ∷ number_at a 3 ∷ []
