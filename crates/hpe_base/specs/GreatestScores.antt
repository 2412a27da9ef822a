-- Greatest scores over all words of a code, by branching over both values of every bit.
use Rattle.std.specs.Prelude.{if◌then◌else◌, ◌==◌, ℕ, zero, suc, Bool, ℤ, List, [], ◌∷◌, ◌++◌, length, slice_index, Some, None}
use Rattle.std.specs.declared.option.Option.{Option}
use Rattle.std.specs.Int.{int_max}
use Rattle.hpe_base.specs.Greatest.{IsGreatest}
use Rattle.hpe_base.specs.Termination.{terminated}
use Rattle.hpe_base.specs.ConvolutionalCode.{code_bits}
use Rattle.hpe_base.specs.PathScores.{inner_score, outer_score}
use Rattle.hpe_base.specs.declared.profile.Order.{Order}

-- the greater of two scores; nothing is less than every score
abbrev pub greater : Option ℤ → Option ℤ → Option ℤ
greater None b = b
greater (Some a) None = Some a
greater (Some a) (Some b) = Some (int_max a b)

-- of the words that begin with w and have `missing` bits more, the greatest score of those that are asked for, or
-- nothing where none is
unfoldable pub top_from : (List ℕ → Bool) → (List ℕ → ℤ) → ℕ → List ℕ → Option ℤ
top_from asked score zero w = if asked w then Some (score w) else None
top_from asked score (suc missing) w =
    greater (top_from asked score missing (w ++ 0 ∷ [])) (top_from asked score missing (w ++ 1 ∷ []))

-- the greatest inner score of the words whose bit j is b
unfoldable pub inner_top : Order → List ℕ → List ℤ → ℕ → ℕ → Option ℤ
inner_top o counts l j b = top_from (λ x. slice_index x j == b) (inner_score o counts l) (length l) []

-- the greatest outer score of n information bits of which bit j is b
unfoldable pub information_top : List (List Bool) → List ℤ → ℕ → ℕ → ℕ → Option ℤ
information_top columns l n j b = top_from (λ u. slice_index u j == b) (outer_score columns l) n []

-- the greatest outer score of n information bits that give b as code bit i
unfoldable pub code_top : List (List Bool) → List ℤ → ℕ → ℕ → ℕ → Option ℤ
code_top columns l n i b = top_from (λ u. slice_index (code_bits columns (terminated u)) i == b) (outer_score columns l) n []

-- the law of a greatest score: it is that of a thing that is chosen, of which none scores more, and there is none
-- exactly where no thing is chosen
abbrev pub IsTop : {A : Type 0} → (A → Type 0) → (A → ℤ) → Option ℤ → Type 0
IsTop {A} chosen score None = (x : A) → chosen x → ⊥
IsTop chosen score (Some z) = IsGreatest chosen score z
