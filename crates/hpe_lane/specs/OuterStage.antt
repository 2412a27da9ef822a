-- A stage of the outer trellis. State 2 a + b stands for the last input a and the input b before it.
use Rattle.std.specs.Prelude.{◌≡◌, ℕ, ◌+◌, ◌*◌, ◌/◌, ◌%◌, ◌<◌, ℤ, ◌+ℤ◌, List, [], ◌∷◌, slice_index}
use Rattle.std.specs.Int.{int_max}
use Rattle.hpe_base.specs.Greatest.{IsGreatest, IsSoft}
use Rattle.hpe_base.specs.Sizes.{number_at}
use Rattle.hpe_base.specs.Trellis.{IsEdge}
use Rattle.hpe_base.specs.ConvolutionalCode.{outputs}
use Rattle.hpe_base.specs.PathScores.{chosen_sum}

-- the state that state p goes to with input x
abbrev pub outer_next : ℕ → ℕ → ℕ
outer_next p x = 2 * x + p / 2

-- the three outputs of the convolutional code on the edge of state p and input x
abbrev pub edge_outputs : ℕ → ℕ → List ℕ
edge_outputs p x = outputs ((p % 2) ∷ (p / 2) ∷ x ∷ []) 2

-- what that edge scores: the sum of the three numbers l whose output is 1
abbrev pub edge_sum : List ℤ → ℕ → ℕ → ℤ
edge_sum l p x = chosen_sum (number_at l 0 ∷ number_at l 1 ∷ number_at l 2 ∷ []) (edge_outputs p x)

-- what a stage gives soft values of: bit 0 of an edge is its input, bits 1 to 3 are its outputs
abbrev pub soft_bit : ℕ → ℕ → ℕ → ℕ
soft_bit k p x = slice_index (x ∷ edge_outputs p x) k

-- a step forward: for each state the greatest of what a state scores before the stage and its edge to that state
abbrev pub IsOuterForward : List ℤ → List ℤ → List ℤ → Type 0
IsOuterForward l row next =
    (q : ℕ) → q < 4 → IsGreatest (λ (e : ℕ × ℕ). IsEdge 2 4 e × (outer_next e.0 e.1 ≡ q))
    (λ e. number_at row e.0 +ℤ edge_sum l e.0 e.1) (number_at next q)

-- a step back: for each state the greater of its two edges and what comes after them
abbrev pub IsOuterBack : List ℤ → List ℤ → List ℤ → Type 0
IsOuterBack l back before =
    (p : ℕ) → p < 4 → IsGreatest (λ (x : ℕ). x < 2)
    (λ x. edge_sum l p x +ℤ number_at back (outer_next p x)) (number_at before p)

-- the soft values of the input and of the outputs, where state p scores `after p x` from the stage on with input x
abbrev pub AreOuterSoft : List ℤ → (ℕ → ℕ → ℤ) → List ℤ → Type 0
AreOuterSoft fore after soft =
    (k : ℕ) → k < 4 → IsSoft (IsEdge 2 4) (λ (e : ℕ × ℕ). soft_bit k e.0 e.1)
    (λ e. number_at fore e.0 +ℤ after e.0 e.1) (number_at soft k)

-- what a state scores from the stage on, by what the states score after it
abbrev pub outer_after : List ℤ → List ℤ → ℕ → ℕ → ℤ
outer_after l back p x = edge_sum l p x +ℤ number_at back (outer_next p x)

-- for each state the greater of the two sums that lead to it, by the scores of the edges from states 0 and 2 and of
-- those from states 1 and 3
abbrev pub AreGreaterSums : (ℕ → ℤ) → (ℕ → ℤ) → List ℤ → List ℤ → Type 0
AreGreaterSums even odd row next =
    (q : ℕ) → q < 4 → number_at next q ≡
    int_max (number_at row (2 * (q % 2)) +ℤ even q) (number_at row (2 * (q % 2) + 1) +ℤ odd q)
