-- One stage of the inner trellis. A state is the last bit of the accumulator, an input is a symbol v, which leads to
-- the state that is its last bit, and `edge s v` is what the edge of v scores that leaves state s.
use Rattle.std.specs.Prelude.{◌≡◌, ℕ, ◌-◌, ◌%◌, ◌^◌, ◌<◌, ◌≤◌, ℤ, ◌+ℤ◌, List, length, slice_index}
use Rattle.std.specs.Int.{int_max}
use Rattle.hpe_base.specs.Greatest.{IsGreatest, IsSoft}
use Rattle.hpe_base.specs.Parameters.{clamp}
use Rattle.hpe_base.specs.Sizes.{number_at, AllWithin}
use Rattle.hpe_base.specs.Trellis.{IsEdge}
use Rattle.hpe_lane.specs.Bounds.{edge_most}
use Rattle.hpe_lane.specs.Edges.{input_bit}

-- the counts and the a-priori numbers of a stage: a count for each symbol, a number for each of its input bits
pub record IsStage (counts : List ℕ) (l : List ℤ) : Type 0 where
  pub few : (2 ≤ length l) × (length l ≤ 8)
  pub long : length counts ≡ 2 ^ length l
  pub most : (v : ℕ) → slice_index counts v ≤ clamp
  pub within : AllWithin clamp l

-- the edges of a stage of m input bits: what each symbol scores from state 0, and what from state 1
pub record AreEdges (m : ℕ) (from0 from1 : List ℤ) : Type 0 where
  pub few : (2 ≤ m) × (m ≤ 8)
  pub long0 : length from0 ≡ 2 ^ m
  pub long1 : length from1 ≡ 2 ^ m
  pub small0 : AllWithin edge_most from0
  pub small1 : AllWithin edge_most from1

-- a step forward, over `size` symbols: for each state the greatest of what a state scores before the stage and its edge
abbrev pub IsForwardStep : ℕ → (ℕ → ℕ → ℤ) → List ℤ → List ℤ → Type 0
IsForwardStep size edge row next =
    (b : ℕ) → b < 2 → IsGreatest (λ (e : ℕ × ℕ). IsEdge size 2 e × (e.1 % 2 ≡ b))
    (λ e. number_at row e.0 +ℤ edge e.0 e.1) (number_at next b)

-- a step back: for each state the greatest of its edges and what comes after them
abbrev pub IsBackStep : ℕ → (ℕ → ℕ → ℤ) → List ℤ → List ℤ → Type 0
IsBackStep size edge back before =
    (s : ℕ) → s < 2 → IsGreatest (λ (v : ℕ). v < size) (λ v. edge s v +ℤ number_at back (v % 2)) (number_at before s)

-- the soft values of the m input bits, between the rows before and after the stage
abbrev pub AreStageSoft : ℕ → ℕ → (ℕ → ℕ → ℤ) → List ℤ → List ℤ → List ℤ → Type 0
AreStageSoft m size edge fore back out =
    (i : ℕ) → i < m → IsSoft (IsEdge size 2) (λ (e : ℕ × ℕ). input_bit m i e.0 e.1)
    (λ e. number_at fore e.0 +ℤ (edge e.0 e.1 +ℤ number_at back (e.1 % 2))) (number_at out i)

-- the soft values of the m input bits of the places of a list of so many scores
abbrev pub AreListSoft : ℕ → ℕ → ℕ → List ℤ → List ℤ → Type 0
AreListSoft m size bits scores out =
    (i : ℕ) → i < bits → IsSoft (λ (v : ℕ). v < size) (input_bit m i 0) (number_at scores) (number_at out i)

-- the edges of both states in one list of n, with what stands around them: each the greater of one and its mirror image
abbrev pub AreJoined : ℕ → List ℤ → List ℤ → List ℤ → List ℤ → List ℤ → Type 0
AreJoined n from0 around0 from1 around1 joint =
    (v : ℕ) → v < n → number_at joint v ≡
    int_max (number_at around0 (v % 2) +ℤ number_at from0 v) (number_at around1 (v % 2) +ℤ number_at from1 (n - 1 - v))
