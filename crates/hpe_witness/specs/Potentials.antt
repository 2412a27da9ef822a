-- Potentials: a number for each state before each step of the outer trellis, and after the last.
use Rattle.std.specs.Prelude.{ℕ, ◌+◌, ◌<◌, ℤ, ◌+ℤ◌, ◌≤ℤ◌, ◌<ℤ◌, List, [], Bool, slice_index_or}
use Rattle.hpe_base.specs.Sizes.{number_at, Within}
use Rattle.hpe_lane.specs.OuterStage.{outer_next, edge_sum}
use Rattle.hpe_trellis.specs.OuterTrellis.{outer_edge}

-- the potential of state p before step t
abbrev pub potential : List (List ℤ) → ℕ → ℕ → ℤ
potential rows t p = number_at (slice_index_or rows t []) p

-- the greatest size of a potential
abbrev pub potential_most : ℕ
potential_most = 600000000

-- every potential is at most `most` in size
abbrev pub PotentialsWithin : ℕ → List (List ℤ) → Type 0
PotentialsWithin most rows = (t p : ℕ) → Within most (potential rows t p)

-- along each edge of n steps the potential rises by at least what the edge scores
pub record IsRising (columns : List (List Bool)) (l : List ℤ) (n : ℕ) (rows : List (List ℤ)) : Type 0 where
  pub each : (t p x : ℕ) → t < n → p < 4 → x < 2
      → (potential rows t p +ℤ outer_edge columns l t p x) ≤ℤ potential rows (t + 1) (outer_next p x)

-- along some edge of n steps it doesn't
pub record FallsSomewhere (columns : List (List Bool)) (l : List ℤ) (n : ℕ) (rows : List (List ℤ)) : Type 0 where
  pub step : ℕ
  pub state : ℕ
  pub input : ℕ
  pub step_low : step < n
  pub state_low : state < 4
  pub input_low : input < 2
  pub falls : potential rows (step + 1) (outer_next state input)
      <ℤ (potential rows step state +ℤ outer_edge columns l step state input)

-- along an edge of one step it rises so, by the a-priori numbers of the step's outputs
abbrev pub RisesAlong : List ℤ → List ℤ → List ℤ → ℕ → ℕ → Type 0
RisesAlong row l next p x = (number_at row p +ℤ edge_sum l p x) ≤ℤ number_at next (outer_next p x)

-- along some edge of one step it doesn't
pub record FallsAlong (row l next : List ℤ) : Type 0 where
  pub state : ℕ
  pub input : ℕ
  pub state_low : state < 4
  pub input_low : input < 2
  pub falls : number_at next (outer_next state input) <ℤ (number_at row state +ℤ edge_sum l state input)
