-- What the inverse of the channel interleaver keeps.
use Rattle.std.specs.Prelude.{ℕ, ◌+◌, ◌-◌, ◌*◌, ◌%◌, ◌<◌, ◌≤◌, ◌≡◌, ◌^◌, List, length, slice_index_or, All, sum, min}
use Rattle.std.specs.List.{sum_by}
use Rattle.circular_buffer.specs.Buffer.{Buffer, keep_last}
use Rattle.hpe_base.specs.Lists.{tabulate}
use Rattle.hpe_base.specs.Parameters.{Parameters, interleaver_depth, positions}
use Rattle.hpe_weave.specs.Turns.{turns, joined_on_row}

-- an unweaver: ring j is that of row j, turn is the row of the next push, and wait is how many pushes still give nothing
pub record Unweaving : Type 0 where
  pub parameters : Parameters
  pub rings : List (Buffer ℕ)
  pub turn : ℕ
  pub wait : ℕ

-- the turns by which row i is held back
abbrev pub held_turns : Parameters → ℕ → ℕ
held_turns p i = (p.rows - 1 - i) * p.delay

-- the sums that wait on row i after these pushes
abbrev pub gathered : Parameters → List (List ℕ) → ℕ → List ℕ
gathered p pushed i = keep_last (held_turns p i * positions p.order) (joined_on_row p.rows pushed i)

-- the unweaver is as these pushes left it
pub record HasUnwoven (u : Unweaving) (pushed : List (List ℕ)) : Type 0 where
  pub whole : All (λ row. length row ≡ positions u.parameters.order) pushed
  pub turn : u.turn ≡ length pushed % u.parameters.rows
  pub wait : u.wait ≡ interleaver_depth u.parameters - length pushed
  pub rings : (j : ℕ) (d : Buffer ℕ) → j + 1 < u.parameters.rows → (slice_index_or u.rings j d).items ≡ gathered u.parameters pushed j

-- what every unweaver keeps
pub record IsUnweaving (u : Unweaving) : Type 0 where
  pub rows_low : 1 ≤ u.parameters.rows
  pub rows_high : u.parameters.rows ≤ 64
  pub delay_low : 1 ≤ u.parameters.delay
  pub depth : interleaver_depth u.parameters * positions u.parameters.order ≤ 2 ^ 26
  pub turn_in : u.turn < u.parameters.rows
  pub count : length u.rings + 1 ≡ u.parameters.rows
  pub capacity : (j : ℕ) (d : Buffer ℕ) → j + 1 < u.parameters.rows → (slice_index_or u.rings j d).capacity ≡ held_turns u.parameters j * positions u.parameters.order

-- how many sums wait in the rings
abbrev pub waiting_in : Unweaving → ℕ
waiting_in u = sum_by (λ ring. length ring.items) u.rings

-- how many sums wait after c pushes: on each row those of the turns so far, or of as many as it is held back by
abbrev pub held_after : Parameters → ℕ → ℕ
held_after p c = positions p.order * sum (tabulate p.rows (λ i. min (held_turns p i) (turns p.rows c i)))
