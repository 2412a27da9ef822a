-- What the channel interleaver keeps.
use Rattle.std.specs.Prelude.{ℕ, ◌+◌, ◌*◌, ◌%◌, ◌<◌, ◌≤◌, ◌≡◌, List, ◌++◌, length, slice_index_or}
use Rattle.circular_buffer.specs.Buffer.{Buffer, keep_last}
use Rattle.hpe_base.specs.Parameters.{Parameters}
use Rattle.hpe_base.specs.Bits.{zeros}
use Rattle.hpe_weave.specs.Turns.{on_row}

-- a weaver: ring j is that of row j + 1, and turn is the row of the next push
pub record Weaving : Type 0 where
  pub parameters : Parameters
  pub rings : List (Buffer ℕ)
  pub turn : ℕ

-- what waits on row i after these pushes: the last of the zeros that stand before all and the symbols of the row
abbrev pub waiting : Parameters → List ℕ → ℕ → List ℕ
waiting p pushed i = keep_last (i * p.delay) (zeros (i * p.delay) ++ on_row p.rows pushed i)

-- the weaver is as these pushes left it
pub record HasWoven (w : Weaving) (pushed : List ℕ) : Type 0 where
  pub turn : w.turn ≡ length pushed % w.parameters.rows
  pub rings : (j : ℕ) (d : Buffer ℕ) → j + 1 < w.parameters.rows → (slice_index_or w.rings j d).items ≡ waiting w.parameters pushed (j + 1)

-- what every weaver keeps
pub record IsWeaving (w : Weaving) : Type 0 where
  pub rows_low : 1 ≤ w.parameters.rows
  pub turn_in : w.turn < w.parameters.rows
  pub count : length w.rings + 1 ≡ w.parameters.rows
  pub capacity : (j : ℕ) (d : Buffer ℕ) → j + 1 < w.parameters.rows → (slice_index_or w.rings j d).capacity ≡ (j + 1) * w.parameters.delay
  pub full : (j : ℕ) (d : Buffer ℕ) → j + 1 < w.parameters.rows → length (slice_index_or w.rings j d).items ≡ (slice_index_or w.rings j d).capacity
