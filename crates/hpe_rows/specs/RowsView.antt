-- How contracts see the fields of the rows of a stream.
use Rattle.std.specs.Prelude.{ℕ, ◌≡◌, ◌≤◌, ◌<◌, List, length, vec_len, vec_capacity}
use Rattle.hpe_base.specs.Parameters.{positions, symbol_slots, period_symbols}
use Rattle.hpe_rows.specs.RowsState.{RowsState, HasRows}
use Rattle.hpe_rows.specs.declared.rows.Rows.TheInside.{Inside}

abbrev pub rows_state : Inside → RowsState
rows_state r = record { parameters = r.profile; unweaver = r.unweaver; symbol = r.symbol; begun = r.begun.items }

-- less than a symbol is begun, there is room for one, and all is as some counts left it
pub record IsRows (r : Inside) : Type 0 where
  pub unweaver : r.unweaver.parameters ≡ r.profile
  pub slots : r.slots ≡ symbol_slots r.profile
  pub slots_most : r.slots ≤ 10240
  pub period : r.period ≡ period_symbols r.profile
  pub symbol : r.symbol < period_symbols r.profile
  pub begun : vec_len r.begun < symbol_slots r.profile
  pub room : symbol_slots r.profile ≤ vec_capacity r.begun
  pub row : length r.row.items ≡ positions r.profile.order
  pub counts : List ℕ
  pub stands : HasRows (rows_state r) counts
