-- What is kept of a stream between two pieces of counts, and after which counts.
use Rattle.std.specs.Prelude.{ℕ, ◌≡◌, ◌*◌, ◌%◌, List, length, take, drop}
use Rattle.hpe_base.specs.Parameters.{Parameters, IsValid, symbol_slots, period_symbols}
use Rattle.hpe_weave.specs.Unweaving.{Unweaving, HasUnwoven}
use Rattle.hpe_rows.specs.Rows.{symbols_in, rows_of}

-- the inverse of the channel interleaver, the symbols of the period that have come, and the counts of the one that is
-- begun
pub record RowsState : Type 0 where
  pub parameters : Parameters
  pub unweaver : Unweaving
  pub symbol : ℕ
  pub begun : List ℕ

-- the counts of whole symbols
abbrev pub whole_symbols : Parameters → List ℕ → List ℕ
whole_symbols p seen = take (symbols_in p seen * symbol_slots p) seen

-- and the rest, those of the symbol that is begun
abbrev pub begun_symbol : Parameters → List ℕ → List ℕ
begun_symbol p seen = drop (symbols_in p seen * symbol_slots p) seen

-- these counts are whole symbols, so many of the period that runs, and their rows went into the inverse of the
-- interleaver
pub record HasPassed (p : Parameters) (u : Unweaving) (symbol : ℕ) (seen : List ℕ) : Type 0 where
  pub valid : IsValid p
  pub whole : length seen ≡ symbols_in p seen * symbol_slots p
  pub place : symbol ≡ symbols_in p seen % period_symbols p
  pub unwoven : HasUnwoven u (rows_of p seen)

-- the state is as these counts left it, the first of which is the first of a marker
pub record HasRows (s : RowsState) (seen : List ℕ) : Type 0 where
  pub passed : HasPassed s.parameters s.unweaver s.symbol (whole_symbols s.parameters seen)
  pub begun : s.begun ≡ begun_symbol s.parameters seen
