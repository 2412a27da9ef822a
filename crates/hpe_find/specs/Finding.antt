-- What a finder keeps.
use Rattle.std.specs.Prelude.{ℕ, ◌+◌, ◌*◌, List, length}
use Rattle.hpe_base.specs.Parameters.{Parameters, symbol_slots, period_slots}

-- a finder: the counts that were fed, and the parameters of their link
pub record Finding : Type 0 where
  pub parameters : Parameters
  pub counts : List ℕ

-- the counts that settle the offset of a stream: the periods that are searched, and the marker that begins at their
-- last slot
abbrev pub finder_room : Parameters → ℕ
finder_room p = p.search * period_slots p + length p.marker * symbol_slots p
