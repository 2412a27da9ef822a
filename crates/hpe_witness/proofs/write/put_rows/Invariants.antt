use Rattle.std.proofs.Common.{◌≡◌, ◌<◌, ◌+◌, ◌*◌, ℕ, [], get_or}
use Rattle.hpe_witness.specs.Record.{row_at, IsSameBelow}
use Rattle.hpe_witness.proofs.write.put_rows.Given as goal

abbrev pub invariant-loop-t : goal.invariant-loop-t
invariant-loop-t l = record {
  rows : (k : ℕ) → k < l.t → row_at l.into (l.from + 16 * k) ≡ get_or l.rows k [];
  below : IsSameBelow l.from l.fn.into l.into;
}
