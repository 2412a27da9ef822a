use Rattle.std.proofs.Common.{◌≡◌, ◌≤◌, ℕ, [], get_or}
use Rattle.hpe_witness.specs.PathMetrics.{metric_row}
use Rattle.hpe_witness.proofs.best.metric_rows.Given as goal

abbrev pub invariant-loop-t : goal.invariant-loop-t
invariant-loop-t g l = record {
  rows : (s : ℕ) → s ≤ l.t → get_or l.rows s [] ≡ metric_row l.columns l.l s;
  row : l.row ≡ metric_row l.columns l.l l.t;
  cost : l.counter ≡ l.t;
}
