use Rattle.std.proofs.Common.{◌≡◌, ℕ, ◌+◌, ◌*◌, ◌<◌, [], get_or}
use Rattle.hpe_lane.specs.Windows.{windows_end}
use Rattle.hpe_trellis.specs.OuterTrellis.{OuterFore}
use Rattle.hpe_trellis.proofs.outer.forward_rows.Given as goal

abbrev pub invariant-loop-w : goal.invariant-loop-w
invariant-loop-w g l = record {
  now : OuterFore (windows_end l.n l.w) l.fn.word.columns.now l.fn.word.l.now l.row;
  kept : (v : ℕ) → v < l.w → OuterFore (64 * v) l.fn.word.columns.now l.fn.word.l.now (get_or l.kept v []);
  cost : l.steps ≡ l.initial.steps + windows_end l.n l.w;
}
