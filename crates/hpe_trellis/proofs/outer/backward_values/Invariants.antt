use Rattle.std.proofs.Common.{◌≡◌, ◌+◌, ◌-◌, ◌*◌, length}
use Rattle.hpe_lane.specs.Windows.{windows_end}
use Rattle.hpe_trellis.specs.OuterTrellis.{OuterBack, SoftFrom}
use Rattle.hpe_trellis.proofs.outer.backward_values.Given as goal

abbrev pub invariant-loop-k : goal.invariant-loop-k
invariant-loop-k g l = record {
  back : OuterBack (windows_end l.n (length l.kept - l.k)) (l.n - windows_end l.n (length l.kept - l.k)) l.fn.word.columns.now l.fn.word.l.now l.back;
  soft : SoftFrom l.fn.word.columns.now l.fn.word.l.now (length l.fn.info) (windows_end l.n (length l.kept - l.k)) l.info l.code;
  cost : l.steps ≡ l.initial.steps + 2 * (l.n - windows_end l.n (length l.kept - l.k));
}
