use Rattle.std.proofs.Common.{◌≡◌, ◌-◌, ◌≤◌, length, []}
use Rattle.hpe_io.specs.Standing.{SinkServes}
use Rattle.hpe_frame.proofs.Running.{Running}
use Rattle.hpe_frame.proofs.scan.scan_on.Given as goal

abbrev pub invariant-loop-run : goal.invariant-loop-run
invariant-loop-run g l = record {
  running : Running l.p l.bits (record { grid = l.fn.grid; place = 0; frames = [] }) l.run.at l.run.grid l.run.delivered (g.O.Sink.written l.initial.out) (g.O.Sink.written l.out);
  within : l.run.at ≤ length l.bits;
  few : l.run.delivered ≤ l.run.at;
  size : length l.octets ≡ length l.initial.octets;
  sink : SinkServes g.O.Sink.faults g.O.Sink.mark l.initial.out l.out;
}

abbrev pub decreases-loop-run : goal.decreases-loop-run
decreases-loop-run g l = length l.bits - l.run.at
