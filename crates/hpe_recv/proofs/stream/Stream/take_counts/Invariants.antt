use Rattle.std.proofs.Common.{◌≡◌, ◌≤◌, ◌-◌, ◌+◌, length, take, false}
use Rattle.hpe_io.specs.Standing.{SinkServes}
use Rattle.hpe_recv.specs.Batching.{blocks_due}
use Rattle.hpe_recv.proofs.Taking.{Follows}
use Rattle.hpe_recv.proofs.stream.Stream.take_counts.Given as goal

abbrev pub invariant-loop-place : goal.invariant-loop-place
invariant-loop-place g l = record {
  profile : l.self.rows.parameters ≡ l.fn.self.rows.parameters;
  follows : Follows l.fn.self l.self (g.O.Sink.written l.fn.frames) (g.O.Sink.written l.frames) (g.R.Sink.written l.fn.report) (g.R.Sink.written l.report) (take l.place l.counts);
  unspent : l.self.batch.outlet.scan.spent ≡ false;
  blocks : blocks_due l.self.batch ≤ blocks_due l.fn.self.batch + l.place;
  within : l.place ≤ length l.counts;
  frames : SinkServes g.O.Sink.faults g.O.Sink.mark l.fn.frames l.frames;
  report : SinkServes g.R.Sink.faults g.R.Sink.mark l.fn.report l.report;
}

abbrev pub decreases-loop-place : goal.decreases-loop-place
decreases-loop-place g l = length l.counts - l.place
