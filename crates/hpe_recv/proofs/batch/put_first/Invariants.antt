use Rattle.std.proofs.Common.{◌≡◌, ◌+◌, length, take, false}
use Rattle.hpe_io.specs.Standing.{SinkServes}
use Rattle.hpe_recv.specs.Batching.{loaded_verdicts}
use Rattle.hpe_recv.proofs.Batched.{Delivers}
use Rattle.hpe_recv.proofs.batch.put_first.Given as goal

abbrev pub invariant-loop-i : goal.invariant-loop-i
invariant-loop-i g l = record {
  profile : l.outlet.scan.parameters ≡ l.fn.outlet.scan.parameters;
  delivers : Delivers l.fn.outlet l.outlet (g.O.Sink.written l.fn.frames) (g.O.Sink.written l.frames) (g.R.Sink.written l.fn.report) (g.R.Sink.written l.report) (take l.i (loaded_verdicts l.fn.crew));
  unspent : l.outlet.scan.spent ≡ false;
  blocks : l.outlet.scan.blocks ≡ l.fn.outlet.scan.blocks + l.i;
  size : length l.block ≡ length l.fn.block;
  frames : SinkServes g.O.Sink.faults g.O.Sink.mark l.fn.frames l.frames;
  report : SinkServes g.R.Sink.faults g.R.Sink.mark l.fn.report l.report;
}
