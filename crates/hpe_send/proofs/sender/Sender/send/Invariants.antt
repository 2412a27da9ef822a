use Rattle.std.proofs.Common.{◌-◌, ◌+◌}
use Rattle.hpe_io.specs.Standing.{SourceServes, SinkServes}
use Rattle.hpe_send.proofs.Taken.{IsSending}
use Rattle.hpe_send.proofs.sender.Sender.send.Given as goal

abbrev pub invariant-loop-intake : goal.invariant-loop-intake
invariant-loop-intake g l = record {
  sending : IsSending l.fn.self l.limit l.intake l.chain (g.I.Source.left l.fn.input) (g.I.Source.left l.input)
      (g.O.Sink.written l.fn.output) (g.O.Sink.written l.output);
  input : SourceServes g.I.Source.faults g.I.Source.mark g.I.Source.build l.fn.input l.input;
  output : SinkServes g.O.Sink.faults g.O.Sink.mark l.fn.output l.output;
}

abbrev pub decreases-loop-intake : goal.decreases-loop-intake
decreases-loop-intake g l = l.limit + 1 - l.intake.taken
