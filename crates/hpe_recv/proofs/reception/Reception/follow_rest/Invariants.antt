use Rattle.std.proofs.Common.{◌≡◌, ◌≤◌, ◌-◌, ◌+◌, ℕ, List, false}
use Rattle.hpe_io.specs.Standing.{SourceServes, SinkServes}
use Rattle.hpe_recv.specs.Batching.{blocks_due}
use Rattle.hpe_recv.proofs.Taking.{ComesOn, Follows}
use Rattle.hpe_recv.proofs.reception.Reception.follow_rest.Given as goal

abbrev pub invariant-loop-self : goal.invariant-loop-self
invariant-loop-self g l = record {
  finder : l.self.finder ≡ l.fn.self.finder;
  period : l.self.period ≡ l.fn.self.period;
  lead : l.self.lead ≡ l.fn.self.lead;
  profile : l.self.stream.rows.parameters ≡ l.fn.self.stream.rows.parameters;
  same : l.self.intake.parameters ≡ l.fn.self.intake.parameters;
  limit : l.self.intake.octets.limit ≡ l.fn.self.intake.octets.limit;
  low : l.fn.self.intake.octets.taken ≤ l.self.intake.octets.taken;
  within : l.self.intake.octets.taken ≤ l.fn.self.intake.octets.limit;
  unspent : l.self.stream.batch.outlet.scan.spent ≡ false;
  blocks : blocks_due l.self.stream.batch ≤ l.self.intake.octets.taken;
  taken : (rest : List ℕ)
      × ComesOn l.fn.self.intake l.self.intake (g.I.Source.left l.fn.input) (g.I.Source.left l.input) rest
      × Follows l.fn.self.stream l.self.stream (g.O.Sink.written l.fn.frames) (g.O.Sink.written l.frames) (g.R.Sink.written l.fn.report) (g.R.Sink.written l.report) rest;
  input : SourceServes g.I.Source.faults g.I.Source.mark g.I.Source.build l.fn.input l.input;
  frames : SinkServes g.O.Sink.faults g.O.Sink.mark l.fn.frames l.frames;
  report : SinkServes g.R.Sink.faults g.R.Sink.mark l.fn.report l.report;
}

abbrev pub decreases-loop-self : goal.decreases-loop-self
decreases-loop-self g l = l.self.intake.octets.limit + 1 - l.self.intake.octets.taken
