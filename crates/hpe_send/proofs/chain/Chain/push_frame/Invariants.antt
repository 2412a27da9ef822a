use Rattle.std.proofs.Common.{◌≡◌, ◌++◌, ℕ, List, take}
use Rattle.std.specs.declared.option.Option.{Option}
use Rattle.hpe_frame.specs.Feeding.{marked}
use Rattle.hpe_send.specs.Chaining.{HasPushed}
use Rattle.hpe_io.specs.Standing.{SinkServes}
use Rattle.hpe_send.proofs.chain.Chain.push_frame.Given as goal

abbrev pub invariant-loop-i : goal.invariant-loop-i
invariant-loop-i g l = record {
  profile : l.self.coder.parameters ≡ l.fn.self.coder.parameters;
  feed : l.self.feed ≡ l.fn.self.feed;
  pushed : (bits : List ℕ) (start : Option (List ℕ)) → HasPushed l.fn.self bits start (g.O.Sink.written l.fn.output)
      → HasPushed l.self (bits ++ take l.i (marked l.fn.self.feed)) start (g.O.Sink.written l.output);
  output : SinkServes g.O.Sink.faults g.O.Sink.mark l.fn.output l.output;
}
