use Rattle.std.proofs.Common.{◌≡◌, ◌++◌, ℕ, List, take}
use Rattle.std.specs.declared.option.Option.{Option}
use Rattle.hpe_send.specs.Chaining.{HasTaken}
use Rattle.hpe_io.specs.Standing.{SinkServes}
use Rattle.hpe_send.proofs.chain.Chain.take.Given as goal

abbrev pub invariant-loop-octet : goal.invariant-loop-octet
invariant-loop-octet g l = record {
  profile : l.self.coder.parameters ≡ l.fn.self.coder.parameters;
  taken : (fed : List ℕ) (start : Option (List ℕ)) → HasTaken l.fn.self fed start (g.O.Sink.written l.fn.output)
      → HasTaken l.self (fed ++ take l.octet-index l.piece) start (g.O.Sink.written l.output);
  output : SinkServes g.O.Sink.faults g.O.Sink.mark l.fn.output l.output;
}
