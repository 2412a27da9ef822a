use Rattle.std.proofs.Common.{◌≡◌, ◌+◌, ◌*◌, ◌++◌, ℕ, List}
use Rattle.std.specs.declared.option.Option.{Option}
use Rattle.hpe_base.specs.Bits.{zeros}
use Rattle.hpe_base.specs.Parameters.{codeword_symbols}
use Rattle.hpe_send.specs.Coding.{HasCoded}
use Rattle.hpe_io.specs.Standing.{SinkServes}
use Rattle.hpe_send.proofs.coder.Coder.finish.Given as goal

abbrev pub invariant-loop : goal.invariant-loop
invariant-loop g l = record {
  profile : l.self.parameters ≡ l.fn.self.parameters;
  coded : (n : ℕ) (symbols : List ℕ) (start : Option (List ℕ)) → HasCoded l.fn.self n symbols start (g.O.Sink.written l.fn.output)
      → HasCoded l.self (n + l.counter) (symbols ++ zeros (l.counter * codeword_symbols l.fn.self.parameters.order)) start (g.O.Sink.written l.output);
  output : SinkServes g.O.Sink.faults g.O.Sink.mark l.fn.output l.output;
}
