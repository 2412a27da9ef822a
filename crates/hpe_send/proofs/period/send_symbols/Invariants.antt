use Rattle.std.proofs.Common.{◌++◌, ℕ, List, take}
use Rattle.std.specs.List.{flat_map}
use Rattle.std.specs.declared.option.Option.{Option}
use Rattle.hpe_base.specs.Slots.{symbol_octets}
use Rattle.hpe_send.specs.Outgoing.{IsPending}
use Rattle.hpe_io.specs.Standing.{SinkServes}
use Rattle.hpe_send.proofs.period.send_symbols.Given as goal

abbrev pub invariant-loop-symbol : goal.invariant-loop-symbol
invariant-loop-symbol g l =
    ((start : Option (List ℕ)) (all : List ℕ) → IsPending start (g.O.Sink.written l.fn.output) l.fn.outbox all
    → IsPending start (g.O.Sink.written l.output) l.outbox (all ++ flat_map (symbol_octets l.p) (take l.symbol-index l.symbols)))
    × SinkServes g.O.Sink.faults g.O.Sink.mark l.fn.output l.output
