use Rattle.std.proofs.Common.{rules, arith}
use Rattle.hpe_base.specs.Slots.{symbol_octets}
use Rattle.hpe_send.proofs.Pending.{pending_same, pieces_more, pieces_all, pieces-front}
use Rattle.hpe_io.proofs.Fronts.{grows-front}
use Rattle.hpe_io.proofs.Results.{on_err_of}
use Rattle.hpe_send.proofs.period.send_symbols.Goals as goal

pub returns-in_err-add-clause-cut : goal.returns-in_err-add-clause-cut
returns-in_err-add-clause-cut g c = λ start all h.
    on_err_of c.from_residual.result
    (grows-front start _ _ _ (pieces-front (symbol_octets c.args.p.now) all c.args.symbols.now c.loop-symbol.symbol-index (omega arith))
    (c.in_err-add.ensures.cut start _ (c.loop-symbol.invariant.0 start all h)))

pub loop-symbol-preserved : goal.loop-symbol-preserved
loop-symbol-preserved g c = (
  (λ start all h. pending_same start _ _ _ _ (pieces_more (symbol_octets c.args.p.now) all c.args.symbols.now c.loop-symbol.symbol-index (omega arith))
      (c.in_ok-add.ensures.ok start _ (c.loop-symbol.invariant.0 start all h))),
  search rules,
)

pub returns-clause-ok : goal.returns-clause-ok
returns-clause-ok g c = λ start all h.
    pending_same start _ _ _ _ (pieces_all (symbol_octets c.args.p.now) all c.args.symbols.now c.loop-symbol.symbol-index (omega arith))
    (c.loop-symbol.invariant.0 start all h)
