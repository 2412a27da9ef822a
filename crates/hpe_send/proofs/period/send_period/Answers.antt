use Rattle.hpe_base.specs.Slots.{symbol_octets}
use Rattle.hpe_send.proofs.Pending.{pending_ok, pieces_twice, front_twice, grows_err}
use Rattle.hpe_io.proofs.Fronts.{grows-front}
use Rattle.hpe_io.proofs.Results.{on_err_of}
use Rattle.hpe_send.proofs.period.send_period.Goals as goal

pub returns-clause-ok : goal.returns-clause-ok
returns-clause-ok g c = λ start all h.
    pending_ok c.send_symbols-2.result start _ _ _ _ (pieces_twice (symbol_octets c.args.p.now) all _ _ c.args.woven.now c.marker.ensures.value)
    (c.send_symbols-2.ensures.ok start _ (c.in_ok-send_symbols.ensures.ok start all h))

pub returns-in_err-send_symbols-clause-cut : goal.returns-in_err-send_symbols-clause-cut
returns-in_err-send_symbols-clause-cut g c = λ start all h.
    on_err_of c.from_residual.result
    (grows-front start _ _ _ (front_twice (symbol_octets c.args.p.now) all _ _ c.args.woven.now c.marker.ensures.value)
    (c.in_err-send_symbols.ensures.cut start all h))

pub returns-clause-cut : goal.returns-clause-cut
returns-clause-cut g c = λ start all h.
    grows_err c.send_symbols-2.result start _ _ _ (pieces_twice (symbol_octets c.args.p.now) all _ _ c.args.woven.now c.marker.ensures.value)
    (c.send_symbols-2.ensures.cut start _ (c.in_ok-send_symbols.ensures.ok start all h))
