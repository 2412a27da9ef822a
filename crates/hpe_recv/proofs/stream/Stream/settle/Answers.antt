use Rattle.std.proofs.Common.{ap, refl}
use Rattle.std.proofs.lemmas.Result.{on_ok_weaker, on_err_weaker}
use Rattle.hpe_crew.specs.Crewing.{Crewing}
use Rattle.hpe_rows.specs.Rows.{placed_rows}
use Rattle.hpe_recv.specs.Settled.{verdicts_on}
use Rattle.hpe_recv.specs.StreamView.{streaming}
use Rattle.hpe_recv.proofs.Collected.{puts_same, batch_settled}
use Rattle.hpe_recv.proofs.stream.Stream.settle.Goals as goal

pub returns-clause-ok : goal.returns-clause-ok
returns-clause-ok g c = rw (← c.self.view_is) (λ seen verdicts start begin h.
    let p = c.self.inside.rows.parameters in
    on_ok_weaker c.settle.result (batch_settled (streaming c.self.inside) c.settle.new.self seen verdicts start _ start _ begin _ begin _ h (ap (λ (k : Crewing). k.parameters) c.settle.ensures.profile))
    (c.settle.ensures.ok (verdicts_on p (placed_rows p seen)) verdicts start begin h.batched))

pub returns-clause-cut : goal.returns-clause-cut
returns-clause-cut g c = rw (← c.self.view_is) (λ seen verdicts start begin h.
    let p = c.self.inside.rows.parameters in
    on_err_weaker c.settle.result (puts_same _ _ _ _ start _ begin _ h.profile refl) (c.settle.ensures.cut (verdicts_on p (placed_rows p seen)) verdicts start begin h.batched))

pub returns-clause-lines : goal.returns-clause-lines
returns-clause-lines g c = rw (← c.self.view_is) (λ seen verdicts start begin h.
    let p = c.self.inside.rows.parameters in
    c.settle.ensures.lines (verdicts_on p (placed_rows p seen)) verdicts start begin h.batched)
