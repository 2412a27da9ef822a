use Rattle.std.proofs.Common.{refl}
use Rattle.std.proofs.lemmas.Result.{on_err_weaker}
use Rattle.hpe_rows.specs.Rows.{placed_rows}
use Rattle.hpe_recv.specs.Settled.{settled, verdicts_on}
use Rattle.hpe_recv.proofs.Collected.{puts_same}
use Rattle.hpe_recv.proofs.stream.Stream.finish.Goals as goal

pub returns-clause-ok : goal.returns-clause-ok
returns-clause-ok g c = rw (← c.self.view_is) (λ seen start begin h.
    let p = c.self.inside.rows.parameters in
    c.finish.ensures.ok (verdicts_on p (placed_rows p seen)) (settled p seen) start begin h.batched)

pub returns-clause-cut : goal.returns-clause-cut
returns-clause-cut g c = rw (← c.self.view_is) (λ seen start begin h.
    let p = c.self.inside.rows.parameters in
    on_err_weaker c.finish.result (puts_same _ _ _ _ start _ begin _ h.profile refl) (c.finish.ensures.cut (verdicts_on p (placed_rows p seen)) (settled p seen) start begin h.batched))

pub returns-clause-lines : goal.returns-clause-lines
returns-clause-lines g c = rw (← c.self.view_is) (λ seen start begin h.
    let p = c.self.inside.rows.parameters in
    c.finish.ensures.lines (verdicts_on p (placed_rows p seen)) (settled p seen) start begin h.batched)
