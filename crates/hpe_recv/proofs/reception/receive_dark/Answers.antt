use Rattle.std.proofs.Common.{◌∙◌, arith}
use Rattle.std.proofs.lemmas.Result.{err_from_is_err_and}
use Rattle.hpe_io.proofs.Results.{on_err_of}
use Rattle.hpe_io.proofs.Taking.{come_count}
use Rattle.hpe_recv.proofs.Caused.{left_read}
use Rattle.hpe_recv.proofs.Outcomes.{err_at}
use Rattle.hpe_recv.proofs.Received.{part_none, lines_none, dark_all, dark_cut}
use Rattle.hpe_recv.proofs.reception.receive_dark.Goals as goal

pub returns-in_err-count_all-clause-cut : goal.returns-in_err-count_all-clause-cut
returns-in_err-count_all-clause-cut g c = λ written start come.
    let t = c.in_err-count_all.ensures.cut start come in
    let s = c.in_err-count_all.ensures.intake in
    on_err_of c.from_residual.result
    (part_none c.args.finder.now.parameters _ c.args.intake.now.octets.limit _ start _ written _ s.same_limit (omega (arith, t.1.most, s.same_limit)) t.1.stopped)

pub returns-in_err-count_all-clause-lines : goal.returns-in_err-count_all-clause-lines
returns-in_err-count_all-clause-lines g c = λ start come.
    let t = c.in_err-count_all.ensures.cut start come in
    on_err_of c.from_residual.result
    (λ _. lines_none c.args.finder.now.parameters _ c.args.intake.now.octets.limit _ start _ _ c.in_err-count_all.ensures.intake.same_limit t.1.stopped)

pub returns-in_err-count_all-clause-long : goal.returns-in_err-count_all-clause-long
returns-in_err-count_all-clause-long g c = λ start come.
    let t = c.in_err-count_all.ensures.cut start come in
    let e = err_from_is_err_and c.from_residual.result c.from_residual.ensures.1 in
    rw (e.1, e.2) (λ is. come_count _ start _ t.1.stopped.stopped.all _ t.1.stopped.stopped.come (c.in_err-count_all.ensures.long (err_at c.in_err-count_all.field-0.0 _ is)))

pub returns-in_err-count_all-clause-cause : goal.returns-in_err-count_all-clause-cause
returns-in_err-count_all-clause-cause g c = λ faults.
    let e = err_from_is_err_and c.from_residual.result c.from_residual.ensures.1 in
    rw (e.1, e.2) (left_read c.in_err-count_all.field-0.0 _ _ faults _ c.in_err-count_all.ensures.cause)

pub returns-in_err-put_line-clause-cut : goal.returns-in_err-put_line-clause-cut
returns-in_err-put_line-clause-cut g c = λ written start come.
    let t = c.in_ok-count_all.ensures.ok start come in
    let s = c.in_ok-count_all.ensures.intake in
    on_err_of c.from_residual-in_err-put_line.result
    (dark_cut c.args.finder.now.parameters _ c.dark_line.result.bytes c.counts-total.result _ (s.same_parameters ∙ c.requires.profile) c.args.intake.now.octets.limit s.same_limit
    c.counts-total.ensures start _ t.1.come t.1.within written _ _ (c.requires.found t.0 t.1.unless) c.dark_line.ensures.text c.in_err-put_line.ensures.bytes)

pub returns-clause-ok : goal.returns-clause-ok
returns-clause-ok g c = λ written start come.
    let t = c.in_ok-count_all.ensures.ok start come in
    let s = c.in_ok-count_all.ensures.intake in
    dark_all c.args.finder.now.parameters _ c.dark_line.result.bytes c.counts-total.result _ (s.same_parameters ∙ c.requires.profile) c.args.intake.now.octets.limit s.same_limit
    c.counts-total.ensures start _ t.1.come t.1.within written _ _ (c.requires.found t.0 t.1.unless) c.dark_line.ensures.text t.1.ended c.in_ok-put_line.ensures.bytes
