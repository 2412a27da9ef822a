use Rattle.std.proofs.Common.{◌++◌, ◌∙◌, drop, refl, subst}
use Rattle.std.proofs.lemmas.Result.{err_from_is_err_and}
use Rattle.hpe_recv.specs.Settled.{settled}
use Rattle.hpe_recv.specs.Delivering.{HasDelivered}
use Rattle.hpe_recv.proofs.Outcomes.{frames_of_cut}
use Rattle.hpe_recv.proofs.Read.{broken_ended}
use Rattle.hpe_recv.proofs.TakenParts.{part-same, lines-same}
use Rattle.hpe_recv.proofs.reception.Reception.follow_to_end.Goals as goal

pub returns-in_err-finish-clause-cut : goal.returns-in_err-finish-clause-cut
returns-in_err-finish-clause-cut g c = λ start come.
    let t = c.in_ok-follow.ensures.ok start come in
    let p = c.args.self.now.finder.parameters in
    let q = c.follow.new.self.stream.rows.parameters in
    let same = c.in_ok-follow.ensures.stands.profile ∙ c.requires.ready.profile in
    let h = c.in_err-finish.ensures in
    let e = err_from_is_err_and c.from_residual-in_err-finish.result c.from_residual-in_err-finish.ensures.1 in
    rw (e.1, e.2) (
      t.0,
      broken_ended p _ _ start _ t.0 t.1,
      part-same p q _ _ _ _ _ _ same refl (h.cut _ _ _ t.2),
      λ no. frames_of_cut c.in_err-finish.field-0.0 no (λ is. lines-same p q _ _ _ _ same refl (h.lines _ _ _ t.2 is)),
    )

pub returns-clause-ok : goal.returns-clause-ok
returns-clause-ok g c = λ start come.
    let t = c.in_ok-follow.ensures.ok start come in
    let kept = c.args.self.now.finder.counts in (
      t.0,
      t.1,
      subst (λ q. HasDelivered c.finish.new.self.batch.outlet (settled q (drop c.args.self.now.lead kept ++ t.0)) (g.O.Sink.written c.args.frames.now) (g.O.Sink.written c.finish.new.frames) (g.R.Sink.written c.args.report.now) (g.R.Sink.written c.finish.new.report))
          (c.in_ok-follow.ensures.stands.profile ∙ c.requires.ready.profile) (c.in_ok-finish.ensures.ok _ _ _ t.2),
    )
