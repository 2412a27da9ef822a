use Rattle.std.proofs.Common.{◌<◌, ◌≤◌, ◌∙◌, arith, drop, length, [], refl, subst}
use Rattle.std.proofs.lemmas.Result.{err_from_is_err_and, on_err_weaker}
use Rattle.hpe_find.specs.Finding.{finder_room}
use Rattle.hpe_recv.specs.Streaming.{HasTaken}
use Rattle.hpe_recv.proofs.Caused.{untaken_cause-after}
use Rattle.hpe_recv.proofs.Outcomes.{frames_of_cut, on_ok_both}
use Rattle.hpe_recv.proofs.Read.{broken_none, broken_all, ended_none, ended_all}
use Rattle.hpe_recv.proofs.Received.{kept_slice, kept_all}
use Rattle.hpe_recv.proofs.TakenParts.{part-same, lines-same}
use Rattle.hpe_recv.proofs.reception.Reception.follow.Goals as goal

pub returns-in_err-take_counts-clause-cut : goal.returns-in_err-take_counts-clause-cut
returns-in_err-take_counts-clause-cut g c = λ start come.
    let h = c.in_err-take_counts.ensures in
    let p = c.args.self.now.finder.parameters in
    let q = c.args.self.now.stream.rows.parameters in
    let list = kept_all c.counts-kept.result.now c.args.self.now.finder.counts c.args.self.now.lead c.counts-kept.ensures in
    let e = err_from_is_err_and c.from_residual.result c.from_residual.ensures.1 in
    rw (e.1, e.2) (
      [],
      broken_none p _ _ start _ come c.requires.ready.within,
      part-same p q _ _ _ _ _ _ c.requires.ready.profile list (h.cut [] _ _ c.requires.ready.stands),
      λ no. frames_of_cut c.in_err-take_counts.field-0.0 no (λ is. lines-same p q _ _ _ _ c.requires.ready.profile list (h.lines [] _ _ c.requires.ready.stands is)),
    )

pub returns-then-room-gt0-clause-ok : goal.returns-then-room-gt0-clause-ok
returns-then-room-gt0-clause-ok g c = λ start come.
    let kept = c.args.self.now.finder.counts in
    let less : length kept < finder_room c.args.self.now.finder.parameters = omega (arith, c.if-room-gt0.true, c.room.ensures.value) in (
      [],
      ended_none c.args.self.now.finder.parameters kept c.args.self.now.intake start _ come c.requires.ready.within (c.requires.ended less),
      subst (λ l. HasTaken c.take_counts.new.self l (g.O.Sink.written c.args.frames.now) (g.O.Sink.written c.take_counts.new.frames) (g.R.Sink.written c.args.report.now) (g.R.Sink.written c.take_counts.new.report))
          (kept_all c.counts-kept.result.now kept c.args.self.now.lead c.counts-kept.ensures) (c.in_ok-take_counts.ensures.ok [] _ _ c.requires.ready.stands),
    )

pub returns-clause-ok : goal.returns-clause-ok
returns-clause-ok g c = λ start come.
    let kept = c.args.self.now.finder.counts in
    let full : finder_room c.args.self.now.finder.parameters ≤ length kept = omega (arith, c.if-room-gt0.false, c.room.ensures.value) in
    let was = subst (λ l. HasTaken c.take_counts.new.self l (g.O.Sink.written c.args.frames.now) (g.O.Sink.written c.take_counts.new.frames) (g.R.Sink.written c.args.report.now) (g.R.Sink.written c.take_counts.new.report))
    (kept_slice c.counts-kept.result.now kept c.args.self.now.lead c.counts-kept.ensures) (c.in_ok-take_counts.ensures.ok [] _ _ c.requires.ready.stands) in
    on_ok_both c.follow_rest.result
    (λ t r. (t.0, ended_all c.args.self.now.finder.parameters kept c.follow_rest.new.self.intake start _ t.0 full t.1 (omega (arith, r.within, c.follow_rest.ensures.stands.intake.same_limit)) t.2, t.3))
    (c.follow_rest.ensures.ok (drop c.args.self.now.lead kept) _ _ start kept was come) c.follow_rest.ensures.ready

pub returns-clause-cut : goal.returns-clause-cut
returns-clause-cut g c = λ start come.
    let p = c.args.self.now.finder.parameters in
    let kept = c.args.self.now.finder.counts in
    let full : finder_room p ≤ length kept = omega (arith, c.if-room-gt0.false, c.room.ensures.value) in
    let was = subst (λ l. HasTaken c.take_counts.new.self l (g.O.Sink.written c.args.frames.now) (g.O.Sink.written c.take_counts.new.frames) (g.R.Sink.written c.args.report.now) (g.R.Sink.written c.take_counts.new.report))
    (kept_slice c.counts-kept.result.now kept c.args.self.now.lead c.counts-kept.ensures) (c.in_ok-take_counts.ensures.ok [] _ _ c.requires.ready.stands) in
    let same = c.in_ok-take_counts.ensures.profile ∙ c.requires.ready.profile in
    let s = c.follow_rest.ensures.stands.intake in
    on_err_weaker c.follow_rest.result
    (λ t. (
      t.0,
      broken_all p kept c.follow_rest.new.self.intake start _ t.0 full t.1 (omega (arith, s.most, s.same_limit)),
      part-same p c.take_counts.new.self.rows.parameters _ _ _ _ _ _ same refl t.2,
      λ no. lines-same p c.take_counts.new.self.rows.parameters _ _ _ _ same refl (t.3 no),
    ))
    (c.follow_rest.ensures.cut (drop c.args.self.now.lead kept) _ _ start kept was come)

pub returns-clause-cause : goal.returns-clause-cause
returns-clause-cause g c = untaken_cause-after c.follow_rest.result _ _ _ _ _ _ _ _ _ refl c.in_ok-take_counts.ensures.cause.0 c.in_ok-take_counts.ensures.cause.1 c.follow_rest.ensures.cause
