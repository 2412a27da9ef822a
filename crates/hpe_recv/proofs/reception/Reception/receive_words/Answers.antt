use Rattle.std.proofs.Common.{◌≤◌, ◌<◌, ◌/◌, ◌∙◌, ◌++◌, ap, subst, arith, length, refl, []}
use Rattle.std.proofs.lemmas.Result.{err_from_is_err_and}
use Rattle.hpe_base.specs.Parameters.{IsValid, period_slots}
use Rattle.hpe_recv.specs.Settled.{settled}
use Rattle.hpe_recv.specs.Delivering.{HasDelivered}
use Rattle.hpe_base.specs.Decoded.{tally_line}
use Rattle.std.specs.Io.KnownBytes.{append_known}
use Rattle.hpe_io.specs.Devices.{GrowsByFront}
use Rattle.hpe_io.proofs.Results.{on_err_of}
use Rattle.hpe_io.proofs.Taking.{come_count}
use Rattle.hpe_base.proofs.ParameterLemmas.{period-pos}
use Rattle.hpe_recv.proofs.Counting.{lead_within}
use Rattle.hpe_recv.proofs.Offsets.{kept-within}
use Rattle.hpe_recv.proofs.Outcomes.{err_at}
use Rattle.hpe_recv.proofs.Received.{drop-kept, words_part, words_lines, words_tally, words_all, words_cut, words_found}
use Rattle.hpe_recv.proofs.TakenParts.{part-same, lines-same}
use Rattle.hpe_recv.proofs.reception.Reception.receive_words.Goals as goal

pub follow_to_end-requires-clause-lead : goal.follow_to_end-requires-clause-lead
follow_to_end-requires-clause-lead g c = λ _ _.
    kept-within c.args.self.now.finder.parameters _ c.args.self.now.finder.counts c.args.self.now.lead c.requires.ready.profile c.requires.ready.stands.came.passed.valid (c.requires.found [] (λ _. refl))

pub returns-in_err-follow_to_end-clause-cut : goal.returns-in_err-follow_to_end-clause-cut
returns-in_err-follow_to_end-clause-cut g c = λ start come.
    let p = c.args.self.now.finder.parameters in
    let kept = c.args.self.now.finder.counts in
    let o = c.args.self.now.lead in
    let within : o ≤ length kept = kept-within p _ kept o c.requires.ready.profile c.requires.ready.stands.came.passed.valid (c.requires.found [] (λ _. refl)) in
    let t = c.in_err-follow_to_end.ensures.cut start come in
    let at = c.requires.found t.0 t.1.unless in
    on_err_of c.from_residual.result
    (words_part p (kept ++ t.0) o at.0 at.1 c.follow_to_end.new.self.intake (c.in_err-follow_to_end.ensures.stands.intake.same_parameters ∙ c.requires.ready.intake) c.args.self.now.intake.octets.limit c.in_err-follow_to_end.ensures.stands.intake.same_limit start _ _ _ _ _ t.1.stopped t.1.most
    (part-same p p _ _ _ _ _ _ refl (drop-kept kept t.0 o within) t.2))

pub returns-in_err-follow_to_end-clause-lines : goal.returns-in_err-follow_to_end-clause-lines
returns-in_err-follow_to_end-clause-lines g c = λ start come.
    let p = c.args.self.now.finder.parameters in
    let kept = c.args.self.now.finder.counts in
    let o = c.args.self.now.lead in
    let within : o ≤ length kept = kept-within p _ kept o c.requires.ready.profile c.requires.ready.stands.came.passed.valid (c.requires.found [] (λ _. refl)) in
    let t = c.in_err-follow_to_end.ensures.cut start come in
    let at = c.requires.found t.0 t.1.unless in
    let e = err_from_is_err_and c.from_residual.result c.from_residual.ensures.1 in
    rw (e.1, e.2) (λ no. words_lines p (kept ++ t.0) o at.0 at.1 c.follow_to_end.new.self.intake (c.in_err-follow_to_end.ensures.stands.intake.same_parameters ∙ c.requires.ready.intake) c.args.self.now.intake.octets.limit c.in_err-follow_to_end.ensures.stands.intake.same_limit start _ _ _ t.1.stopped
    (lines-same p p _ _ _ _ refl (drop-kept kept t.0 o within) (t.3 (λ is. no (err_at c.in_err-follow_to_end.field-0.0 _ is)))))

pub returns-in_err-follow_to_end-clause-long : goal.returns-in_err-follow_to_end-clause-long
returns-in_err-follow_to_end-clause-long g c = λ start come.
    let t = c.in_err-follow_to_end.ensures.cut start come in
    let e = err_from_is_err_and c.from_residual.result c.from_residual.ensures.1 in
    rw (e.1, e.2) (λ is. come_count _ start _ t.1.stopped.stopped.all _ t.1.stopped.stopped.come (c.in_err-follow_to_end.ensures.long (err_at c.in_err-follow_to_end.field-0.0 _ is)))

pub overflow_sub-tally-2 : goal.overflow_sub-tally-2
overflow_sub-tally-2 g c =
    let within : c.args.self.now.lead ≤ length c.args.self.now.finder.counts =
    kept-within c.args.self.now.finder.parameters _ c.args.self.now.finder.counts c.args.self.now.lead c.requires.ready.profile c.requires.ready.stands.came.passed.valid (c.requires.found [] (λ _. refl)) in
    let h = c.in_ok-follow_to_end.ensures in
    let valid = subst IsValid c.requires.ready.profile c.requires.ready.stands.came.passed.valid in
    let fits : c.args.self.now.lead ≤ c.counts.result =
    lead_within c.args.self.now.finder.parameters.count_octets _ _ _ _ _ valid.range.count_octets_low within c.requires.ready.count h.within
    (c.counts.ensures ∙ ap (λ p. c.follow_to_end.new.self.intake.octets.taken / p.count_octets) (h.stands.intake.same_parameters ∙ c.requires.ready.intake)) in
    omega (arith, fits, h.stands.lead)

pub nonzero_rem-tally : goal.nonzero_rem-tally
nonzero_rem-tally g c =
    let pos : 0 < period_slots c.args.self.now.finder.parameters = period-pos c.args.self.now.finder.parameters (subst IsValid c.requires.ready.profile c.requires.ready.stands.came.passed.valid) in
    omega (arith, c.requires.period, c.in_ok-follow_to_end.ensures.stands.period)

pub returns-in_err-put_line-clause-cut : goal.returns-in_err-put_line-clause-cut
returns-in_err-put_line-clause-cut g c = λ start come.
    let p = c.args.self.now.finder.parameters in
    let kept = c.args.self.now.finder.counts in
    let o = c.args.self.now.lead in
    let within : o ≤ length kept = kept-within p _ kept o c.requires.ready.profile c.requires.ready.stands.came.passed.valid (c.requires.found [] (λ _. refl)) in
    let h = c.in_ok-follow_to_end.ensures in
    let i = c.follow_to_end.new.self.intake in
    let same = h.stands.intake.same_parameters ∙ c.requires.ready.intake in
    let t = h.ok start come in
    let at = c.requires.found t.0 t.1.unless in
    let out = c.follow_to_end.new.self.stream.batch.outlet in
    let d = subst (λ vs. HasDelivered out (settled p vs) (g.O.Sink.written c.args.frames.now) (g.O.Sink.written c.follow_to_end.new.frames) (g.R.Sink.written c.args.report.now) (g.R.Sink.written c.follow_to_end.new.report)) (drop-kept kept t.0 o within) t.2 in
    let tally = words_tally p (kept ++ t.0) o at.0 at.1 i same c.args.self.now.intake.octets.limit h.stands.intake.same_limit start _ out _ _ _ _ h.scan d t.1.come t.1.ended t.1.within
    c.counts.result c.odd.result c.words.result c.kept.result c.words-2.result c.kept-2.result c.frames.result c.follow_to_end.new.self.lead c.follow_to_end.new.self.period c.counts.ensures c.odd.ensures.value
    (c.words.ensures ∙ ap (λ o. o.words) c.outlet-outlet.ensures) (c.kept.ensures.value ∙ ap (λ o. o.kept) c.outlet-outlet.ensures)
    (c.words-2.ensures ∙ ap (λ o. o.words) c.outlet-outlet.ensures) (c.kept-2.ensures.value ∙ ap (λ o. o.kept) c.outlet-outlet.ensures)
    (c.frames.ensures ∙ ap (λ o. o.scan.frames) c.outlet-outlet.ensures) h.stands.lead (h.stands.period ∙ c.requires.period) in
    on_err_of c.from_residual-in_err-put_line.result
    (words_cut p (kept ++ t.0) o at.0 at.1 i same c.args.self.now.intake.octets.limit h.stands.intake.same_limit start _ out _ _ _ _ h.scan d t.1.come t.1.ended t.1.within _
    (subst (GrowsByFront (g.R.Sink.written c.follow_to_end.new.report) (g.R.Sink.written c.put_line.new.report)) (c.tally_line.ensures.text ∙ ap tally_line tally) c.in_err-put_line.ensures.bytes))

pub returns-clause-ok : goal.returns-clause-ok
returns-clause-ok g c = λ start come.
    let p = c.args.self.now.finder.parameters in
    let kept = c.args.self.now.finder.counts in
    let o = c.args.self.now.lead in
    let within : o ≤ length kept = kept-within p _ kept o c.requires.ready.profile c.requires.ready.stands.came.passed.valid (c.requires.found [] (λ _. refl)) in
    let h = c.in_ok-follow_to_end.ensures in
    let i = c.follow_to_end.new.self.intake in
    let same = h.stands.intake.same_parameters ∙ c.requires.ready.intake in
    let t = h.ok start come in
    let at = c.requires.found t.0 t.1.unless in
    let out = c.follow_to_end.new.self.stream.batch.outlet in
    let d = subst (λ vs. HasDelivered out (settled p vs) (g.O.Sink.written c.args.frames.now) (g.O.Sink.written c.follow_to_end.new.frames) (g.R.Sink.written c.args.report.now) (g.R.Sink.written c.follow_to_end.new.report)) (drop-kept kept t.0 o within) t.2 in
    let tally = words_tally p (kept ++ t.0) o at.0 at.1 i same c.args.self.now.intake.octets.limit h.stands.intake.same_limit start _ out _ _ _ _ h.scan d t.1.come t.1.ended t.1.within
    c.counts.result c.odd.result c.words.result c.kept.result c.words-2.result c.kept-2.result c.frames.result c.follow_to_end.new.self.lead c.follow_to_end.new.self.period c.counts.ensures c.odd.ensures.value
    (c.words.ensures ∙ ap (λ o. o.words) c.outlet-outlet.ensures) (c.kept.ensures.value ∙ ap (λ o. o.kept) c.outlet-outlet.ensures)
    (c.words-2.ensures ∙ ap (λ o. o.words) c.outlet-outlet.ensures) (c.kept-2.ensures.value ∙ ap (λ o. o.kept) c.outlet-outlet.ensures)
    (c.frames.ensures ∙ ap (λ o. o.scan.frames) c.outlet-outlet.ensures) h.stands.lead (h.stands.period ∙ c.requires.period) in (
      t.1.come.octets,
      words_all p (kept ++ t.0) o at.0 at.1 i same c.args.self.now.intake.octets.limit h.stands.intake.same_limit start _ out _ _ _ _ h.scan d t.1.come t.1.ended t.1.within _
          (c.in_ok-put_line.ensures.bytes ∙ ap (append_known (g.R.Sink.written c.follow_to_end.new.report)) (c.tally_line.ensures.text ∙ ap tally_line tally)),
      tally,
      words_found p (kept ++ t.0) o at.0 at.1 i same c.args.self.now.intake.octets.limit h.stands.intake.same_limit start _ out _ _ _ _ h.scan d t.1.come t.1.ended t.1.within,
    )
