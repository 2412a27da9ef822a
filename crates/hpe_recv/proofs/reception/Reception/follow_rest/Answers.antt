use Rattle.std.proofs.Common.{◌∙◌, ◌++◌, ap, arith, length, ℕ, List, [], refl, rules, append_assoc}
use Rattle.std.proofs.lemmas.Result.{err_from_is_err_and}
use Rattle.hpe_io.proofs.Results.{on_err_of}
use Rattle.hpe_recv.proofs.Counting.{counted_within}
use Rattle.hpe_recv.proofs.Outcomes.{frames_of_cut}
use Rattle.hpe_recv.proofs.Taking.{comes_none, comes_more, follows_none, follows_more}
use Rattle.hpe_recv.proofs.TakenParts.{taken_part, taken_lines, part-same, lines-same}
use Rattle.hpe_recv.proofs.reception.Reception.follow_rest.Goals as goal

pub loop-self-init : goal.loop-self-init
loop-self-init g c = record {
  finder = refl;
  period = refl;
  lead = refl;
  profile = refl;
  same = refl;
  limit = refl;
  low = omega arith;
  within = c.requires.within.0;
  unspent = c.requires.unspent;
  blocks = c.requires.few;
  taken = ([], comes_none _ _, follows_none _ _ _);
  input = search rules;
  frames = search rules;
  report = search rules;
}

pub loop-self-preserved : goal.loop-self-preserved
loop-self-preserved g c =
    let i = c.loop-self.invariant in
    let n = c.in_ok-next.ensures in
    let h = c.in_ok-take_counts.ensures in
    let size = ap (λ (l : List ℕ). length l) c.piece.ensures in record {
      finder = i.finder;
      period = i.period;
      lead = i.lead;
      profile = h.profile ∙ i.profile;
      same = n.stands.same_parameters ∙ i.same;
      limit = n.stands.same_limit ∙ i.limit;
      low = omega (arith, n.counted, i.low);
      within = omega (arith, n.within, i.limit);
      unspent = h.unspent;
      blocks = omega (arith, h.blocks, n.counted, i.blocks, size);
      taken = (
        i.taken.0 ++ c.next.new.self.piece,
        comes_more _ c.loop-self.self.intake c.next.new.self _ _ _ i.taken.0 c.next.new.self.piece i.taken.1 (λ start counts k. n.come start counts k),
        follows_more _ c.loop-self.self.stream c.take_counts.new.self _ _ _ _ _ _ i.taken.0 c.next.new.self.piece i.taken.2 (λ seen start begin s. rw c.piece.ensures at (h.ok seen start begin s)),
      );
      input = record { same_faults = n.cause ∙ i.input.same_faults; same_mark = n.input.same_mark ∙ i.input.same_mark; same_build = n.input.same_build ∙ i.input.same_build };
      frames = record { same_faults = h.cause.0 ∙ i.frames.same_faults; same_mark = h.frames_stand.same_mark ∙ i.frames.same_mark };
      report = record { same_faults = h.cause.1 ∙ i.report.same_faults; same_mark = h.report_stands.same_mark ∙ i.report.same_mark };
    }

pub returns-in_err-next-clause-cut : goal.returns-in_err-next-clause-cut
returns-in_err-next-clause-cut g c = λ seen begun told start counts s come.
    let i = c.loop-self.invariant in
    let t = i.taken in
    let now = t.2 seen begun told s in
    on_err_of c.from_residual.result (
      t.0,
      c.in_err-next.ensures.stopped start (counts ++ t.0) (t.1 start counts come) (omega (arith, i.within, i.limit)),
      taken_part c.loop-self.self.stream (seen ++ t.0) begun _ told _ _ i.profile now,
      λ _. taken_lines c.loop-self.self.stream (seen ++ t.0) begun _ told _ _ i.profile now,
    )

pub returns-in_err-take_counts-clause-cut : goal.returns-in_err-take_counts-clause-cut
returns-in_err-take_counts-clause-cut g c = λ seen begun told start counts s come.
    let i = c.loop-self.invariant in
    let n = c.in_ok-next.ensures in
    let t = i.taken in
    let h = c.in_err-take_counts.ensures in
    let was = t.2 seen begun told s in
    let piece = c.next.new.self.piece in
    let list = append_assoc seen t.0 c.piece.result.now ∙ ap (λ (l : List ℕ). seen ++ (t.0 ++ l)) c.piece.ensures in
    let e = err_from_is_err_and c.from_residual-in_err-take_counts.result c.from_residual-in_err-take_counts.ensures.1 in
    rw (e.1, e.2) (
      t.0 ++ piece,
      counted_within c.next.new.self start _ (counts ++ (t.0 ++ piece))
          (comes_more _ c.loop-self.self.intake c.next.new.self _ _ _ t.0 piece t.1 (λ start counts k. n.come start counts k) start counts come) (omega (arith, n.within, n.stands.same_limit)),
      part-same _ c.loop-self.self.stream.rows.parameters _ _ begun _ told _ i.profile list (h.cut _ begun told was),
      λ no. frames_of_cut c.in_err-take_counts.field-0.0 no (λ is. lines-same _ c.loop-self.self.stream.rows.parameters _ _ told _ i.profile list (h.lines _ begun told was is)),
    )

pub returns-clause-ok : goal.returns-clause-ok
returns-clause-ok g c = λ seen begun told start counts s come.
    let i = c.loop-self.invariant in
    let t = i.taken in
    let e = c.in_ok-next.ensures.ended start (counts ++ t.0) (t.1 start counts come) (search rules) in
    (t.0, e.0, e.1, t.2 seen begun told s)
