use Rattle.std.proofs.Common.{arith, rules, refl, ◌∙◌, ◌++◌, List, ℕ, take, length, ap}
use Rattle.std.proofs.lemmas.List.{take_rest, length-drop}
use Rattle.std.proofs.lemmas.Result.{err_from_is_err_and}
use Rattle.hpe_io.proofs.Results.{on_err_of}
use Rattle.hpe_recv.proofs.Caused.{cut_after}
use Rattle.hpe_recv.proofs.Streamed.{follows_start, follows_step, follows_all, puts_rest, lines_rest, err_same}
use Rattle.hpe_recv.proofs.stream.Stream.take_counts.Goals as goal

pub loop-place-init : goal.loop-place-init
loop-place-init g c = record {
  profile = refl;
  follows = follows_start c.args.self.now _ _;
  unspent = c.requires.unspent;
  blocks = omega arith;
  within = omega arith;
  frames = search rules;
  report = search rules;
}

pub loop-place-preserved : goal.loop-place-preserved
loop-place-preserved g c =
    let i = c.loop-place.invariant in record {
      profile = c.step.ensures.profile ∙ i.profile;
      follows = follows_step c.args.self.now c.loop-place.self c.step.new.self _ _ _ _ _ _ c.args.counts.now _ c.loop-place.place c.in_ok-place.field-0 (take_rest c.args.counts.now c.loop-place.place) i.follows c.in_ok-place.ensures.ok;
      unspent = c.in_ok-place.ensures.unspent;
      blocks = omega (arith, i.blocks, c.step.ensures.blocks, c.in_ok-place.ensures.some);
      within = omega (arith, i.within, c.in_ok-place.ensures.within, ap (λ (l : List ℕ). length l) (take_rest c.args.counts.now c.loop-place.place), length-drop c.loop-place.place c.args.counts.now);
      frames = record { same_faults = c.in_ok-place.ensures.cause.0 ∙ i.frames.same_faults; same_mark = c.step.ensures.frames_stand.same_mark ∙ i.frames.same_mark };
      report = record { same_faults = c.in_ok-place.ensures.cause.1 ∙ i.report.same_faults; same_mark = c.step.ensures.report_stands.same_mark ∙ i.report.same_mark };
    }

pub returns-in_err-place-clause-cut : goal.returns-in_err-place-clause-cut
returns-in_err-place-clause-cut g c = λ seen start begin h.
    let i = c.loop-place.invariant in
    on_err_of c.from_residual.result
    (puts_rest _ _ seen c.args.counts.now _ c.loop-place.place start _ begin _ i.profile (take_rest c.args.counts.now c.loop-place.place)
    (c.in_err-place.ensures.cut (seen ++ take c.loop-place.place c.args.counts.now) start begin (i.follows seen start begin h)))

pub returns-in_err-place-clause-lines : goal.returns-in_err-place-clause-lines
returns-in_err-place-clause-lines g c = λ seen start begin h.
    let i = c.loop-place.invariant in
    let e = err_from_is_err_and c.from_residual.result c.from_residual.ensures.1 in
    rw (e.1, e.2) (λ is. lines_rest _ _ seen c.args.counts.now _ c.loop-place.place begin _ i.profile (take_rest c.args.counts.now c.loop-place.place)
    (c.in_err-place.ensures.lines (seen ++ take c.loop-place.place c.args.counts.now) start begin (i.follows seen start begin h) (err_same c.in_err-place.field-0.0 _ is)))

pub returns-clause-ok : goal.returns-clause-ok
returns-clause-ok g c =
    let i = c.loop-place.invariant in
    follows_all c.args.self.now c.loop-place.self _ _ _ _ c.args.counts.now c.loop-place.place (omega (arith, c.loop-place-test.false)) i.follows

pub returns-in_err-place-clause-cause : goal.returns-in_err-place-clause-cause
returns-in_err-place-clause-cause g c =
    let i = c.loop-place.invariant in
    let e = err_from_is_err_and c.from_residual.result c.from_residual.ensures.1 in
    rw (e.1, e.2) (cut_after c.in_err-place.field-0.0 _ _ _ _ _ _ i.frames.same_faults i.report.same_faults c.in_err-place.ensures.cause)
