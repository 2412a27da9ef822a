use Rattle.std.proofs.Common.{rules, ◌≡◌, ◌∙◌, ◌++◌, arith, refl, take, subst, ℕ}
use Rattle.hpe_recv.specs.Delivering.{HasDelivered}
use Rattle.hpe_recv.specs.Batching.{loaded_verdicts}
use Rattle.hpe_recv.proofs.Batched.{delivers_none, delivers_more, puts_first, lines_first, put_at}
use Rattle.hpe_recv.proofs.Caused.{cut_after}
use Rattle.hpe_recv.proofs.batch.put_first.Goals as goal

pub loop-i-init : goal.loop-i-init
loop-i-init g c = record {
  profile = refl;
  delivers = delivers_none c.args.outlet.now c.args.crew.now _ _;
  unspent = c.requires.unspent;
  blocks = omega arith;
  size = refl;
  frames = search rules;
  report = search rules;
}

pub loop-i-preserved : goal.loop-i-preserved
loop-i-preserved g c =
    let i = c.loop-i.invariant in record {
      profile = c.deliver.ensures.profile ∙ i.profile;
      delivers = delivers_more c.args.outlet.now c.loop-i.outlet c.deliver.new.self c.args.crew.now c.fetch-verdict.result c.fetch-verdict.new.block c.loop-i.i _ _ _ _ _ _ (let b = c.requires.loaded in omega (arith, c.loop-i-test.true))
          c.fetch-verdict.ensures.verdict i.delivers c.in-Ok.ensures.ok;
      unspent = c.in-Ok.ensures.unspent;
      blocks = omega (arith, i.blocks, c.deliver.ensures.blocks);
      size = c.fetch-verdict.ensures.size ∙ i.size;
      frames = record { same_faults = c.in-Ok.ensures.cause.0 ∙ i.frames.same_faults; same_mark = c.deliver.ensures.frames_stand.same_mark ∙ i.frames.same_mark };
      report = record { same_faults = c.in-Ok.ensures.cause.1 ∙ i.report.same_faults; same_mark = c.deliver.ensures.report_stands.same_mark ∙ i.report.same_mark };
    }

pub returns-in-Err-clause-put : goal.returns-in-Err-clause-put
returns-in-Err-clause-put g c = λ verdicts start begin h.
    let i = c.loop-i.invariant in
    let before = verdicts ++ take c.loop-i.i (loaded_verdicts c.args.crew.now) in
    put_at _ _ c.in-Err.cut
    (puts_first _ _ c.args.crew.now c.fetch-verdict.result c.fetch-verdict.new.block verdicts c.loop-i.i c.args.count start _ begin _ i.profile (omega (arith, c.loop-i-test.true)) c.requires.loaded c.fetch-verdict.ensures.verdict
    (c.in-Err.ensures.cut before start begin (i.delivers verdicts start begin h)))
    (λ e. lines_first c.args.crew.now verdicts c.loop-i.i c.args.count begin _ (omega (arith, c.loop-i-test.true)) (c.in-Err.ensures.lines before start begin (i.delivers verdicts start begin h) e))

pub returns-clause-put : goal.returns-clause-put
returns-clause-put g c =
    let i = c.loop-i.invariant in
    let e : c.loop-i.i ≡ c.args.count = omega arith in
    λ verdicts start begin h. subst (λ (k : ℕ). HasDelivered c.loop-i.outlet (verdicts ++ take k (loaded_verdicts c.args.crew.now)) start (g.O.Sink.written c.loop-i.frames) begin (g.R.Sink.written c.loop-i.report)) e (i.delivers verdicts start begin h)

pub returns-in-Err-clause-cause : goal.returns-in-Err-clause-cause
returns-in-Err-clause-cause g c =
    let i = c.loop-i.invariant in cut_after c.in-Err.cut _ _ _ _ _ _ i.frames.same_faults i.report.same_faults c.in-Err.ensures.cause
