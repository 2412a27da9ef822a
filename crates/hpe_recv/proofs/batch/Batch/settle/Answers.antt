use Rattle.std.proofs.Common.{◌≡◌, ◌++◌, ◌∷◌, ◌∙◌, [], sym, subst, List, ℕ}
use Rattle.std.proofs.lemmas.Result.{on_ok_weaker, on_err_weaker}
use Rattle.std.specs.declared.option.Option.{Option}
use Rattle.hpe_base.specs.Rounds.{Verdict}
use Rattle.hpe_crew.specs.Answering.{verdict_with}
use Rattle.hpe_recv.specs.BatchView.{batching}
use Rattle.hpe_recv.specs.Batching.{HasBatched}
use Rattle.hpe_recv.specs.Delivering.{HasDelivered}
use Rattle.hpe_recv.proofs.Batched.{all_aside, settled_aside, settled_none, lines_of_front}
use Rattle.hpe_recv.proofs.Collected.{puts_same}
use Rattle.hpe_recv.proofs.batch.Batch.settle.Goals.{After-deliver}
use Rattle.hpe_recv.proofs.batch.Batch.settle.Goals as goal

-- the verdicts with the one that stood aside
all_are : (g : _) (c : After-deliver g) (all whole : List Verdict) (f f' r r' : Option (List ℕ)) (h : HasBatched (batching c.self.inside) all whole f f' r r')
    → h.put ++ verdict_with c.in-Some.verdict c.deref.result.now ∷ [] ≡ all
all_are g c all whole f f' r r' h =
    all_aside (batching c.self.inside) c.in-Some.verdict c.deref.result.now all whole f f' r r' h (sym c.take.ensures.value ∙ c.in-Some.is) c.deref.ensures.value

pub returns-in-Some-clause-ok : goal.returns-in-Some-clause-ok
returns-in-Some-clause-ok g c = rw (← c.self.view_is) (λ all whole start begin h.
    on_ok_weaker c.deliver.result (λ d.
    settled_aside (batching c.self.inside) c.in-Some.verdict c.take.new.self c.deliver.new.self all whole start _ start _ begin _ begin _ h (sym c.take.ensures.value ∙ c.in-Some.is) c.take.ensures.after
    (subst (λ (vs : List Verdict). HasDelivered c.deliver.new.self vs start (g.O.Sink.written c.deliver.new.frames) begin (g.R.Sink.written c.deliver.new.report)) (all_are g c all whole start _ begin _ h) d) c.deliver.ensures.profile)
    (c.deliver.ensures.ok h.put start begin h.delivered))

pub returns-in-Some-clause-cut : goal.returns-in-Some-clause-cut
returns-in-Some-clause-cut g c = rw (← c.self.view_is) (λ all whole start begin h.
    on_err_weaker c.deliver.result (puts_same _ _ _ _ start _ begin _ c.self.invariant.outlet (all_are g c all whole start _ begin _ h))
    (c.deliver.ensures.cut h.put start begin h.delivered))

pub returns-in-Some-clause-lines : goal.returns-in-Some-clause-lines
returns-in-Some-clause-lines g c = rw (← c.self.view_is) (λ all whole start begin h e.
    lines_of_front h.put _ whole begin _ h.whole_are (c.deliver.ensures.lines h.put start begin h.delivered e))

pub returns-in-None-clause-ok : goal.returns-in-None-clause-ok
returns-in-None-clause-ok g c = rw (← c.self.view_is) (λ all whole start begin h.
    settled_none (batching c.self.inside) c.take.new.self all whole start _ begin _ h (sym c.take.ensures.value ∙ c.in-None.is) c.take.ensures.after)
