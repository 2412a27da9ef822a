use Rattle.std.proofs.Common.{rules, ◌≡◌, ◌-◌, ◌++◌, ◌∙◌, subst, ap, List, ℕ, take, length}
use Rattle.std.proofs.lemmas.Result.{on_ok_weaker, on_err_weaker}
use Rattle.std.specs.declared.option.Option.{Option}
use Rattle.hpe_base.specs.Rounds.{Verdict}
use Rattle.hpe_crew.specs.Crewing.{Crewing}
use Rattle.hpe_recv.specs.BatchView.{batching}
use Rattle.hpe_recv.specs.Batching.{HasBatched, loaded_verdicts, late_count}
use Rattle.hpe_recv.specs.Delivering.{HasDelivered, PutsLines}
use Rattle.hpe_recv.proofs.Batched.{finished_none, whole_is, all_of, front_of, lines_of}
use Rattle.hpe_recv.proofs.Collected.{puts_same}
use Rattle.hpe_recv.proofs.batch.Batch.finish.Goals.{After-saturating_sub-count, After-put_first-done}
use Rattle.hpe_recv.proofs.batch.Batch.finish.Goals as goal

count_is : (g : _) (c : After-saturating_sub-count g) → c.saturating_sub-count.result ≡ length c.self.inside.crew.loads - late_count (batching c.self.inside)
count_is g c = search rules

pub returns-then-count-eq0-clause-ok : goal.returns-then-count-eq0-clause-ok
returns-then-count-eq0-clause-ok g c = rw (← c.self.view_is) (λ all whole start begin h.
    finished_none (batching c.self.inside) c.saturating_sub-count.result all whole start _ begin _ h (count_is g (goal.at.returns-then-count-eq0-clause-ok g c).After-saturating_sub-count) c.if-count-eq0.true)

-- the words that are put are all of whole periods
whole_are : (g : _) (c : After-put_first-done g) (all whole : List Verdict) (f f' r r' : Option (List ℕ)) (h : HasBatched (batching c.self.inside) all whole f f' r r')
    → c.saturating_sub-count.result ≡ length c.self.inside.crew.loads - late_count (batching c.self.inside) → h.put ++ take c.saturating_sub-count.result (loaded_verdicts c.decode_all.new.self) ≡ whole
whole_are g c all whole f f' r r' h e =
    ap (λ (k : Crewing). h.put ++ take c.saturating_sub-count.result (loaded_verdicts k)) c.decode_all.ensures
    ∙ whole_is (batching c.self.inside) c.saturating_sub-count.result all whole f f' r r' h e

pub returns-clause-ok : goal.returns-clause-ok
returns-clause-ok g c = rw (← c.self.view_is) (λ all whole start begin h.
    let d = (goal.at.returns-clause-ok g c).After-put_first-done in
    on_ok_weaker c.put_first-done.result (λ s.
    subst (λ (vs : List Verdict). HasDelivered c.put_first-done.new.outlet vs start (g.O.Sink.written c.put_first-done.new.frames) begin (g.R.Sink.written c.put_first-done.new.report)) (whole_are g d all whole start _ begin _ h (count_is g (goal.at.returns-clause-ok g c).After-saturating_sub-count)) s)
    (all_of _ _ _ c.put_first-done.result (c.put_first-done.ensures.put h.put start begin h.delivered)))

pub returns-clause-cut : goal.returns-clause-cut
returns-clause-cut g c = rw (← c.self.view_is) (λ all whole start begin h.
    let d = (goal.at.returns-clause-cut g c).After-put_first-done in
    on_err_weaker c.put_first-done.result (puts_same _ _ _ _ start _ begin _ c.self.invariant.outlet (whole_are g d all whole start _ begin _ h (count_is g (goal.at.returns-clause-cut g c).After-saturating_sub-count)))
    (front_of _ _ _ c.put_first-done.result (c.put_first-done.ensures.put h.put start begin h.delivered)))

pub returns-clause-lines : goal.returns-clause-lines
returns-clause-lines g c = rw (← c.self.view_is) (λ all whole start begin h e.
    let d = (goal.at.returns-clause-lines g c).After-put_first-done in
    subst (λ (vs : List Verdict). PutsLines vs begin (g.R.Sink.written c.put_first-done.new.report)) (whole_are g d all whole start _ begin _ h (count_is g (goal.at.returns-clause-lines g c).After-saturating_sub-count))
    (lines_of _ _ _ c.put_first-done.result (c.put_first-done.ensures.put h.put start begin h.delivered) e))
