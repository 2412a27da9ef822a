use Rattle.std.proofs.Common.{◌≡◌, ◌-◌, ◌+◌, ◌++◌, ◌∷◌, ◌∙◌, [], sym, subst, ap, List, ℕ, take, length, arith, true, false, Some, slice_index_or}
use Rattle.std.proofs.lemmas.List.{length_push, get_or_push, with_items_is}
use Rattle.std.specs.declared.option.Option.{Option}
use Rattle.std.specs.Vec.{with_items}
use Rattle.hpe_base.specs.Rounds.{Verdict, verdict_of}
use Rattle.hpe_crew.specs.Crewing.{Crewing}
use Rattle.hpe_crew.specs.Answering.{verdict_with}
use Rattle.hpe_recv.specs.BatchView.{batching}
use Rattle.hpe_recv.specs.Batching.{HasBatched, loaded_verdicts}
use Rattle.hpe_recv.specs.Delivering.{HasDelivered, PutsLines}
use Rattle.hpe_recv.proofs.Batched.{word_loaded, before_last, word_aside, front_at, lines_at}
use Rattle.hpe_recv.proofs.Collected.{puts_same}
use Rattle.hpe_recv.proofs.batch.Batch.word.Goals.{After-put_first}
use Rattle.hpe_recv.proofs.batch.Batch.word.Goals as goal

pub returns-then-not-full-clause-ok : goal.returns-then-not-full-clause-ok
returns-then-not-full-clause-ok g c = rw (← c.self.view_is) (λ all whole start begin h early.
    subst (λ (k : Crewing). HasBatched (record { crew = k; aside = c.self.inside.aside; block = c.self.inside.block.items; late = true; outlet = c.self.inside.outlet })
    (all ++ verdict_of c.self.inside.crew.parameters c.args.sums.now ∷ []) all start (g.O.Sink.written c.args.frames.now) begin (g.R.Sink.written c.args.report.now)) (sym c.load.ensures)
    (word_loaded (batching c.self.inside) c.args.sums.now false all whole start _ begin _ h early))

-- the crew with the word loaded and all decoded
crew_is : (g : _) (c : After-put_first g) → c.decode_all.new.self ≡ record c.self.inside.crew { loads = c.self.inside.crew.loads ++ c.args.sums.now ∷ []; decoded = true }
crew_is g c = c.decode_all.ensures ∙ ap (λ (k : Crewing). record k { decoded = true }) c.load.ensures

last_is : (g : _) (c : After-put_first g) → c.loaded-last.result - 1 ≡ length c.self.inside.crew.loads
last_is g c =
    let n : c.loaded-last.result ≡ length c.self.inside.crew.loads + 1 =
    c.loaded-last.ensures.value ∙ ap (λ (k : Crewing). length k.loads) (crew_is g c) ∙ length_push c.self.inside.crew.loads c.args.sums.now in
    omega arith

-- the words before it are all that were completed
all_are : (g : _) (c : After-put_first g) (all whole : List Verdict) (f f' r r' : Option (List ℕ)) (h : HasBatched (batching c.self.inside) all whole f f' r r') → c.self.inside.late ≡ false
    → h.put ++ take (c.loaded-last.result - 1) (loaded_verdicts c.decode_all.new.self) ≡ all
all_are g c all whole f f' r r' h early =
    ap (λ (k : Crewing). h.put ++ take (c.loaded-last.result - 1) (loaded_verdicts k)) (crew_is g c)
    ∙ before_last (batching c.self.inside) c.args.sums.now true (c.loaded-last.result - 1) all whole f f' r r' h early (last_is g c)

pub returns-in-Err-clause-cut : goal.returns-in-Err-clause-cut
returns-in-Err-clause-cut g c = rw (← c.self.view_is) (λ all whole start begin h early.
    puts_same _ _ _ _ start _ begin _ c.self.invariant.outlet (all_are g (goal.at.returns-in-Err-clause-cut g c).After-put_first all whole start _ begin _ h early) (front_at _ _ c.in-Err.cut (c.in-Err.ensures.put h.put start begin h.delivered)))

pub returns-in-Err-clause-lines : goal.returns-in-Err-clause-lines
returns-in-Err-clause-lines g c = rw (← c.self.view_is) (λ all whole start begin h early e.
    subst (λ (vs : List Verdict). PutsLines vs begin (g.R.Sink.written c.put_first.new.report)) (all_are g (goal.at.returns-in-Err-clause-lines g c).After-put_first all whole start _ begin _ h early)
    (lines_at _ _ c.in-Err.cut (c.in-Err.ensures.put h.put start begin h.delivered) e))

pub returns-clause-ok : goal.returns-clause-ok
returns-clause-ok g c = rw (← c.self.view_is) (λ all whole start begin h early.
    let d = (goal.at.returns-clause-ok g c).After-put_first in
    let first = with_items c.self.inside.block c.put_first.new.block in
    let block = with_items_is first c.fetch.new.block (c.fetch.ensures.size ∙ c.deref_mut-2.ensures.len) in
    let crew : c.clear-2.new.self ≡ record c.self.inside.crew { loads = []; decoded = true } = c.clear-2.ensures ∙ ap (λ (k : Crewing). record k { loads = [] }) (crew_is g d) in
    subst (λ (k : Crewing). HasBatched (record { crew = k; aside = Some c.fetch.result; block = (with_items first c.fetch.new.block).items; late = true; outlet = c.put_first.new.outlet })
    (all ++ verdict_of c.self.inside.crew.parameters c.args.sums.now ∷ []) all start (g.O.Sink.written c.put_first.new.frames) begin (g.R.Sink.written c.put_first.new.report)) (sym crew)
    (word_aside (batching c.self.inside) c.put_first.new.outlet c.fetch.result c.args.sums.now (with_items first c.fetch.new.block).items true all start _ begin _
    (subst (λ (vs : List Verdict). HasDelivered c.put_first.new.outlet vs start (g.O.Sink.written c.put_first.new.frames) begin (g.R.Sink.written c.put_first.new.report)) (all_are g d all whole start _ begin _ h early)
    (c.in-Ok.ensures.put h.put start begin h.delivered))
    (c.put_first.ensures.profile ∙ c.self.invariant.outlet)
    (ap (λ (b : List ℕ). verdict_with c.fetch.result b) block ∙ c.fetch.ensures.verdict
    ∙ ap (λ (k : Crewing). verdict_of k.parameters (slice_index_or k.loads (c.loaded-last.result - 1) [])) (crew_is g d)
    ∙ ap (λ (s : List ℕ). verdict_of c.self.inside.crew.parameters s) (get_or_push c.self.inside.crew.loads c.args.sums.now [] (c.loaded-last.result - 1) (sym (last_is g d))))))
