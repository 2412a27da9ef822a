use Rattle.std.proofs.Common.{rules, arith, ◌≡◌, ◌≤◌, ◌+◌, ◌*◌, ◌++◌, ◌∷◌, ◌∙◌, [], sym, subst, List, ℕ, All, true, false, take}
use Rattle.std.proofs.lemmas.List.Elements.{All-append}
use Rattle.std.proofs.lemmas.Result.{err_from_is_err_and}
use Rattle.hpe_base.specs.Parameters.{clamp, positions, codeword_symbols}
use Rattle.hpe_base.specs.Rounds.{Verdict, verdict_of}
use Rattle.hpe_io.proofs.Results.{on_err_of}
use Rattle.hpe_rows.specs.Rows.{placed_rows, row_if}
use Rattle.hpe_rows.specs.RowsState.{HasRows}
use Rattle.hpe_recv.specs.Delivering.{PutsLines}
use Rattle.hpe_recv.specs.Batching.{HasBatched}
use Rattle.hpe_recv.specs.Settled.{settled, verdicts_on}
use Rattle.hpe_recv.specs.StreamView.{streaming}
use Rattle.hpe_recv.proofs.Collected.{collected, completed_is, keeps, none_came, puts_same, row_came, word_came}
use Rattle.hpe_recv.proofs.Streamed.{err_same}
use Rattle.hpe_recv.proofs.WordRows.{IsRowPut, length-row_put, room, row_before, row_last, row_put, with_row}
use Rattle.hpe_recv.proofs.stream.Stream.collect.Goals.{After-take-taken, After-symbols, After-deref}
use Rattle.hpe_recv.proofs.stream.Stream.collect.Goals as goal

-- the row stands in its place, whether one has come or not
put : (g : _) (c : After-take-taken g)
    → IsRowPut c.self.inside.sums c.deref_mut.result.now c.take-taken.new.into c.self.inside.filled (positions c.self.inside.rows.parameters.order) c.slots-positions.result
put g c =
    let m = positions c.self.inside.rows.parameters.order in
    let n = codeword_symbols c.self.inside.rows.parameters.order in
    let fits : c.self.inside.filled * m + m ≤ n * m = room c.self.inside.filled n m c.self.invariant.begun in
    record {
      items = c.deref_mut.ensures.value;
      len = c.deref_mut.ensures.len;
      breadth = search rules;
      row = search rules;
      room = omega (arith, c.self.invariant.room);
    }

-- ---- no row has come

pub returns-then-not-taken-clause-ok : goal.returns-then-not-taken-clause-ok
returns-then-not-taken-clause-ok g c = rw (← c.self.view_is) (λ seen start begin h.
    let p = c.self.inside.rows.parameters in
    let d = (goal.at.returns-then-not-taken-clause-ok g c).After-take-taken in
    let later = seen ++ take c.take-taken.result.counts c.args.counts.now in
    let gone : c.take-taken.result.row ≡ false = search rules in
    let placed : placed_rows p later ≡ placed_rows p seen ++ [] =
    subst (λ came. placed_rows p later ≡ placed_rows p seen ++ row_if came c.take-taken.new.into) gone (c.take-taken.ensures.rows seen h.came) in
    collected _ p seen later c.take-taken.result.ended start _ begin _ c.take-taken.ensures.profile
    (none_came (streaming c.self.inside) c.take-taken.new.self _ seen later (settled p seen) start _ begin _ h c.take-taken.ensures.profile (c.take-taken.ensures.stands seen h.came) placed
    (row_before c.self.inside.sums c.deref_mut.result.now c.take-taken.new.into c.self.inside.filled (positions p.order) c.slots-positions.result (put g d)))
    (c.take-taken.ensures.period seen h.came) (c.take-taken.ensures.ended seen h.came))

pub invariant_of-self : goal.invariant_of-self
invariant_of-self g c =
    let m = positions c.self.inside.rows.parameters.order in
    let d = put g (goal.at.invariant_of-self g c).After-take-taken in
    keeps c.self.inside c.take-taken.new.self _ c.self.inside.filled c.self.invariant c.take-taken.ensures.profile
    (length-row_put c.self.inside.sums c.deref_mut.result.now c.take-taken.new.into c.self.inside.filled m c.slots-positions.result d) c.self.invariant.begun
    (subst (λ (l : List ℕ). All (λ sum. sum ≤ clamp) l) (sym (row_before c.self.inside.sums c.deref_mut.result.now c.take-taken.new.into c.self.inside.filled m c.slots-positions.result d)) c.self.invariant.small)

-- ---- a row has come

came : (g : _) (c : After-symbols g) → c.take-taken.result.row ≡ true
came g c = search rules

placed : (g : _) (c : After-symbols g) (seen : List ℕ) → HasRows c.self.inside.rows seen
    → placed_rows c.self.inside.rows.parameters (seen ++ take c.take-taken.result.counts c.args.counts.now) ≡ placed_rows c.self.inside.rows.parameters seen ++ c.take-taken.new.into ∷ []
placed g c seen h =
    let p = c.self.inside.rows.parameters in
    subst (λ came. placed_rows p (seen ++ take c.take-taken.result.counts c.args.counts.now) ≡ placed_rows p seen ++ row_if came c.take-taken.new.into) (came g c) (c.take-taken.ensures.rows seen h)

-- how many symbols a word has
symbols : (g : _) (c : After-symbols g) → c.symbols.result ≡ codeword_symbols c.self.inside.rows.parameters.order
symbols g c = search rules

-- sums that the decoder takes
small : (g : _) (c : After-symbols g) → All (λ sum. sum ≤ clamp) (take (c.self.inside.filled * positions c.self.inside.rows.parameters.order) c.self.inside.sums.items ++ c.take-taken.new.into)
small g c =
    All-append (λ sum. sum ≤ clamp) (take (c.self.inside.filled * positions c.self.inside.rows.parameters.order) c.self.inside.sums.items) c.take-taken.new.into c.self.invariant.small
    (c.take-taken.ensures.most (came g c))

pub returns-then-self-symbols-clause-ok : goal.returns-then-self-symbols-clause-ok
returns-then-self-symbols-clause-ok g c = rw (← c.self.view_is) (λ seen start begin h.
    let p = c.self.inside.rows.parameters in
    let d = goal.at.returns-then-self-symbols-clause-ok g c in
    let n = symbols g d.After-symbols in
    let later = seen ++ take c.take-taken.result.counts c.args.counts.now in
    collected _ p seen later c.take-taken.result.ended start _ begin _ c.take-taken.ensures.profile
    (row_came (streaming c.self.inside) c.take-taken.new.self c.take-taken.new.into _ seen later (settled p seen) start _ begin _ h c.take-taken.ensures.profile (c.take-taken.ensures.stands seen h.came)
    (placed g d.After-symbols seen h.came) (omega (arith, c.if-self-symbols.true))
    (row_put c.self.inside.sums c.deref_mut.result.now c.take-taken.new.into c.self.inside.filled (positions p.order) c.slots-positions.result (put g d.After-take-taken)))
    (c.take-taken.ensures.period seen h.came) (c.take-taken.ensures.ended seen h.came))

pub invariant_of-self-then-self-symbols : goal.invariant_of-self-then-self-symbols
invariant_of-self-then-self-symbols g c =
    let m = positions c.self.inside.rows.parameters.order in
    let d = goal.at.invariant_of-self-then-self-symbols g c in
    let n = symbols g d.After-symbols in
    keeps c.self.inside c.take-taken.new.self _ (c.self.inside.filled + 1) c.self.invariant c.take-taken.ensures.profile
    (length-row_put c.self.inside.sums c.deref_mut.result.now c.take-taken.new.into c.self.inside.filled m c.slots-positions.result (put g d.After-take-taken)) (omega (arith, c.if-self-symbols.true))
    (subst (λ (l : List ℕ). All (λ sum. sum ≤ clamp) l) (sym (row_put c.self.inside.sums c.deref_mut.result.now c.take-taken.new.into c.self.inside.filled m c.slots-positions.result (put g d.After-take-taken))) (small g d.After-symbols))

-- ---- its word is whole

ends : (g : _) (c : After-deref g) → c.symbols.result ≡ codeword_symbols c.self.inside.rows.parameters.order → c.self.inside.filled + 1 ≡ codeword_symbols c.self.inside.rows.parameters.order
ends g c n = omega (arith, c.if-self-symbols.false, c.self.invariant.begun)

-- with these sums
word : (g : _) (c : After-deref g) → IsRowPut c.self.inside.sums c.deref_mut.result.now c.take-taken.new.into c.self.inside.filled (positions c.self.inside.rows.parameters.order) c.slots-positions.result
    → c.self.inside.filled + 1 ≡ codeword_symbols c.self.inside.rows.parameters.order
    → (with_row c.self.inside.sums c.deref_mut.result.now c.take-taken.new.into c.self.inside.filled c.slots-positions.result).items
    ≡ take (c.self.inside.filled * positions c.self.inside.rows.parameters.order) c.self.inside.sums.items ++ c.take-taken.new.into
word g c d e =
    let p = c.self.inside.rows.parameters in
    row_last c.self.inside.sums c.deref_mut.result.now c.take-taken.new.into c.self.inside.filled (codeword_symbols p.order) (positions p.order) c.slots-positions.result d c.self.invariant.room (omega arith)

pub word-requires-clause-most : goal.word-requires-clause-most
word-requires-clause-most g c = λ _ _.
    let d = goal.at.word-requires-clause-most g c in
    let n = ends g d.After-deref (symbols g d.After-symbols) in
    subst (λ (l : List ℕ). All (λ sum. sum ≤ clamp) l) (sym (c.deref.ensures.value ∙ word g d.After-deref (put g d.After-take-taken) n)) (small g d.After-symbols)

pub returns-clause-ok : goal.returns-clause-ok
returns-clause-ok g c = rw (← c.self.view_is) (λ seen start begin h.
    let p = c.self.inside.rows.parameters in
    let d = goal.at.returns-clause-ok g c in
    let n = ends g d.After-deref (symbols g d.After-symbols) in
    let w = word g d.After-deref (put g d.After-take-taken) n in
    let later = seen ++ take c.take-taken.result.counts c.args.counts.now in
    let all = verdicts_on p (placed_rows p seen) in
    let f = completed_is (streaming c.self.inside) c.take-taken.new.into _ seen _ start _ begin _ h (placed g d.After-symbols seen h.came) n w (c.take-taken.ensures.period seen h.came) in
    collected _ p seen later c.take-taken.result.ended start _ begin _ c.take-taken.ensures.profile
    (word_came (streaming c.self.inside) c.take-taken.new.self c.word.new.self c.take-taken.new.into _ seen later start _ begin _ start _ begin _ h c.take-taken.ensures.profile (c.take-taken.ensures.stands seen h.came)
    (placed g d.After-symbols seen h.came) n f c.word.ensures.profile
    (subst (λ (sums : List ℕ). HasBatched c.word.new.self (all ++ verdict_of c.self.inside.batch.crew.parameters sums ∷ []) all start (g.O.Sink.written c.word.new.frames) begin (g.R.Sink.written c.word.new.report)) c.deref.ensures.value
    (c.in_ok-word.ensures.ok all (settled p seen) start begin h.batched f.late)))
    (c.take-taken.ensures.period seen h.came) (c.take-taken.ensures.ended seen h.came))

pub returns-in_err-word-clause-cut : goal.returns-in_err-word-clause-cut
returns-in_err-word-clause-cut g c = rw (← c.self.view_is) (λ seen start begin h.
    let p = c.self.inside.rows.parameters in
    let d = goal.at.returns-in_err-word-clause-cut g c in
    let n = ends g d.After-deref (symbols g d.After-symbols) in
    let w = word g d.After-deref (put g d.After-take-taken) n in
    let f = completed_is (streaming c.self.inside) c.take-taken.new.into _ seen _ start _ begin _ h (placed g d.After-symbols seen h.came) n w (c.take-taken.ensures.period seen h.came) in
    on_err_of c.from_residual.result (puts_same _ _ _ _ start _ begin _ h.profile f.before (c.in_err-word.ensures.cut (verdicts_on p (placed_rows p seen)) (settled p seen) start begin h.batched f.late)))

pub returns-in_err-word-clause-lines : goal.returns-in_err-word-clause-lines
returns-in_err-word-clause-lines g c = rw (← c.self.view_is) (λ seen start begin h.
    let p = c.self.inside.rows.parameters in
    let d = goal.at.returns-in_err-word-clause-lines g c in
    let n = ends g d.After-deref (symbols g d.After-symbols) in
    let w = word g d.After-deref (put g d.After-take-taken) n in
    let f = completed_is (streaming c.self.inside) c.take-taken.new.into _ seen _ start _ begin _ h (placed g d.After-symbols seen h.came) n w (c.take-taken.ensures.period seen h.came) in
    let e = err_from_is_err_and c.from_residual.result c.from_residual.ensures.1 in
    rw (e.1, e.2) (λ is. subst (λ (vs : List Verdict). PutsLines vs begin (g.R.Sink.written c.word.new.report)) f.before
    (c.in_err-word.ensures.lines (verdicts_on p (placed_rows p seen)) (settled p seen) start begin h.batched f.late (err_same c.in_err-word.field-0.0 _ is))))
