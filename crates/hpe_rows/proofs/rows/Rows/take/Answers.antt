use Rattle.std.proofs.Common.{rules, arith, ◌≡◌, ◌<◌, ◌+◌, ◌-◌, ◌%◌, ◌++◌, ◌∙◌, [], ap, sym, List, ℕ, length, take}
use Rattle.std.proofs.lemmas.List.{take_all, length-append, length-take, nil_from_length, with_items_is}
use Rattle.std.specs.Vec.{vec_len}
use Rattle.hpe_base.specs.Parameters.{symbol_slots}
use Rattle.hpe_rows.specs.RowsState.{whole_symbols}
use Rattle.hpe_rows.specs.RowsView.{rows_state}
use Rattle.hpe_rows.proofs.Parts.{IsWhole, has_begun, has_symbol, placed-begun, placed-symbol}
use Rattle.hpe_rows.proofs.PeriodEnds.{period-begun, period-symbol, ended-symbol}
use Rattle.hpe_rows.proofs.Smallness.{row-small}
use Rattle.hpe_rows.proofs.rows.Rows.take.Goals.{In-Ok, After-pass-row, After-pass-row-2}
use Rattle.hpe_rows.proofs.rows.Rows.take.Goals as goal

-- ---- the symbol isn't whole with the counts

more : (c : In-Ok) → c.extend_from_slice.new.self.items ≡ c.self.inside.begun.items ++ take (length c.args.counts.now) c.args.counts.now
more c = c.in-Ok.ensures.items ∙ ap (λ (l : List ℕ). c.self.inside.begun.items ++ l) (sym (take_all (length c.args.counts.now) c.args.counts.now (omega arith)))

short : (c : In-Ok) → length c.extend_from_slice.new.self.items < symbol_slots c.self.inside.profile
short c = omega (
  arith,
  ap (λ (l : List ℕ). length l) c.in-Ok.ensures.items,
  length-append c.self.inside.begun.items c.args.counts.now,
  c.self.inside.begun.ok.0,
  c.len.ensures,
  c.if-counts-missing.true,
  c.self.invariant.slots,
)

pub returns-then-counts-missing-clause-stands : goal.returns-then-counts-missing-clause-stands
returns-then-counts-missing-clause-stands c = rw (← c.self.view_is) (λ seen h. has_begun (rows_state c.self.inside) seen _ _ h (more c) (short c))

pub returns-then-counts-missing-clause-rows : goal.returns-then-counts-missing-clause-rows
returns-then-counts-missing-clause-rows c = rw (← c.self.view_is) (λ seen h. placed-begun (rows_state c.self.inside) seen _ _ h (more c) (short c))

pub returns-then-counts-missing-clause-period : goal.returns-then-counts-missing-clause-period
returns-then-counts-missing-clause-period c = rw (← c.self.view_is) (λ seen h.
    let less = period-begun (rows_state c.self.inside) seen (take (length c.args.counts.now) c.args.counts.now) h _ (more c) (short c) in omega arith)

pub returns-then-counts-missing-clause-ended : goal.returns-then-counts-missing-clause-ended
returns-then-counts-missing-clause-ended c = rw (← c.self.view_is) (λ seen h.
    let less = period-begun (rows_state c.self.inside) seen (take (length c.args.counts.now) c.args.counts.now) h _ (more c) (short c) in
    (λ no. absurd (search rules), λ reached. absurd (omega arith)))

pub invariant_of-self : goal.invariant_of-self
invariant_of-self c = record {
  unweaver = c.self.invariant.unweaver;
  slots = c.self.invariant.slots;
  slots_most = c.self.invariant.slots_most;
  period = c.self.invariant.period;
  symbol = c.self.invariant.symbol;
  begun = let s = short c in omega (arith, c.extend_from_slice.new.self.ok.0);
  room = search rules;
  row = c.self.invariant.row;
  counts = c.self.invariant.counts ++ take (length c.args.counts.now) c.args.counts.now;
  stands = has_begun (rows_state c.self.inside) c.self.invariant.counts _ _ c.self.invariant.stands (more c) (short c);
}

-- ---- a symbol stands whole in the counts

none : (c : After-pass-row) → c.self.inside.begun.items ≡ []
none c =
    let zero : vec_len c.self.inside.begun ≡ 0 = search rules in
    nil_from_length c.self.inside.begun.items (omega (arith, c.self.inside.begun.ok.0))

stands_whole : (c : After-pass-row)
    → IsWhole (rows_state c.self.inside) (take (c.self.inside.slots - c.len.result) c.args.counts.now) (take (c.self.inside.slots - c.len.result) c.args.counts.now) c.place_after-self-inside.result
stands_whole c =
    let n = c.self.inside.slots - c.len.result in
    record {
      counts = ap (λ (l : List ℕ). l ++ take n c.args.counts.now) (sym (none c));
      one = omega (
        arith,
        length-take n c.args.counts.now,
        ap (λ (l : List ℕ). length l) (none c),
        c.self.inside.begun.ok.0,
        c.len.ensures,
        c.if-counts-missing.false,
        c.self.invariant.slots,
      );
      place = c.place_after-self-inside.ensures.value ∙ ap (λ k. (c.self.inside.symbol + 1) % k) c.self.invariant.period;
    }

pub returns-then-is_empty-clause-stands : goal.returns-then-is_empty-clause-stands
returns-then-is_empty-clause-stands c = rw (← c.self.view_is) (λ seen h.
    has_symbol (rows_state c.self.inside) _ _ seen _ _ _ h (stands_whole (goal.at.returns-then-is_empty-clause-stands c).After-pass-row) (c.pass-row.ensures.stands (whole_symbols c.self.inside.profile seen) h.passed) (none (goal.at.returns-then-is_empty-clause-stands c).After-pass-row))

pub returns-then-is_empty-clause-rows : goal.returns-then-is_empty-clause-rows
returns-then-is_empty-clause-rows c = rw (← c.self.view_is) (λ seen h.
    placed-symbol (rows_state c.self.inside) _ seen _ _ c.pass-row.new.into c.pass-row.result h (stands_whole (goal.at.returns-then-is_empty-clause-rows c).After-pass-row) (c.pass-row.ensures.rows (whole_symbols c.self.inside.profile seen) h.passed))

pub returns-then-is_empty-clause-most : goal.returns-then-is_empty-clause-most
returns-then-is_empty-clause-most c = λ came.
    let i = c.self.invariant in
    row-small c.self.inside.profile i.counts _ c.pass-row.new.into c.pass-row.result i.stands.passed.valid
    (placed-symbol (rows_state c.self.inside) _ i.counts _ _ c.pass-row.new.into c.pass-row.result i.stands (stands_whole (goal.at.returns-then-is_empty-clause-most c).After-pass-row) (c.pass-row.ensures.rows (whole_symbols c.self.inside.profile i.counts) i.stands.passed)) came

pub returns-then-is_empty-clause-period : goal.returns-then-is_empty-clause-period
returns-then-is_empty-clause-period c = rw (← c.self.view_is) (λ seen h. period-symbol (rows_state c.self.inside) seen _ h _ _ (stands_whole (goal.at.returns-then-is_empty-clause-period c).After-pass-row))

pub returns-then-is_empty-clause-ended : goal.returns-then-is_empty-clause-ended
returns-then-is_empty-clause-ended c = rw (← c.self.view_is) (λ seen h. ended-symbol (rows_state c.self.inside) seen _ h _ _ (stands_whole (goal.at.returns-then-is_empty-clause-ended c).After-pass-row))

pub invariant_of-self-then-is_empty : goal.invariant_of-self-then-is_empty
invariant_of-self-then-is_empty c = record {
  unweaver = c.pass-row.ensures.profile ∙ c.self.invariant.unweaver;
  slots = c.self.invariant.slots;
  slots_most = c.self.invariant.slots_most;
  period = c.self.invariant.period;
  symbol = omega (arith, c.place_after-self-inside.ensures.within, c.self.invariant.period);
  begun = c.self.invariant.begun;
  room = c.self.invariant.room;
  row = omega (
    arith,
    ap (λ (l : List ℕ). length l) (with_items_is c.self.inside.row c.pass-row.new.row (c.pass-row.auto.row ∙ c.deref_mut.ensures.len)),
    c.pass-row.auto.row,
    ap (λ (l : List ℕ). length l) c.deref_mut.ensures.value,
    c.self.invariant.row,
  );
  counts = c.self.invariant.counts ++ take (c.self.inside.slots - c.len.result) c.args.counts.now;
  stands = has_symbol (rows_state c.self.inside) _ _ c.self.invariant.counts _ _ _ c.self.invariant.stands (stands_whole (goal.at.invariant_of-self-then-is_empty c).After-pass-row)
      (c.pass-row.ensures.stands (whole_symbols c.self.inside.profile c.self.invariant.counts) c.self.invariant.stands.passed) (none (goal.at.invariant_of-self-then-is_empty c).After-pass-row);
}

-- ---- a symbol that was begun is whole with the counts

is_whole : (c : After-pass-row-2) → IsWhole (rows_state c.self.inside) (take (c.self.inside.slots - c.len.result) c.args.counts.now) c.deref.result.now c.place_after-self-inside.result
is_whole c =
    let n = c.self.inside.slots - c.len.result in
    let all : c.deref.result.now ≡ c.self.inside.begun.items ++ take n c.args.counts.now = c.deref.ensures.value ∙ c.in-Ok-extend_from_slice.ensures.items in
    record {
      counts = all;
      one = omega (
        arith,
        ap (λ (l : List ℕ). length l) all,
        length-append c.self.inside.begun.items (take n c.args.counts.now),
        length-take n c.args.counts.now,
        c.self.inside.begun.ok.0,
        c.len.ensures,
        c.if-counts-missing.false,
        c.self.invariant.slots,
        c.self.invariant.begun,
      );
      place = c.place_after-self-inside.ensures.value ∙ ap (λ k. (c.self.inside.symbol + 1) % k) c.self.invariant.period;
    }

pub returns-clause-stands : goal.returns-clause-stands
returns-clause-stands c = rw (← c.self.view_is) (λ seen h.
    has_symbol (rows_state c.self.inside) _ _ seen _ _ _ h (is_whole (goal.at.returns-clause-stands c).After-pass-row-2) (c.pass-row-2.ensures.stands (whole_symbols c.self.inside.profile seen) h.passed) c.clear.ensures.items)

pub returns-clause-rows : goal.returns-clause-rows
returns-clause-rows c = rw (← c.self.view_is) (λ seen h.
    placed-symbol (rows_state c.self.inside) _ seen _ _ c.pass-row-2.new.into c.pass-row-2.result h (is_whole (goal.at.returns-clause-rows c).After-pass-row-2) (c.pass-row-2.ensures.rows (whole_symbols c.self.inside.profile seen) h.passed))

pub returns-clause-most : goal.returns-clause-most
returns-clause-most c = λ came.
    let i = c.self.invariant in
    row-small c.self.inside.profile i.counts _ c.pass-row-2.new.into c.pass-row-2.result i.stands.passed.valid
    (placed-symbol (rows_state c.self.inside) _ i.counts _ _ c.pass-row-2.new.into c.pass-row-2.result i.stands (is_whole (goal.at.returns-clause-most c).After-pass-row-2) (c.pass-row-2.ensures.rows (whole_symbols c.self.inside.profile i.counts) i.stands.passed)) came

pub returns-clause-period : goal.returns-clause-period
returns-clause-period c = rw (← c.self.view_is) (λ seen h. period-symbol (rows_state c.self.inside) seen _ h _ _ (is_whole (goal.at.returns-clause-period c).After-pass-row-2))

pub returns-clause-ended : goal.returns-clause-ended
returns-clause-ended c = rw (← c.self.view_is) (λ seen h. ended-symbol (rows_state c.self.inside) seen _ h _ _ (is_whole (goal.at.returns-clause-ended c).After-pass-row-2))

pub invariant_of-self-2 : goal.invariant_of-self-2
invariant_of-self-2 c = record {
  unweaver = c.pass-row-2.ensures.profile ∙ c.self.invariant.unweaver;
  slots = c.self.invariant.slots;
  slots_most = c.self.invariant.slots_most;
  period = c.self.invariant.period;
  symbol = omega (arith, c.place_after-self-inside.ensures.within, c.self.invariant.period);
  begun = omega (arith, c.clear.ensures.len, c.self.invariant.begun);
  room = search rules;
  row = omega (
    arith,
    ap (λ (l : List ℕ). length l) (with_items_is c.self.inside.row c.pass-row-2.new.row (c.pass-row-2.auto.row ∙ c.deref_mut-2.ensures.len)),
    c.pass-row-2.auto.row,
    ap (λ (l : List ℕ). length l) c.deref_mut-2.ensures.value,
    c.self.invariant.row,
  );
  counts = c.self.invariant.counts ++ take (c.self.inside.slots - c.len.result) c.args.counts.now;
  stands = has_symbol (rows_state c.self.inside) _ _ c.self.invariant.counts _ _ _ c.self.invariant.stands (is_whole (goal.at.invariant_of-self-2 c).After-pass-row-2)
      (c.pass-row-2.ensures.stands (whole_symbols c.self.inside.profile c.self.invariant.counts) c.self.invariant.stands.passed) c.clear.ensures.items;
}
