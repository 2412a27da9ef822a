use Rattle.std.proofs.Common.{◌≡◌, ℕ, ◌+◌, ◌*◌, ◌<◌, ◌≤◌, get_or, [], ◌∷◌, length, arith, rules, ℤ, List, pos, subst, to_z, of_z, w32}
use Rattle.hpe_base.specs.Sizes.{number_at}
use Rattle.hpe_lane.proofs.WindowEnds.{rows-set}
use Rattle.hpe_inner.specs.Sweeps.{IsForwardRow}
use Rattle.hpe_inner.proofs.ForwardRow.{stage_is, IsForwardRow-more, IsForwardRow-same, row_fits, below_cap, stage_best, inner-within, two_or_more}
use Rattle.hpe_inner.proofs.KeptEdges.{edges_cut}
use Rattle.hpe_base.specs.Parameters.{symbol_bits}
use Rattle.hpe_base.proofs.ParameterLemmas.{symbol_bits-low}
use Rattle.hpe_inner.proofs.forward.window_rows.Goals as goal

same_start : (s : ℕ) → s ≡ s + 0
same_start s = omega arith

next_start : (s i : ℕ) → s + i + 1 ≡ s + (i + 1)
next_start s i = omega arith

pub loop-i-init : goal.loop-i-init
loop-i-init g c =
    let row : List ℤ = c.args.row in
    let x : to_z w32 (of_z w32 (get_or row 0 (pos 0))) ≡ number_at row 0 = search rules in
    let y : to_z w32 (of_z w32 (get_or row 1 (pos 0))) ≡ number_at row 1 = search rules in
    record {
      now = subst (λ (t : ℕ). IsForwardRow (symbol_bits c.args.word.order) t c.args.word.counts.now c.args.word.l.now (to_z w32 (of_z w32 (get_or row 0 (pos 0))) ∷ to_z w32 (of_z w32 (get_or row 1 (pos 0))) ∷ [])) (same_start c.args.span.start)
          (IsForwardRow-same (symbol_bits c.args.word.order) c.args.span.start c.args.word.counts.now c.args.word.l.now row _ _ x y c.requires.first);
      rows = λ j h. absurd (omega (arith, h));
      cost = omega arith;
    }

pub next_visit-next-requires-clause-row : goal.next_visit-next-requires-clause-row
next_visit-next-requires-clause-row g c =
    let t : ℕ = c.args.span.start + c.loop-i.i in
    let le : t ≤ c.args.word.symbols = omega arith in
    row_fits ((symbol_bits c.args.word.order + 1) * 16383) t (to_z w32 c.loop-i.even-bits ∷ to_z w32 c.loop-i.odd-bits ∷ []) (below_cap t c.args.word.symbols ((symbol_bits c.args.word.order + 1) * 16383) le c.requires.word.short) c.loop-i.invariant.now.small

pub next_visit-next-requires-clause-stage : goal.next_visit-next-requires-clause-stage
next_visit-next-requires-clause-stage g c =
    stage_is c.args.word.order c.bits-m.result c.slots-size.result (c.args.span.start + c.loop-i.i) c.args.word.symbols c.args.word.counts.now c.args.word.l.now c.bits-m.ensures c.slots-size.ensures c.requires.word (omega arith)

pub next_visit-next-requires-clause-edges : goal.next_visit-next-requires-clause-edges
next_visit-next-requires-clause-edges g c =
    let t : ℕ = c.args.span.start + c.loop-i.i in
    edges_cut (symbol_bits c.args.word.order) c.bits-m.result c.args.word.symbols t c.slots-size.result c.args.word.counts.now c.args.word.l.now c.args.out.now c.bits-m.ensures c.slots-size.ensures c.requires.word.l_long (omega arith)
    (λ many. c.requires.edges many t (omega arith) (omega arith))

pub loop-i-preserved : goal.loop-i-preserved
loop-i-preserved g c =
    let m : ℕ = symbol_bits c.args.word.order in
    let n : ℕ = c.args.word.symbols in
    let i : ℕ = c.loop-i.i in
    let t : ℕ = c.args.span.start + i in
    let counts : List ℕ = c.args.word.counts.now in
    let l : List ℤ = c.args.word.l.now in
    let rows : List (List ℤ) = c.loop-i.rows in
    let row : List ℤ = to_z w32 c.loop-i.even-bits ∷ to_z w32 c.loop-i.odd-bits ∷ [] in
    let next : List ℤ = c.next_visit-next.result in
    let size : ℕ = c.slots-size.result in
    let lt : t < n = omega arith in
    let more : t + 1 ≤ n = omega arith in
    let cap : (t + 1) * ((m + 1) * 16383) ≤ 1099983617 = below_cap (t + 1) n ((m + 1) * 16383) more c.requires.word.short in
    let room : i < length rows = omega (arith, c.loop-i.auto.rows, c.requires.rows) in
    let x : to_z w32 (of_z w32 (get_or next 0 (pos 0))) ≡ number_at next 0 = search rules in
    let y : to_z w32 (of_z w32 (get_or next 1 (pos 0))) ≡ number_at next 1 = search rules in
    let new : IsForwardRow m (t + 1) counts l next = IsForwardRow-more m t counts l row next (two_or_more m (symbol_bits-low c.args.word.order)) cap
    (inner-within m n t counts l c.requires.word.l_long lt c.requires.word.most c.requires.word.within) c.loop-i.invariant.now
    (stage_best m c.bits-m.result n t size counts l row next c.bits-m.ensures c.slots-size.ensures c.requires.word.l_long lt c.next_visit-next.ensures.row) in
    record {
      now = IsForwardRow-same m (c.args.span.start + (i + 1)) counts l next _ _ x y (subst (λ (j : ℕ). IsForwardRow m j counts l next) (next_start c.args.span.start i) new);
      rows = rows-set (λ (j : ℕ) (here : List ℤ). IsForwardRow m (c.args.span.start + j) counts l here) i rows row room c.loop-i.invariant.rows c.loop-i.invariant.now;
      cost = omega (arith, c.next_visit-next.ensures.step, c.loop-i.invariant.cost);
    }
