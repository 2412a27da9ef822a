use Rattle.std.proofs.Common.{◌≡◌, ℕ, ◌+◌, ◌*◌, ◌/◌, ◌%◌, ◌<◌, ◌≤◌, get_or, [], ◌∷◌, length, arith, rules, ℤ, List, pos, ap, sym, ◌∙◌, subst, to_z, of_z, w32}
use Rattle.hpe_base.specs.Parameters.{symbol_bits}
use Rattle.hpe_base.specs.Sizes.{number_at}
use Rattle.hpe_base.proofs.ParameterLemmas.{symbol_bits-low}
use Rattle.hpe_lane.proofs.WindowEnds.{rows-set}
use Rattle.hpe_inner.specs.Sweeps.{IsForwardRow}
use Rattle.hpe_inner.proofs.ForwardRow.{stage_is, IsForwardRow-first, IsForwardRow-more, IsForwardRow-same, below_cap, stage_best, inner-within, two_or_more, cut_is, cut_long}
use Rattle.hpe_inner.proofs.KeptEdges.{edges_whole, edges_more, edges_within}
use Rattle.hpe_inner.proofs.forward.forward_sweep.Goals.{then-t-eq0, else-t-eq0}
use Rattle.hpe_inner.proofs.forward.forward_sweep.Goals as goal

pub loop-t-init : goal.loop-t-init
loop-t-init g c = record {
  now = IsForwardRow-first (symbol_bits c.args.word.order) c.args.word.counts.now c.args.word.l.now;
  kept = λ w h. absurd (omega (arith, h));
  edges = λ many t a b. absurd (omega (arith, b));
  cost = omega arith;
}

pub first_visit-next-requires-clause-stage : goal.first_visit-next-requires-clause-stage
first_visit-next-requires-clause-stage g c =
    stage_is c.args.word.order c.bits-m.result c.slots-size.result c.loop-t.t c.args.word.symbols c.args.word.counts.now c.args.word.l.now c.bits-m.ensures c.slots-size.ensures c.requires.word (omega arith)

window_of : (t : ℕ) → t % 64 ≡ 0 → t ≡ 64 * (t / 64)
window_of t h = omega arith

pub loop-t-preserved : goal.loop-t-preserved
loop-t-preserved g c =
    let m : ℕ = symbol_bits c.args.word.order in
    let n : ℕ = c.args.word.symbols in
    let t : ℕ = c.loop-t.t in
    let counts : List ℕ = c.args.word.counts.now in
    let l : List ℤ = c.args.word.l.now in
    let kept : List (List ℤ) = c.loop-t.kept in
    let out : List ℤ = c.loop-t.out in
    let places : List ℤ = c.first_visit-next.new.places in
    let row : List ℤ = to_z w32 c.loop-t.even-bits ∷ to_z w32 c.loop-t.odd-bits ∷ [] in
    let next : List ℤ = c.first_visit-next.result in
    let wide : ℕ = c.bits-m.result in
    let size : ℕ = c.slots-size.result in
    let lt : t < n = omega arith in
    let more : t + 1 ≤ n = omega arith in
    let cap : (t + 1) * ((m + 1) * 16383) ≤ 1099983617 = below_cap (t + 1) n ((m + 1) * 16383) more c.requires.word.short in
    let x : to_z w32 (of_z w32 (get_or next 0 (pos 0))) ≡ number_at next 0 = search rules in
    let y : to_z w32 (of_z w32 (get_or next 1 (pos 0))) ≡ number_at next 1 = search rules in
    let lx : length out ≡ n * m = omega arith in
    let ly : length places ≡ m = c.first_visit-next.auto.places ∙ ap length (cut_is t wide m out c.bits-m.ensures) ∙ cut_long t m n out lx lt in
    let new : IsForwardRow m (t + 1) counts l next = IsForwardRow-more m t counts l row next (two_or_more m (symbol_bits-low c.args.word.order)) cap
    (inner-within m n t counts l c.requires.word.l_long lt c.requires.word.most c.requires.word.within) c.loop-t.invariant.now
    (stage_best m wide n t size counts l row next c.bits-m.ensures c.slots-size.ensures c.requires.word.l_long lt c.first_visit-next.ensures.row) in
    record {
      now = IsForwardRow-same m (t + 1) counts l next _ _ x y new;
      kept = elim c.if-t-eq0.branch [
        | then-t-eq0 b ↦ λ w h.
            let room : t / 64 < length kept = omega arith in
            let start : t ≡ 64 * (t / 64) = window_of t (omega (arith, b.if-t-eq0)) in
            subst (λ (ks : List (List ℤ)). IsForwardRow m (64 * w) counts l (get_or ks w [])) (sym b.kept-is)
            (rows-set (λ (j : ℕ) (here : List ℤ). IsForwardRow m (64 * j) counts l here) (t / 64) kept row room
            (λ j lj. c.loop-t.invariant.kept j (omega (arith, lj)))
            (subst (λ (j : ℕ). IsForwardRow m j counts l row) start c.loop-t.invariant.now) w (omega (arith, h)))
        | else-t-eq0 b ↦ λ w h.
            subst (λ (ks : List (List ℤ)). IsForwardRow m (64 * w) counts l (get_or ks w [])) (sym b.kept-is)
            (c.loop-t.invariant.kept w (omega (arith, h, b.if-t-eq0)))
      ];
      edges = edges_more m wide n t counts l out places c.bits-m.ensures ly lx lt
          (edges_whole m wide n t size counts l places c.bits-m.ensures c.slots-size.ensures c.requires.word.l_long lt c.first_visit-next.ensures.edges)
          c.loop-t.invariant.edges;
      cost = omega (arith, c.first_visit-next.ensures.step, c.loop-t.invariant.cost);
    }

pub returns-clause-edges : goal.returns-clause-edges
returns-clause-edges g c =
    edges_within (symbol_bits c.args.word.order) 0 c.loop-t.t 0 c.args.word.symbols c.args.word.counts.now c.args.word.l.now c.loop-t.out (omega arith) (omega arith) c.loop-t.invariant.edges
