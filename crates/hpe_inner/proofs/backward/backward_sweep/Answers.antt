use Rattle.std.proofs.Common.{◌≡◌, ℕ, ◌+◌, ◌-◌, ◌*◌, ◌<◌, ◌≤◌, get_or, [], ◌∷◌, length, arith, rules, ℤ, List, pos, subst, sym, ⊎_elim, to_z, of_z, w32}
use Rattle.std.proofs.lemmas.Bool.{cases_lt}
use Rattle.hpe_base.specs.Parameters.{symbol_bits}
use Rattle.hpe_base.specs.Sizes.{number_at}
use Rattle.hpe_lane.specs.Windows.{windows, windows_end}
use Rattle.hpe_inner.specs.Sweeps.{AreEdgesKept, BackRow, IsSoftAt}
use Rattle.hpe_inner.proofs.BackwardRow.{BackRow-last, BackRow-same}
use Rattle.hpe_inner.proofs.KeptEdges.{edges_same, edges_within}
use Rattle.hpe_inner.proofs.backward.backward_sweep.Goals as goal

rest_none : (n e : ℕ) → e ≡ n → 0 ≡ n - e
rest_none n e h = omega arith

pub loop-k-init : goal.loop-k-init
loop-k-init g c =
    let m : ℕ = symbol_bits c.args.word.order in
    let n : ℕ = c.args.word.symbols in
    let v : ℕ = length c.args.kept.now - 0 in
    let all : windows_end n v ≡ n = omega arith in
    record {
      back = subst (λ (k : ℕ). BackRow m (windows_end n v) k c.args.word.counts.now c.args.word.l.now (pos 0 ∷ pos 0 ∷ [])) (rest_none n (windows_end n v) all) (BackRow-last m (windows_end n v) c.args.word.counts.now c.args.word.l.now);
      soft = λ t i a b h. absurd {A = IsSoftAt c.args.word.order c.args.word.counts.now c.args.word.l.now (t * m + i) (number_at c.args.out.now (t * m + i))} (omega (arith, a, b, all));
      edges = edges_within m 0 n 0 (windows_end n v) c.args.word.counts.now c.args.word.l.now c.args.out.now (omega arith) (omega arith) c.requires.edges;
      cost = omega (arith, all);
    }

pub window_back-next-requires-clause-later : goal.window_back-next-requires-clause-later
window_back-next-requires-clause-later g c =
    let m : ℕ = symbol_bits c.args.word.order in
    let n : ℕ = c.args.word.symbols in
    let w : ℕ = length c.args.kept.now - 1 - c.loop-k.k in
    let row : List ℤ = to_z w32 c.loop-k.even-bits ∷ to_z w32 c.loop-k.odd-bits ∷ [] in
    let lw : w < windows n = omega arith in
    let e : windows_end n (length c.args.kept.now - c.loop-k.k) ≡ 64 * w + c.min-count.result = omega (arith, c.min-count.ensures) in
    subst (λ (t : ℕ). BackRow m t (n - t) c.args.word.counts.now c.args.word.l.now row) e c.loop-k.invariant.back

pub loop-k-preserved : goal.loop-k-preserved
loop-k-preserved g c =
    let m : ℕ = symbol_bits c.args.word.order in
    let n : ℕ = c.args.word.symbols in
    let k : ℕ = c.loop-k.k in
    let w : ℕ = length c.args.kept.now - 1 - k in
    let count : ℕ = c.min-count.result in
    let counts : List ℕ = c.args.word.counts.now in
    let l : List ℤ = c.args.word.l.now in
    let next : List ℤ = c.window_back-next.result in
    let lw : w < windows n = omega arith in
    let x : to_z w32 (of_z w32 (get_or next 0 (pos 0))) ≡ number_at next 0 = search rules in
    let y : to_z w32 (of_z w32 (get_or next 1 (pos 0))) ≡ number_at next 1 = search rules in
    let e : windows_end n (length c.args.kept.now - k) ≡ 64 * w + count = omega (arith, c.min-count.ensures) in
    let s : 64 * w ≡ windows_end n (length c.args.kept.now - (k + 1)) = omega arith in
    let row : BackRow m (windows_end n (length c.args.kept.now - (k + 1))) (n - windows_end n (length c.args.kept.now - (k + 1))) counts l next = subst (λ (t : ℕ). BackRow m t (n - t) counts l next) s c.window_back-next.ensures.row in
    record {
      back = BackRow-same m (windows_end n (length c.args.kept.now - (k + 1))) (n - windows_end n (length c.args.kept.now - (k + 1))) counts l next _ _ x y row;
      soft = λ t i after lt li.
          ⊎_elim
          (λ (h : t < 64 * w + count). c.window_back-next.ensures.soft t i (omega (arith, after, s)) h li)
          (λ (h : 64 * w + count ≤ t). subst (IsSoftAt c.args.word.order counts l (t * m + i)) (sym (c.window_back-next.ensures.others t i h lt li)) (c.loop-k.invariant.soft t i (omega (arith, h, e)) lt li))
          (cases_lt t (64 * w + count));
      edges = subst (λ (t : ℕ). AreEdgesKept m 0 t counts l c.window_back-next.new.out) s
          (edges_same m 0 (64 * w) counts l c.loop-k.out c.window_back-next.new.out c.window_back-next.ensures.before
          (edges_within m 0 (windows_end n (length c.args.kept.now - k)) 0 (64 * w) counts l c.loop-k.out (omega arith) (omega arith) c.loop-k.invariant.edges));
      cost = omega (arith, c.window_rows.ensures.cost, c.window_back-next.ensures.cost, c.loop-k.invariant.cost, e, s);
    }

pub window_rows-requires-clause-edges : goal.window_rows-requires-clause-edges
window_rows-requires-clause-edges g c =
    let n : ℕ = c.args.word.symbols in
    let w : ℕ = length c.args.kept.now - 1 - c.loop-k.k in
    let lw : w < windows n = omega arith in
    let e : windows_end n (length c.args.kept.now - c.loop-k.k) ≡ 64 * w + c.min-count.result = omega (arith, c.min-count.ensures) in
    edges_within (symbol_bits c.args.word.order) 0 (windows_end n (length c.args.kept.now - c.loop-k.k)) (64 * w) (64 * w + c.min-count.result) c.args.word.counts.now c.args.word.l.now c.loop-k.out (omega arith) (omega arith) c.loop-k.invariant.edges

pub window_back-next-requires-clause-edges : goal.window_back-next-requires-clause-edges
window_back-next-requires-clause-edges g c =
    let n : ℕ = c.args.word.symbols in
    let w : ℕ = length c.args.kept.now - 1 - c.loop-k.k in
    let lw : w < windows n = omega arith in
    let e : windows_end n (length c.args.kept.now - c.loop-k.k) ≡ 64 * w + c.min-count.result = omega (arith, c.min-count.ensures) in
    edges_within (symbol_bits c.args.word.order) 0 (windows_end n (length c.args.kept.now - c.loop-k.k)) (64 * w) (64 * w + c.min-count.result) c.args.word.counts.now c.args.word.l.now c.loop-k.out (omega arith) (omega arith) c.loop-k.invariant.edges
