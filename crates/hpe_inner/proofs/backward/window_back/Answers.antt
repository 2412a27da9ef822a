use Rattle.std.proofs.Common.{◌≡◌, refl, ℕ, suc, ◌+◌, ◌-◌, ◌*◌, ◌<◌, ◌≤◌, ⊎_elim, ℤ, List, ◌∷◌, [], get_or, length, pos, arith, rules, sym, ◌∙◌, ap, subst, to_z, of_z, w32}
use Rattle.std.proofs.lemmas.Bool.{cases_lt}
use Rattle.hpe_base.specs.Sizes.{number_at}
use Rattle.hpe_inner.specs.Sweeps.{BackRow, IsSoftAt}
use Rattle.hpe_inner.proofs.ForwardRow.{stage_is, row_fits, below_cap, inner-within, cut_is, cut_long}
use Rattle.hpe_inner.proofs.KeptEdges.{block_at, block_above, block_below, edges_cut, edges_same, edges_within}
use Rattle.hpe_inner.proofs.BackwardRow.{BackRow-more, BackRow-same, back_fits, row_whole, soft_whole, soft-at, below_cap_back, stage_room}
use Rattle.hpe_base.specs.Parameters.{symbol_bits}
use Rattle.hpe_inner.proofs.backward.window_back.Goals as goal
use borrow.Rule.Slice.PartMut.{put_mid}

same_rest : (x : ℕ) → x ≡ x + 0
same_rest x = omega arith

same_end : (x : ℕ) → x ≡ x - 0
same_end x = omega arith

pub loop-k-init : goal.loop-k-init
loop-k-init g c =
    let m : ℕ = symbol_bits c.args.word.order in
    let n : ℕ = c.args.word.symbols in
    let e : ℕ = c.args.span.start + c.args.span.count in
    let back : List ℤ = c.args.back in
    let counts : List ℕ = c.args.word.counts.now in
    let l : List ℤ = c.args.word.l.now in
    let x : to_z w32 (of_z w32 (get_or back 0 (pos 0))) ≡ number_at back 0 = search rules in
    let y : to_z w32 (of_z w32 (get_or back 1 (pos 0))) ≡ number_at back 1 = search rules in
    let now = subst (λ (k : ℕ). BackRow m e k counts l back) (same_rest (n - e)) c.requires.later in
    record {
      back = BackRow-same m (e - 0) (n - e + 0) counts l back _ _ x y (subst (λ (k : ℕ). BackRow m k (n - e + 0) counts l back) (same_end e) now);
      soft = λ t i a b h. absurd {A = IsSoftAt c.args.word.order counts l (t * m + i) (number_at c.args.out.now (t * m + i))} (omega (arith, a, b));
      others = λ t i a b h. refl;
      before = λ t i a h. refl;
      cost = omega arith;
    }

pub stage_back-next-requires-clause-fore : goal.stage_back-next-requires-clause-fore
stage_back-next-requires-clause-fore g c =
    let i : ℕ = c.args.span.count - 1 - c.loop-k.k in
    let lt : i < c.args.span.count = omega arith in
    let le : c.args.span.start + i ≤ c.args.word.symbols = omega arith in
    row_fits ((symbol_bits c.args.word.order + 1) * 16383) (c.args.span.start + i) (get_or c.args.rows.now i []) (below_cap (c.args.span.start + i) c.args.word.symbols ((symbol_bits c.args.word.order + 1) * 16383) le c.requires.word.short) (c.requires.rows i lt).small

pub stage_back-next-requires-clause-back : goal.stage_back-next-requires-clause-back
stage_back-next-requires-clause-back g c =
    let n : ℕ = c.args.word.symbols in
    let k : ℕ = c.loop-k.k in
    let e : ℕ = c.args.span.start + c.args.span.count in
    let all : e - k + (n - e + k) ≡ n = omega arith in
    let le : n - e + k ≤ n = omega arith in
    let cap : (n - e + k) * ((symbol_bits c.args.word.order + 1) * 16383) ≤ 600000000 = below_cap_back (n - e + k) n ((symbol_bits c.args.word.order + 1) * 16383) le c.requires.word.short in
    back_fits (symbol_bits c.args.word.order) (e - k) (n - e + k) n ((symbol_bits c.args.word.order + 1) * 16383) c.args.word.counts.now c.args.word.l.now (to_z w32 c.loop-k.even-bits ∷ to_z w32 c.loop-k.odd-bits ∷ []) all
    (λ s p v h. inner-within (symbol_bits c.args.word.order) n s c.args.word.counts.now c.args.word.l.now c.requires.word.l_long h c.requires.word.most c.requires.word.within p v) cap c.loop-k.invariant.back

pub stage_back-next-requires-clause-joint : goal.stage_back-next-requires-clause-joint
stage_back-next-requires-clause-joint g c =
    stage_room c.args.word.order c.bits-m.result c.slots-size.result (c.args.span.start + (c.args.span.count - 1 - c.loop-k.k)) c.args.word.symbols c.args.word.l.now c.loop-k.joint c.bits-m.ensures c.slots-size.ensures c.requires.word.l_long (omega arith) (search rules)

pub stage_back-next-requires-clause-edges : goal.stage_back-next-requires-clause-edges
stage_back-next-requires-clause-edges g c =
    let m : ℕ = symbol_bits c.args.word.order in
    let t : ℕ = c.args.span.start + (c.args.span.count - 1 - c.loop-k.k) in
    let counts : List ℕ = c.args.word.counts.now in
    let l : List ℤ = c.args.word.l.now in
    edges_cut m c.bits-m.result c.args.word.symbols t c.slots-size.result counts l c.loop-k.out c.bits-m.ensures c.slots-size.ensures c.requires.word.l_long (omega arith)
    (λ many. edges_same m t (t + 1) counts l c.args.out.now c.loop-k.out
    (λ u i a b li. c.loop-k.invariant.before u i (omega (arith, b)) li)
    (edges_within m c.args.span.start (c.args.span.start + c.args.span.count) t (t + 1) counts l c.args.out.now (omega arith) (omega arith) c.requires.edges)
    many t (omega arith) (omega arith))

pub returns-clause-row : goal.returns-clause-row
returns-clause-row g c =
    let e : ℕ = c.args.span.start + c.args.span.count in
    let a : e - c.loop-k.k ≡ c.args.span.start = omega arith in
    let b : c.args.word.symbols - e + c.loop-k.k ≡ c.args.word.symbols - c.args.span.start = omega arith in
    let row : List ℤ = to_z w32 c.loop-k.even-bits ∷ to_z w32 c.loop-k.odd-bits ∷ [] in
    subst (λ (j : ℕ). BackRow (symbol_bits c.args.word.order) c.args.span.start j c.args.word.counts.now c.args.word.l.now row) b
    (subst (λ (j : ℕ). BackRow (symbol_bits c.args.word.order) j (c.args.word.symbols - e + c.loop-k.k) c.args.word.counts.now c.args.word.l.now row) a c.loop-k.invariant.back)

pub loop-k-preserved : goal.loop-k-preserved
loop-k-preserved g c =
    let m : ℕ = symbol_bits c.args.word.order in
    let n : ℕ = c.args.word.symbols in
    let k : ℕ = c.loop-k.k in
    let e : ℕ = c.args.span.start + c.args.span.count in
    let p : ℕ = c.args.span.count - 1 - k in
    let t : ℕ = c.args.span.start + p in
    let left : ℕ = n - e + k in
    let wide : ℕ = c.bits-m.result in
    let counts : List ℕ = c.args.word.counts.now in
    let l : List ℤ = c.args.word.l.now in
    let fore : List ℤ = get_or c.args.rows.now p [] in
    let back : List ℤ = to_z w32 c.loop-k.even-bits ∷ to_z w32 c.loop-k.odd-bits ∷ [] in
    let next : List ℤ = c.stage_back-next.result in
    let new : List ℤ = c.stage_back-next.new.out in
    let size : ℕ = c.slots-size.result in
    let lp : p < c.args.span.count = omega arith in
    let lt : t < n = omega arith in
    let at : e - k ≡ t + 1 = omega arith in
    let to : t ≡ e - (k + 1) = omega arith in
    let all : t + suc left ≡ n = omega arith in
    let more : suc left ≡ n - e + (k + 1) = omega arith in
    let x : to_z w32 (of_z w32 (get_or next 0 (pos 0))) ≡ number_at next 0 = search rules in
    let y : to_z w32 (of_z w32 (get_or next 1 (pos 0))) ≡ number_at next 1 = search rules in
    let later : BackRow m (t + 1) left counts l back = subst (λ (j : ℕ). BackRow m j left counts l back) at c.loop-k.invariant.back in
    let row = row_whole m c.bits-m.result n t size counts l back next c.bits-m.ensures c.slots-size.ensures c.requires.word.l_long lt c.stage_back-next.ensures.row in
    let soft = soft_whole m c.bits-m.result n t size counts l fore back new c.bits-m.ensures c.slots-size.ensures c.requires.word.l_long lt c.stage_back-next.ensures.soft in
    let now : BackRow m t (suc left) counts l next = BackRow-more m t left counts l back next later row in
    let moved : BackRow m (e - (k + 1)) (n - e + (k + 1)) counts l next = subst (λ (j : ℕ). BackRow m j (n - e + (k + 1)) counts l next) to (subst (λ (j : ℕ). BackRow m t j counts l next) more now) in
    let lx : length c.loop-k.out ≡ n * m = omega arith in
    let ly : length new ≡ m = c.stage_back-next.auto.out ∙ ap length (cut_is t wide m c.loop-k.out c.bits-m.ensures) ∙ cut_long t m n c.loop-k.out lx lt in
    record {
      back = BackRow-same m (e - (k + 1)) (n - e + (k + 1)) counts l next _ _ x y moved;
      soft = λ u i after lu li.
          ⊎_elim
          (λ (h : t < u). let lu2 : u < n = omega arith in
          subst (IsSoftAt c.args.word.order counts l (u * m + i)) (sym (block_above c.loop-k.out new t wide u m n i c.bits-m.ensures ly lx h lu2 li)) (c.loop-k.invariant.soft u i (omega arith) lu li))
          (λ (h : u ≤ t). let same : t ≡ u = omega arith in
          subst (λ (j : ℕ). IsSoftAt c.args.word.order counts l (j * m + i) (number_at (put_mid (t * wide) ((t + 1) * wide - t * wide) c.loop-k.out new) (j * m + i))) same
          (subst (IsSoftAt c.args.word.order counts l (t * m + i)) (sym (block_at c.loop-k.out new t wide m n i c.bits-m.ensures ly lx lt li))
          (soft-at c.args.word.order n t i counts l c.requires.word.l_long lt li ((m + 1) * 16383)
          (λ a p v h. inner-within m n a counts l c.requires.word.l_long h c.requires.word.most c.requires.word.within p v) c.requires.word.short left all fore back (c.requires.rows p lp) later (number_at new i) (soft i li))))
          (cases_lt t u);
      others = λ u i after lu li. let h : t < u = omega arith in
          block_above c.loop-k.out new t wide u m n i c.bits-m.ensures ly lx h lu li ∙ c.loop-k.invariant.others u i after lu li;
      before = λ u i lu li. let h : u < t = omega arith in
          block_below c.loop-k.out new t wide u m n i c.bits-m.ensures ly lx h lt li ∙ c.loop-k.invariant.before u i (omega arith) li;
      cost = omega (arith, c.stage_back-next.ensures.step, c.loop-k.invariant.cost);
    }

pub stage_back-next-requires-clause-stage : goal.stage_back-next-requires-clause-stage
stage_back-next-requires-clause-stage g c =
    stage_is c.args.word.order c.bits-m.result c.slots-size.result (c.args.span.start + (c.args.span.count - 1 - c.loop-k.k)) c.args.word.symbols c.args.word.counts.now c.args.word.l.now c.bits-m.ensures c.slots-size.ensures c.requires.word (omega arith)

pub returns-clause-before : goal.returns-clause-before
returns-clause-before g c = λ t i a b h. c.loop-k.invariant.before t i (omega arith) h
