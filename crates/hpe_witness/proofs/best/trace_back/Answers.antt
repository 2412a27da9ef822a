use Rattle.std.proofs.Common.{arith, ◌≡◌, ◌≢◌, ◌<◌, ◌≤◌, ◌+◌, ◌-◌, ◌/◌, ◌∷◌, ◌++◌, ℕ, suc, List, [], ℤ, Bool, length, get_or, sym, subst, ◌∙◌, ⊎_elim}
use Rattle.std.proofs.lemmas.Bool.{cases_lt}
use Rattle.hpe_trellis.specs.OuterTrellis.{kept_before}
use Rattle.hpe_trellis.proofs.Recursion.{before-mono}
use Rattle.hpe_witness.specs.PathMetrics.{survivor_at, traced}
use Rattle.hpe_witness.proofs.MetricRows.{rows-at, rows-long, rows-within, step-back, survivor_at-is}
use Rattle.hpe_witness.proofs.best.trace_back.Goals as goal

pub bounds-rows-t : goal.bounds-rows-t
bounds-rows-t c =
    let n : ℕ = length c.args.u.now + 2 in
    omega (arith, rows-long c.args.columns.now c.args.l.now n c.args.rows.now c.requires.rows)

pub numbers_at-requires-clause-room : goal.numbers_at-requires-clause-room
numbers_at-requires-clause-room c =
    let n : ℕ = length c.args.u.now + 2 in
    let m : kept_before c.args.columns.now (c.loop-t.t - 1 + 1) ≤ kept_before c.args.columns.now n = before-mono c.args.columns.now n (c.loop-t.t - 1 + 1) (omega arith) in
    omega (arith, m, c.requires.l)

pub survivor-state-requires-clause-row : goal.survivor-state-requires-clause-row
survivor-state-requires-clause-row c =
    let n : ℕ = length c.args.u.now + 2 in
    rows-within c.args.columns.now c.args.l.now n c.args.rows.now c.requires.rows c.requires.within (omega (arith, c.requires.l)) (c.loop-t.t - 1)

pub loop-t-preserved : goal.loop-t-preserved
loop-t-preserved c =
    let columns : List (List Bool) = c.args.columns.now in
    let l : List ℤ = c.args.l.now in
    let n : ℕ = length c.args.u.now in
    let t : ℕ = c.loop-t.t - 1 in
    let q : ℕ = c.loop-t.state in
    let whole : List ℕ = traced (survivor_at columns l) (n + 2) 0 in
    let here : c.loop-t.t ≡ suc t = omega arith in
    let r = c.loop-t.invariant.rest in
    let was : whole ≡ traced (survivor_at columns l) (suc t) q ++ r.0 = subst (λ (k : ℕ). whole ≡ traced (survivor_at columns l) k q ++ r.0) here r.1 in
    let back = step-back columns l t q whole r.0 c.loop-t.invariant.low was in
    let state : c.survivor-state.result ≡ survivor_at columns l t q =
    c.survivor-state.ensures.state ∙ survivor_at-is columns l t q (get_or c.args.rows.now t []) c.numbers_at.result (rows-at columns l (n + 2) c.args.rows.now c.requires.rows t (omega arith)) c.numbers_at.ensures.edge in
    record {
      low = c.survivor-state.ensures.low;
      rest = ((q / 2) ∷ r.0, subst (λ (p : ℕ). whole ≡ traced (survivor_at columns l) t p ++ (q / 2) ∷ r.0) (sym state) back.0);
      written = λ j le lt.
          ⊎_elim
          (λ (h : t < j). let ne : j ≢ t = omega arith in c.put_input.ensures.others j ne ∙ c.loop-t.invariant.written j (omega arith) lt)
          (λ (h : j ≤ t). let e : t ≡ j = omega arith in
          let room : t < length c.loop-t.u = omega arith in
          subst (λ (k : ℕ). get_or c.put_input.new.u k 0 ≡ get_or whole k 0) e (c.put_input.ensures.here room ∙ sym back.1))
          (cases_lt t j);
    }
