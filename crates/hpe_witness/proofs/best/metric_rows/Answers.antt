use Rattle.std.proofs.Common.{rules, arith, ◌≡◌, ◌<◌, ◌≤◌, ◌+◌, ℕ, List, [], ℤ, Bool, length, sym, subst}
use Rattle.std.proofs.lemmas.List.{length-set}
use Rattle.hpe_base.specs.Sizes.{number_at, Within}
use Rattle.hpe_base.proofs.Tabulated.{tabulate_from_places}
use Rattle.hpe_trellis.specs.OuterTrellis.{kept_before}
use Rattle.hpe_trellis.proofs.Recursion.{before-mono, before_cap}
use Rattle.hpe_witness.specs.PathMetrics.{metric_row}
use Rattle.hpe_witness.proofs.BestPath.{path_metric-fits}
use Rattle.hpe_witness.proofs.MetricRows.{number_at-metric_row, metric_row-next, start-row, rows-first, rows-more}
use Rattle.hpe_witness.proofs.best.metric_rows.Goals as goal

pub loop-t-init : goal.loop-t-init
loop-t-init g c =
    let room : 0 < length c.args.rows.now = omega arith in
    let start = start-row c.args.columns.now c.args.l.now in
    record {
      rows = rows-first c.args.columns.now c.args.l.now _ c.args.rows.now room start;
      row = start;
      cost = c.new-counter.ensures;
    }

pub numbers_at-requires-clause-room : goal.numbers_at-requires-clause-room
numbers_at-requires-clause-room g c =
    let m : kept_before c.args.columns.now (c.loop-t.t + 1) ≤ kept_before c.args.columns.now c.args.steps = before-mono c.args.columns.now c.args.steps (c.loop-t.t + 1) (omega arith) in
    omega (arith, m, c.requires.l)

pub outer_forward-next-requires-clause-row : goal.outer_forward-next-requires-clause-row
outer_forward-next-requires-clause-row g c = λ q h.
    let columns : List (List Bool) = c.args.columns.now in
    let l : List ℤ = c.args.l.now in
    let t : ℕ = c.loop-t.t in
    let cap : kept_before columns t ≤ 15120 = before_cap columns c.args.steps t (length l) (omega arith) c.requires.l c.requires.short in
    subst (λ (row : List ℤ). Within 600000000 (number_at row q)) (sym c.loop-t.invariant.row)
    (subst (Within 600000000) (sym (number_at-metric_row columns l t q h)) (path_metric-fits columns l c.requires.within t q cap h))

pub loop-t-preserved : goal.loop-t-preserved
loop-t-preserved g c =
    let columns : List (List Bool) = c.args.columns.now in
    let l : List ℤ = c.args.l.now in
    let t : ℕ = c.loop-t.t in
    let next : List ℤ = c.outer_forward-next.result in
    let four : length next ≡ 4 = search rules in
    let room : t + 1 < length c.loop-t.rows = omega (arith, length-set {A = List ℤ}) in
    let here : next ≡ metric_row columns l (t + 1) =
    metric_row-next columns l t c.loop-t.row c.numbers_at.result next c.loop-t.invariant.row c.numbers_at.ensures.edge four c.outer_forward-next.ensures.row in
    record {
      rows = rows-more columns l t c.loop-t.rows next room c.loop-t.invariant.rows here;
      row = here;
      cost = omega (arith, c.outer_forward-next.ensures.step);
    }

pub returns : goal.returns
returns g c =
    let long : length c.loop-t.rows ≡ c.args.steps + 1 = omega (arith, length-set {A = List ℤ}) in
    tabulate_from_places (c.args.steps + 1) (metric_row c.args.columns.now c.args.l.now) c.loop-t.rows [] long (λ k lt. c.loop-t.invariant.rows k (omega arith))
