use Rattle.std.proofs.Common.{arith, ◌≡◌, ◌<◌, ◌≤◌, ◌+◌, ◌*◌, ℕ, List, [], ℤ, Bool, length, get_or, sym, subst}
use Rattle.hpe_lane.specs.Windows.{windows, windows_end}
use Rattle.hpe_lane.proofs.WindowEnds.{rows-set, window_start, no_window}
use Rattle.hpe_trellis.specs.OuterTrellis.{OuterFore}
use Rattle.hpe_trellis.proofs.Recursion.{OuterFore-first, before-mono, first_row}
use Rattle.hpe_trellis.proofs.outer.forward_rows.Goals as goal

pub loop-w-init : goal.loop-w-init
loop-w-init g c =
    let z = no_window c.args.n in
    record {
      now = subst (λ (t : ℕ). OuterFore t c.args.word.columns.now c.args.word.l.now first_row) (sym z) (OuterFore-first c.args.word.columns.now c.args.word.l.now);
      kept = λ v h. absurd {A = OuterFore (64 * v) c.args.word.columns.now c.args.word.l.now (get_or c.args.kept.now v [])} (omega (arith, h));
      cost = omega (arith, z);
    }

pub window_rows-next-requires-clause-first : goal.window_rows-next-requires-clause-first
window_rows-next-requires-clause-first g c =
    let lw : c.loop-w.w < windows c.args.n = omega arith in
    subst (λ (t : ℕ). OuterFore t c.args.word.columns.now c.args.word.l.now c.loop-w.row) (window_start c.args.n c.loop-w.w lw) c.loop-w.invariant.now

pub window_rows-next-requires-clause-inside : goal.window_rows-next-requires-clause-inside
window_rows-next-requires-clause-inside g c =
    let lw : c.loop-w.w < windows c.args.n = omega arith in
    let e : 64 * c.loop-w.w + c.min-count.result ≤ c.args.n = omega (arith, c.min-count.ensures) in
    let m = before-mono c.args.word.columns.now c.args.n (64 * c.loop-w.w + c.min-count.result) e in
    omega (arith, m, c.requires.l)

pub loop-w-preserved : goal.loop-w-preserved
loop-w-preserved g c =
    let n : ℕ = c.args.n in
    let w : ℕ = c.loop-w.w in
    let count : ℕ = c.min-count.result in
    let columns : List (List Bool) = c.args.word.columns.now in
    let l : List ℤ = c.args.word.l.now in
    let row : List ℤ = c.loop-w.row in
    let next : List ℤ = c.window_rows-next.result in
    let lw : w < windows n = omega arith in
    let start : windows_end n w ≡ 64 * w = window_start n w lw in
    let e : 64 * w + count ≡ windows_end n (w + 1) = omega (arith, c.min-count.ensures) in
    let room : w < length c.loop-w.kept = omega arith in
    let now : OuterFore (64 * w) columns l row = subst (λ (t : ℕ). OuterFore t columns l row) start c.loop-w.invariant.now in
    record {
      now = subst (λ (t : ℕ). OuterFore t columns l next) e c.window_rows-next.ensures.next;
      kept = rows-set (λ (v : ℕ) (here : List ℤ). OuterFore (64 * v) columns l here) w c.loop-w.kept row room c.loop-w.invariant.kept now;
      cost = omega (arith, c.window_rows-next.ensures.cost, c.loop-w.invariant.cost, e, start);
    }
