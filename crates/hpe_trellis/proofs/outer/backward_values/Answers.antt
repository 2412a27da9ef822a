use Rattle.std.proofs.Common.{arith, ◌≡◌, ◌<◌, ◌≤◌, ◌+◌, ◌-◌, ◌*◌, ℕ, List, ℤ, Bool, length, subst, sym}
use Rattle.hpe_base.specs.Sizes.{number_at}
use Rattle.hpe_lane.specs.Windows.{windows, windows_end}
use Rattle.hpe_trellis.specs.OuterTrellis.{kept_before, OuterBack, SoftFrom, IsInformationSoft, IsCodeSoft}
use Rattle.hpe_trellis.proofs.Recursion.{OuterBack-last, before-mono, first_row}
use Rattle.hpe_trellis.proofs.outer.backward_values.Goals as goal

rest_none : (n e : ℕ) → e ≡ n → 0 ≡ n - e
rest_none n e h = omega arith

-- past the last step there is no bit
SoftFrom-none : (columns : List (List Bool)) (l : List ℤ) (n e : ℕ) (info code : List ℤ) → e ≡ n + 2 → length l ≡ kept_before columns (n + 2) → SoftFrom columns l n e info code
SoftFrom-none columns l n e info code h long =
    let z : n + 2 ≡ e = sym h in
    subst (λ (t : ℕ). SoftFrom columns l n t info code) z record {
      information = λ j le lt. absurd {A = IsInformationSoft columns l n j (number_at info j)} (omega arith);
      code_bits = λ i le lt. absurd {A = IsCodeSoft columns l n i (number_at code i)} (omega arith);
    }

pub loop-k-init : goal.loop-k-init
loop-k-init g c =
    let columns : List (List Bool) = c.args.word.columns.now in
    let l : List ℤ = c.args.word.l.now in
    let n : ℕ = length c.args.info.now + 2 in
    let v : ℕ = length c.args.kept.now - 0 in
    let all : windows_end n v ≡ n = omega arith in
    record {
      back = subst (λ (k : ℕ). OuterBack (windows_end n v) k columns l first_row) (rest_none n (windows_end n v) all) (OuterBack-last columns l (windows_end n v));
      soft = SoftFrom-none columns l (length c.args.info.now) (windows_end n v) c.args.info.now c.args.code.now all c.requires.l;
      cost = omega (arith, all);
    }

pub window_rows-requires-clause-inside : goal.window_rows-requires-clause-inside
window_rows-requires-clause-inside g c =
    let n : ℕ = length c.args.info.now + 2 in
    let w : ℕ = length c.args.kept.now - 1 - c.loop-k.k in
    let lw : w < windows n = omega arith in
    let e : 64 * w + c.min-count.result ≤ n = omega (arith, c.min-count.ensures) in
    let m = before-mono c.args.word.columns.now n (64 * w + c.min-count.result) e in
    omega (arith, m, c.requires.l)

pub window_values-before-requires-clause-later : goal.window_values-before-requires-clause-later
window_values-before-requires-clause-later g c =
    let n : ℕ = length c.args.info.now + 2 in
    let w : ℕ = length c.args.kept.now - 1 - c.loop-k.k in
    let long : length c.args.info.now ≡ length c.loop-k.info = omega arith in
    let lw : w < windows n = omega arith in
    let e : windows_end n (length c.args.kept.now - c.loop-k.k) ≡ 64 * w + c.min-count.result = omega (arith, c.min-count.ensures) in
    subst (λ (i : ℕ). OuterBack (64 * w + c.min-count.result) (i + 2 - (64 * w + c.min-count.result)) c.args.word.columns.now c.args.word.l.now c.loop-k.back) long
    (subst (λ (t : ℕ). OuterBack t (n - t) c.args.word.columns.now c.args.word.l.now c.loop-k.back) e c.loop-k.invariant.back)

pub window_values-before-requires-clause-soft : goal.window_values-before-requires-clause-soft
window_values-before-requires-clause-soft g c =
    let columns : List (List Bool) = c.args.word.columns.now in
    let n : ℕ = length c.args.info.now + 2 in
    let w : ℕ = length c.args.kept.now - 1 - c.loop-k.k in
    let long : length c.args.info.now ≡ length c.loop-k.info = omega arith in
    let lw : w < windows n = omega arith in
    let e : windows_end n (length c.args.kept.now - c.loop-k.k) ≡ 64 * w + c.min-count.result = omega (arith, c.min-count.ensures) in
    subst (λ (i : ℕ). SoftFrom columns c.args.word.l.now i (64 * w + c.min-count.result) c.loop-k.info c.loop-k.code) long
    (subst (λ (t : ℕ). SoftFrom columns c.args.word.l.now (length c.args.info.now) t c.loop-k.info c.loop-k.code) e c.loop-k.invariant.soft)

pub loop-k-preserved : goal.loop-k-preserved
loop-k-preserved g c =
    let columns : List (List Bool) = c.args.word.columns.now in
    let l : List ℤ = c.args.word.l.now in
    let n : ℕ = length c.args.info.now + 2 in
    let k : ℕ = c.loop-k.k in
    let w : ℕ = length c.args.kept.now - 1 - k in
    let count : ℕ = c.min-count.result in
    let next : List ℤ = c.window_values-before.result in
    let lw : w < windows n = omega arith in
    let e : windows_end n (length c.args.kept.now - k) ≡ 64 * w + count = omega (arith, c.min-count.ensures) in
    let s : 64 * w ≡ windows_end n (length c.args.kept.now - (k + 1)) = omega arith in
    let long : length c.loop-k.info ≡ length c.args.info.now = omega arith in
    record {
      back = subst (λ (t : ℕ). OuterBack t (n - t) columns l next) s (subst (λ (i : ℕ). OuterBack (64 * w) (i + 2 - 64 * w) columns l next) long c.window_values-before.ensures.row);
      soft = subst (λ (t : ℕ). SoftFrom columns l (length c.args.info.now) t c.window_values-before.new.info c.window_values-before.new.code) s
          (subst (λ (i : ℕ). SoftFrom columns l i (64 * w) c.window_values-before.new.info c.window_values-before.new.code) long c.window_values-before.ensures.soft);
      cost = omega (arith, c.window_rows.ensures.cost, c.window_values-before.ensures.cost, c.loop-k.invariant.cost, e, s);
    }

pub returns-clause-soft : goal.returns-clause-soft
returns-clause-soft g c =
    let columns : List (List Bool) = c.args.word.columns.now in
    let z : windows_end (length c.args.info.now + 2) (length c.args.kept.now - c.loop-k.k) ≡ 0 = omega arith in
    subst (λ (t : ℕ). SoftFrom columns c.args.word.l.now (length c.args.info.now) t c.loop-k.info c.loop-k.code) z c.loop-k.invariant.soft
