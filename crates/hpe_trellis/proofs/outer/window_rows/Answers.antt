use Rattle.std.proofs.Common.{rules, arith, ◌≡◌, ◌<◌, ◌≤◌, ◌+◌, ◌%◌, ℕ, List, [], ℤ, Bool, length, get_or, ap, subst, ◌∙◌}
use Rattle.hpe_base.specs.Sizes.{number_at}
use Rattle.hpe_base.specs.Parameters.{flags_set}
use Rattle.hpe_lane.proofs.WindowEnds.{rows-set}
use Rattle.hpe_trellis.specs.OuterTrellis.{kept_before, width, OuterFore}
use Rattle.hpe_trellis.proofs.Bounds.{fore_fits}
use Rattle.hpe_trellis.proofs.KeptBits.{kept_total}
use Rattle.hpe_trellis.proofs.Recursion.{OuterFore-more, StepIs, before-mono, before_next, width_at, step_is, place_on, same_start, next_start}
use Rattle.hpe_trellis.proofs.outer.window_rows.Goals as goal

pub loop-i-init : goal.loop-i-init
loop-i-init g c =
    let columns : List (List Bool) = c.args.word.columns.now in
    let s : ℕ = c.args.start in
    let e : s ≡ s + 0 = same_start s in
    record {
      now = subst (λ (t : ℕ). OuterFore t columns c.args.word.l.now c.args.row) e c.requires.first;
      rows = λ j h. absurd {A = OuterFore (s + j) columns c.args.word.l.now (get_or c.args.rows.now j [])} (omega (arith, h));
      place = ap (λ (t : ℕ). t % length columns) e;
      at = kept_total columns s c.kept_length-at.result c.kept_length-at.ensures ∙ ap (kept_before columns) e;
      cost = omega arith;
    }

pub step_numbers-numbers-requires-clause-room : goal.step_numbers-numbers-requires-clause-room
step_numbers-numbers-requires-clause-room g c =
    let columns : List (List Bool) = c.args.word.columns.now in
    let t : ℕ = c.args.start + c.loop-i.i in
    let three : length (get_or columns c.loop-i.place []) ≡ 3 = c.requires.word.three c.loop-i.place (search rules) in
    let w : flags_set (get_or columns c.loop-i.place []) ≡ width columns t = width_at columns t c.loop-i.place c.loop-i.invariant.place three in
    let m : kept_before columns (t + 1) ≤ kept_before columns (c.args.start + c.args.count) = before-mono columns (c.args.start + c.args.count) (t + 1) (omega arith) in
    let n = before_next columns t in
    omega (arith, c.loop-i.invariant.at, c.requires.inside, w, m, n)

pub outer_forward-next-requires-clause-row : goal.outer_forward-next-requires-clause-row
outer_forward-next-requires-clause-row g c = λ q h.
    let columns : List (List Bool) = c.args.word.columns.now in
    let t : ℕ = c.args.start + c.loop-i.i in
    let m : kept_before columns t ≤ kept_before columns (c.args.start + c.args.count) = before-mono columns (c.args.start + c.args.count) t (omega arith) in
    fore_fits columns c.args.word.l.now c.requires.word.within t q (number_at c.loop-i.row q) (omega (arith, c.requires.inside, c.requires.word.short, m)) h (c.loop-i.invariant.now.top q h)

pub overflow_add-at : goal.overflow_add-at
overflow_add-at g c =
    let columns : List (List Bool) = c.args.word.columns.now in
    let t : ℕ = c.args.start + c.loop-i.i in
    let three : length (get_or columns c.loop-i.place []) ≡ 3 = c.requires.word.three c.loop-i.place (search rules) in
    let w : flags_set (get_or columns c.loop-i.place []) ≡ width columns t = width_at columns t c.loop-i.place c.loop-i.invariant.place three in
    let m : kept_before columns (t + 1) ≤ kept_before columns (c.args.start + c.args.count) = before-mono columns (c.args.start + c.args.count) (t + 1) (omega arith) in
    let n = before_next columns t in
    let small : c.loop-i.at + c.flags_set-at.result ≤ 15120 = omega (arith, c.loop-i.invariant.at, c.requires.inside, c.requires.word.short, c.flags_set-at.ensures.value, w, m, n) in
    search rules

pub loop-i-preserved : goal.loop-i-preserved
loop-i-preserved g c =
    let i : ℕ = c.loop-i.i in
    let t : ℕ = c.args.start + i in
    let columns : List (List Bool) = c.args.word.columns.now in
    let l : List ℤ = c.args.word.l.now in
    let next : List ℤ = c.outer_forward-next.result in
    let r : List ℤ = c.step_numbers-numbers.result in
    let room : i < length c.loop-i.rows = omega (arith, c.loop-i.auto.rows, c.requires.rows) in
    let three : length (get_or columns c.loop-i.place []) ≡ 3 = c.requires.word.three c.loop-i.place (search rules) in
    let w : flags_set (get_or columns c.loop-i.place []) ≡ width columns t = width_at columns t c.loop-i.place c.loop-i.invariant.place three in
    let same : StepIs columns l t r = step_is columns l t c.loop-i.place c.loop-i.at r c.loop-i.invariant.place c.loop-i.invariant.at c.step_numbers-numbers.ensures.edge in
    let e : t + 1 ≡ c.args.start + (i + 1) = next_start c.args.start i in
    let at : c.loop-i.at + c.flags_set-at.result ≡ kept_before columns (t + 1) = omega (arith, c.loop-i.invariant.at, before_next columns t, c.flags_set-at.ensures.value, w) in
    record {
      now = subst (λ (k : ℕ). OuterFore k columns l next) e (OuterFore-more columns l t r c.loop-i.row next same c.loop-i.invariant.now c.outer_forward-next.ensures.row);
      rows = rows-set (λ (j : ℕ) (row : List ℤ). OuterFore (c.args.start + j) columns l row) i c.loop-i.rows c.loop-i.row room c.loop-i.invariant.rows c.loop-i.invariant.now;
      place = c.place_after-place.ensures.value ∙ place_on t (length columns) c.loop-i.place c.loop-i.invariant.place ∙ ap (λ (k : ℕ). k % length columns) e;
      at = at ∙ ap (kept_before columns) e;
      cost = omega (arith, c.outer_forward-next.ensures.step, c.loop-i.invariant.cost);
    }

pub returns-clause-next : goal.returns-clause-next
returns-clause-next g c =
    let e : c.loop-i.i ≡ c.args.count = omega arith in
    subst (λ (i : ℕ). OuterFore (c.args.start + i) c.args.word.columns.now c.args.word.l.now c.loop-i.row) e c.loop-i.invariant.now
