use Rattle.std.proofs.Common.{rules, arith, ◌≡◌, ◌<◌, ◌≤◌, ◌+◌, ◌-◌, ◌%◌, ℕ, suc, List, [], ◌∷◌, ℤ, pos, Bool, length, get_or, sym, subst, ap, ◌∙◌}
use Rattle.hpe_base.specs.Sizes.{number_at}
use Rattle.hpe_base.specs.Parameters.{flags_set}
use Rattle.hpe_lane.proofs.OuterFits.{kept_z}
use Rattle.hpe_trellis.specs.OuterTrellis.{column, width, kept_before, OuterBack, SoftFrom, put_all}
use Rattle.hpe_trellis.proofs.Bounds.{fore_fits, back_fits}
use Rattle.hpe_trellis.proofs.KeptBits.{kept_total}
use Rattle.hpe_trellis.proofs.Recursion.{OuterBack-more, SoftFrom-more, StepIs, step_room, before_cap, before_next, back_place, width_at, step_is, place_back, info-here, code-here}
use Rattle.hpe_trellis.proofs.outer.window_values.Goals as goal

same_end : (x : ℕ) → x ≡ x - 0
same_end x = omega arith

pub loop-k-init : goal.loop-k-init
loop-k-init g c =
    let columns : List (List Bool) = c.args.word.columns.now in
    let l : List ℤ = c.args.word.l.now in
    let n : ℕ = length c.args.info.now in
    let e : ℕ = c.args.span.start + c.args.span.count in
    let z : e ≡ e - 0 = same_end e in
    let at : c.kept_length-at.result ≡ kept_before columns e = kept_total columns e c.kept_length-at.result c.kept_length-at.ensures in
    record {
      back = subst (λ (t : ℕ). OuterBack t (n + 2 - t) columns l c.args.back) z c.requires.later;
      place = ap (λ (t : ℕ). t % length columns) z;
      at = at ∙ ap (kept_before columns) z;
      soft = subst (λ (t : ℕ). SoftFrom columns l n t c.args.info.now c.args.code.now) z c.requires.soft;
      cost = omega arith;
    }

pub overflow_sub-at : goal.overflow_sub-at
overflow_sub-at g c =
    let columns : List (List Bool) = c.args.word.columns.now in
    let after : ℕ = c.args.span.start + c.args.span.count - c.loop-k.k in
    let t : ℕ = c.args.span.start + (c.args.span.count - 1 - c.loop-k.k) in
    let before : after - 1 ≡ t = omega arith in
    let some : 0 < after = omega arith in
    let place : ℕ = c.place_before-place.result in
    let turn : place ≡ t % length columns =
    c.place_before-place.ensures ∙ place_back after (length columns) c.loop-k.place c.requires.word.are_columns.some some c.loop-k.invariant.place ∙ ap (λ (k : ℕ). k % length columns) before in
    let three : length (get_or columns place []) ≡ 3 = c.requires.word.three place (search rules) in
    let w : flags_set (get_or columns place []) ≡ width columns t = width_at columns t place turn three in
    let p = back_place columns after c.loop-k.at c.flags_set-at.result some c.loop-k.invariant.at (c.flags_set-at.ensures.value ∙ w ∙ ap (width columns) (sym before)) in
    p.0

pub step_numbers-numbers-requires-clause-room : goal.step_numbers-numbers-requires-clause-room
step_numbers-numbers-requires-clause-room g c =
    let columns : List (List Bool) = c.args.word.columns.now in
    let after : ℕ = c.args.span.start + c.args.span.count - c.loop-k.k in
    let t : ℕ = c.args.span.start + (c.args.span.count - 1 - c.loop-k.k) in
    let before : after - 1 ≡ t = omega arith in
    let some : 0 < after = omega arith in
    let place : ℕ = c.place_before-place.result in
    let turn : place ≡ t % length columns =
    c.place_before-place.ensures ∙ place_back after (length columns) c.loop-k.place c.requires.word.are_columns.some some c.loop-k.invariant.place ∙ ap (λ (k : ℕ). k % length columns) before in
    let three : length (get_or columns place []) ≡ 3 = c.requires.word.three place (search rules) in
    let w : flags_set (get_or columns place []) ≡ width columns t = width_at columns t place turn three in
    let p = back_place columns after c.loop-k.at c.flags_set-at.result some c.loop-k.invariant.at (c.flags_set-at.ensures.value ∙ w ∙ ap (width columns) (sym before)) in
    let lt : t < length c.args.info.now + 2 = omega arith in
    let at_now : c.loop-k.at - c.flags_set-at.result ≡ kept_before columns t = p.1 ∙ ap (kept_before columns) before in
    let room = step_room columns (length c.args.info.now + 2) t (c.loop-k.at - c.flags_set-at.result) (length c.args.word.l.now) lt at_now c.requires.l in
    omega (arith, room, w)

pub outer_back-requires-clause-fore : goal.outer_back-requires-clause-fore
outer_back-requires-clause-fore g c = λ q h.
    let n : ℕ = length c.args.info.now in
    let i : ℕ = c.args.span.count - 1 - c.loop-k.k in
    let li : i < c.args.span.count = omega arith in
    let t : ℕ = c.args.span.start + i in
    let le : t ≤ n + 2 = omega arith in
    fore_fits c.args.word.columns.now c.args.word.l.now c.requires.word.within t q (number_at (get_or c.args.span.rows.now i []) q) (before_cap c.args.word.columns.now (n + 2) t (length c.args.word.l.now) le c.requires.l c.requires.word.short) h
    ((c.requires.rows i li).top q h)

pub outer_back-requires-clause-back : goal.outer_back-requires-clause-back
outer_back-requires-clause-back g c = λ q h.
    let n : ℕ = length c.args.info.now in
    let t : ℕ = c.args.span.start + c.args.span.count - c.loop-k.k in
    let le : t + (n + 2 - t) ≤ n + 2 = omega arith in
    back_fits c.args.word.columns.now c.args.word.l.now c.requires.word.within t (n + 2 - t) q (number_at c.loop-k.back q)
    (before_cap c.args.word.columns.now (n + 2) (t + (n + 2 - t)) (length c.args.word.l.now) le c.requires.l c.requires.word.short) h (c.loop-k.invariant.back.top q h)

pub put_soft-requires-clause-room : goal.put_soft-requires-clause-room
put_soft-requires-clause-room g c =
    let columns : List (List Bool) = c.args.word.columns.now in
    let after : ℕ = c.args.span.start + c.args.span.count - c.loop-k.k in
    let t : ℕ = c.args.span.start + (c.args.span.count - 1 - c.loop-k.k) in
    let before : after - 1 ≡ t = omega arith in
    let some : 0 < after = omega arith in
    let place : ℕ = c.place_before-place.result in
    let turn : place ≡ t % length columns =
    c.place_before-place.ensures ∙ place_back after (length columns) c.loop-k.place c.requires.word.are_columns.some some c.loop-k.invariant.place ∙ ap (λ (k : ℕ). k % length columns) before in
    let three : length (get_or columns place []) ≡ 3 = c.requires.word.three place (search rules) in
    let w : flags_set (get_or columns place []) ≡ width columns t = width_at columns t place turn three in
    let p = back_place columns after c.loop-k.at c.flags_set-at.result some c.loop-k.invariant.at (c.flags_set-at.ensures.value ∙ w ∙ ap (width columns) (sym before)) in
    let lt : t < length c.args.info.now + 2 = omega arith in
    let at_now : c.loop-k.at - c.flags_set-at.result ≡ kept_before columns t = p.1 ∙ ap (kept_before columns) before in
    let room = step_room columns (length c.args.info.now + 2) t (c.loop-k.at - c.flags_set-at.result) (length c.args.word.l.now) lt at_now c.requires.l in
    omega (arith, room, w)

pub loop-k-preserved : goal.loop-k-preserved
loop-k-preserved g c =
    let columns : List (List Bool) = c.args.word.columns.now in
    let after : ℕ = c.args.span.start + c.args.span.count - c.loop-k.k in
    let t : ℕ = c.args.span.start + (c.args.span.count - 1 - c.loop-k.k) in
    let before : after - 1 ≡ t = omega arith in
    let some : 0 < after = omega arith in
    let place : ℕ = c.place_before-place.result in
    let turn : place ≡ t % length columns =
    c.place_before-place.ensures ∙ place_back after (length columns) c.loop-k.place c.requires.word.are_columns.some some c.loop-k.invariant.place ∙ ap (λ (k : ℕ). k % length columns) before in
    let three : length (get_or columns place []) ≡ 3 = c.requires.word.three place (search rules) in
    let w : flags_set (get_or columns place []) ≡ width columns t = width_at columns t place turn three in
    let p = back_place columns after c.loop-k.at c.flags_set-at.result some c.loop-k.invariant.at (c.flags_set-at.ensures.value ∙ w ∙ ap (width columns) (sym before)) in
    let lt : t < length c.args.info.now + 2 = omega arith in
    let at_now : c.loop-k.at - c.flags_set-at.result ≡ kept_before columns t = p.1 ∙ ap (kept_before columns) before in
    let room = step_room columns (length c.args.info.now + 2) t (c.loop-k.at - c.flags_set-at.result) (length c.args.word.l.now) lt at_now c.requires.l in
    let n : ℕ = length c.args.info.now in
    let l : List ℤ = c.args.word.l.now in
    let i : ℕ = c.args.span.count - 1 - c.loop-k.k in
    let li_rows : i < c.args.span.count = omega arith in
    let fore : List ℤ = get_or c.args.span.rows.now i [] in
    let r : List ℤ = c.step_numbers-numbers.result in
    let back : List ℤ = c.loop-k.back in
    let soft : List ℤ = c.outer_back.result.1 in
    let left : ℕ = n + 2 - after in
    let now : ℕ = c.loop-k.at - c.flags_set-at.result in
    let here : after ≡ t + 1 = omega arith in
    let to : t ≡ c.args.span.start + c.args.span.count - (c.loop-k.k + 1) = omega arith in
    let all : t + suc left ≡ n + 2 = omega arith in
    let more : suc left ≡ n + 2 - t = omega arith in
    let cap : kept_before columns (n + 2) ≤ 15120 = before_cap columns (n + 2) (n + 2) (length l) (omega arith) c.requires.l c.requires.word.short in
    let same : StepIs columns l t r = step_is columns l t place now r turn at_now c.step_numbers-numbers.ensures.edge in
    let later : OuterBack (t + 1) left columns l back = subst (λ (k : ℕ). OuterBack k left columns l back) here c.loop-k.invariant.back in
    let so_far : SoftFrom columns l n (t + 1) c.loop-k.info c.loop-k.code = subst (λ (k : ℕ). SoftFrom columns l n k c.loop-k.info c.loop-k.code) here c.loop-k.invariant.soft in
    let lc : length c.loop-k.code ≡ length l = omega arith in
    let li : length c.loop-k.info ≡ n = omega arith in
    let end : kept_before columns (t + 1) ≤ length l = omega (arith, room, before_next columns t, at_now) in
    let first : kept_z (get_or soft 0 (pos 0)) ≡ number_at soft 0 = search rules in
    let values : SoftFrom columns l n t c.put_information.new.info (put_all (column columns t) (number_at soft 1 ∷ number_at soft 2 ∷ number_at soft 3 ∷ []) c.loop-k.code now) =
    SoftFrom-more columns l n t now c.loop-k.info c.loop-k.code c.put_information.new.info soft lc end at_now so_far
    (λ h. c.put_information.ensures.here (subst (λ (k : ℕ). t < k) (sym li) h) ∙ first) c.put_information.ensures.others
    (λ h. info-here columns l c.requires.word.within n t c.requires.free.0 cap c.requires.l left all fore back r soft same (c.requires.rows i li_rows) later c.outer_back.ensures.soft h)
    (code-here columns l c.requires.word.within n t c.requires.free.0 cap c.requires.l left all fore back r soft same (c.requires.rows i li_rows) later c.outer_back.ensures.soft) in
    let written : c.put_soft.new.code ≡ put_all (column columns t) (number_at soft 1 ∷ number_at soft 2 ∷ number_at soft 3 ∷ []) c.loop-k.code now =
    c.put_soft.ensures ∙ ap (λ (k : ℕ). put_all (get_or columns k []) (number_at soft 1 ∷ number_at soft 2 ∷ number_at soft 3 ∷ []) c.loop-k.code now) turn in
    record {
      back = subst (λ (k : ℕ). OuterBack k (n + 2 - k) columns l c.outer_back.result.0) to
          (subst (λ (k : ℕ). OuterBack t k columns l c.outer_back.result.0) more (OuterBack-more columns l t left r back c.outer_back.result.0 same later c.outer_back.ensures.row));
      place = turn ∙ ap (λ (k : ℕ). k % length columns) to;
      at = at_now ∙ ap (kept_before columns) to;
      soft = subst (λ (k : ℕ). SoftFrom columns l n k c.put_information.new.info c.put_soft.new.code) to (subst (SoftFrom columns l n t c.put_information.new.info) (sym written) values);
      cost = omega (arith, c.outer_back.ensures.step, c.loop-k.invariant.cost);
    }

pub returns-clause-row : goal.returns-clause-row
returns-clause-row g c =
    let e : c.args.span.start + c.args.span.count - c.loop-k.k ≡ c.args.span.start = omega arith in
    subst (λ (t : ℕ). OuterBack t (length c.args.info.now + 2 - t) c.args.word.columns.now c.args.word.l.now c.loop-k.back) e c.loop-k.invariant.back

pub returns-clause-soft : goal.returns-clause-soft
returns-clause-soft g c =
    let columns : List (List Bool) = c.args.word.columns.now in
    let n : ℕ = length c.args.info.now in
    let e : c.args.span.start + c.args.span.count - c.loop-k.k ≡ c.args.span.start = omega arith in
    subst (λ (t : ℕ). SoftFrom columns c.args.word.l.now n t c.loop-k.info c.loop-k.code) e c.loop-k.invariant.soft
