use Rattle.std.proofs.Common.{arith, rules, ◌≡◌, ℕ, ℤ, ◌%◌, ◌^◌, ◌+ℤ◌, ◌-ℤ◌, List, length, sym, ◌∙◌, ap, ap₂, subst, pos, get_or, to_z, of_z, w32}
use Rattle.std.specs.Int.{int_max}
use Rattle.hpe_base.specs.Greatest.{IsGreatest}
use Rattle.hpe_base.specs.Sizes.{number_at}
use Rattle.hpe_base.specs.Trellis.{IsEdge}
use Rattle.hpe_lane.specs.Parts.{stage_edge}
use Rattle.hpe_lane.proofs.BestEdges.{best_within, forward_by_best}
use Rattle.hpe_lane.proofs.Sums.{fits_sum, row_wide, max_of_sums, at_pair}
use Rattle.hpe_lane.proofs.best.step_by_best.Goals as goal

pub overflow_add-by_half : goal.overflow_add-by_half
overflow_add-by_half g c = fits_sum _ _ (row_wide c.row_by_halves-by_half.result c.row_by_halves-by_half.ensures.within 0 (omega arith)) (best_within c.args.stage.counts.now c.args.stage.l.now c.args.best 0 c.requires.stage c.requires.best 0 0 (omega arith) (omega arith))

pub overflow_add-by_half-2 : goal.overflow_add-by_half-2
overflow_add-by_half-2 g c = fits_sum _ _ (row_wide c.row_by_halves-by_half.result c.row_by_halves-by_half.ensures.within 1 (omega arith)) (best_within c.args.stage.counts.now c.args.stage.l.now c.args.best 0 c.requires.stage c.requires.best 1 0 (omega arith) (omega arith))

pub overflow_add-by_half-3 : goal.overflow_add-by_half-3
overflow_add-by_half-3 g c = fits_sum _ _ (row_wide c.row_by_halves-by_half.result c.row_by_halves-by_half.ensures.within 0 (omega arith)) (best_within c.args.stage.counts.now c.args.stage.l.now c.args.best 0 c.requires.stage c.requires.best 0 1 (omega arith) (omega arith))

pub overflow_add-by_half-4 : goal.overflow_add-by_half-4
overflow_add-by_half-4 g c = fits_sum _ _ (row_wide c.row_by_halves-by_half.result c.row_by_halves-by_half.ensures.within 1 (omega arith)) (best_within c.args.stage.counts.now c.args.stage.l.now c.args.best 0 c.requires.stage c.requires.best 1 1 (omega arith) (omega arith))

pub returns-clause-row : goal.returns-clause-row
returns-clause-row g c =
    let counts : List ℕ = c.args.stage.counts.now in
    let l : List ℤ = c.args.stage.l.now in
    let row : List ℤ = c.args.row in
    let best : List ℤ = c.args.best in
    let half : List ℤ = c.row_by_halves-by_half.result in
    let clean : to_z w32 (of_z w32 (get_or l 0 (pos 0))) ≡ number_at l 0 = search rules in
    let low : number_at half 0 ≡ int_max (number_at row 0) (number_at row 1 +ℤ number_at l 0) = c.row_by_halves-by_half.ensures.low ∙ ap (λ (z : ℤ). int_max (number_at row 0) (number_at row 1 +ℤ z)) clean in
    let high : number_at half 1 ≡ int_max (number_at row 0) (number_at row 1 -ℤ number_at l 0) = c.row_by_halves-by_half.ensures.high ∙ ap (λ (z : ℤ). int_max (number_at row 0) (number_at row 1 -ℤ z)) clean in
    let wide = row_wide half c.row_by_halves-by_half.ensures.within in
    let small = best_within counts l best 0 c.requires.stage c.requires.best in
    let even = max_of_sums (number_at half 0) (number_at best 0) (number_at half 1) (number_at best 2) c.max-even.result (wide 0 (omega arith)) (small 0 0 (omega arith) (omega arith)) (wide 1 (omega arith)) (small 1 0 (omega arith) (omega arith)) c.max-even.ensures.value in
    let odd = max_of_sums (number_at half 0) (number_at best 1) (number_at half 1) (number_at best 3) c.max-odd.result (wide 0 (omega arith)) (small 0 1 (omega arith) (omega arith)) (wide 1 (omega arith)) (small 1 1 (omega arith) (omega arith)) c.max-odd.ensures.value in
    at_pair _ _ (λ (b : ℕ) (z : ℤ). IsGreatest (λ (e : ℕ × ℕ). IsEdge (2 ^ length l) 2 e × (e.1 % 2 ≡ b)) (λ e. number_at row e.0 +ℤ stage_edge counts l e.0 e.1) z)
    (subst (λ (z : ℤ). IsGreatest (λ (e : ℕ × ℕ). IsEdge (2 ^ length l) 2 e × (e.1 % 2 ≡ 0)) (λ e. number_at row e.0 +ℤ stage_edge counts l e.0 e.1) z)
    (sym (even ∙ ap₂ (λ (p q : ℤ). int_max (p +ℤ number_at best 0) (q +ℤ number_at best 2)) low high))
    (forward_by_best counts l row 0 (number_at best 0) (number_at best 2) c.requires.stage.few.0 (c.requires.best 0 0 (omega arith) (omega arith)) (c.requires.best 1 0 (omega arith) (omega arith))))
    (subst (λ (z : ℤ). IsGreatest (λ (e : ℕ × ℕ). IsEdge (2 ^ length l) 2 e × (e.1 % 2 ≡ 1)) (λ e. number_at row e.0 +ℤ stage_edge counts l e.0 e.1) z)
    (sym (odd ∙ ap₂ (λ (p q : ℤ). int_max (p +ℤ number_at best 1) (q +ℤ number_at best 3)) low high))
    (forward_by_best counts l row 1 (number_at best 1) (number_at best 3) c.requires.stage.few.0 (c.requires.best 0 1 (omega arith) (omega arith)) (c.requires.best 1 1 (omega arith) (omega arith))))
