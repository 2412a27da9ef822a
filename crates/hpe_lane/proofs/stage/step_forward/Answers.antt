use Rattle.std.proofs.Common.{arith, ◌≡◌, ℕ, ℤ, ◌+ℤ◌, List, length, sym, subst}
use Rattle.hpe_base.specs.Greatest.{IsGreatest}
use Rattle.hpe_base.specs.Sizes.{number_at}
use Rattle.hpe_lane.specs.Edges.{HasParity, edge_of}
use Rattle.hpe_lane.proofs.Sums.{IsGreatest-within, fits_sum, forward_top, max_of_sums, at_pair, row_wide, EndsIn}
use Rattle.hpe_lane.proofs.stage.step_forward.Goals as goal

pub overflow_add-row : goal.overflow_add-row
overflow_add-row g c = fits_sum _ _ (row_wide c.args.row c.requires.row 0 (omega arith)) (IsGreatest-within 147447 c.requires.edges0 c.best_ends-first.ensures.even)

pub overflow_add-row-2 : goal.overflow_add-row-2
overflow_add-row-2 g c = fits_sum _ _ (row_wide c.args.row c.requires.row 1 (omega arith)) (IsGreatest-within 147447 c.requires.edges1 c.best_ends-second.ensures.even)

pub overflow_add-row-3 : goal.overflow_add-row-3
overflow_add-row-3 g c = fits_sum _ _ (row_wide c.args.row c.requires.row 0 (omega arith)) (IsGreatest-within 147447 c.requires.edges0 c.best_ends-first.ensures.odd)

pub overflow_add-row-4 : goal.overflow_add-row-4
overflow_add-row-4 g c = fits_sum _ _ (row_wide c.args.row c.requires.row 1 (omega arith)) (IsGreatest-within 147447 c.requires.edges1 c.best_ends-second.ensures.odd)

pub returns-clause-row : goal.returns-clause-row
returns-clause-row g c =
    let row : List ℤ = c.args.row in
    let from0 : List ℤ = c.args.from0.now in
    let from1 : List ℤ = c.args.from1.now in
    let n : ℕ = length from0 in
    let first : List ℤ = c.best_ends-first.result in
    let second : List ℤ = c.best_ends-second.result in
    let even = max_of_sums (number_at row 0) (number_at first 0) (number_at row 1) (number_at second 0) c.max-even.result (row_wide c.args.row c.requires.row 0 (omega arith)) (IsGreatest-within 147447 c.requires.edges0 c.best_ends-first.ensures.even) (row_wide c.args.row c.requires.row 1 (omega arith)) (IsGreatest-within 147447 c.requires.edges1 c.best_ends-second.ensures.even) c.max-even.ensures.value in
    let odd = max_of_sums (number_at row 0) (number_at first 1) (number_at row 1) (number_at second 1) c.max-odd.result (row_wide c.args.row c.requires.row 0 (omega arith)) (IsGreatest-within 147447 c.requires.edges0 c.best_ends-first.ensures.odd) (row_wide c.args.row c.requires.row 1 (omega arith)) (IsGreatest-within 147447 c.requires.edges1 c.best_ends-second.ensures.odd) c.max-odd.ensures.value in
    let same : length from1 ≡ n = c.requires.same in
    at_pair _ _ (λ (b : ℕ) (z : ℤ). IsGreatest (EndsIn n b) (λ e. number_at row e.0 +ℤ edge_of from0 from1 e.0 e.1) z)
    (subst (λ (z : ℤ). IsGreatest (EndsIn n 0) (λ e. number_at row e.0 +ℤ edge_of from0 from1 e.0 e.1) z) (sym even)
    (forward_top row from0 from1 n 0 _ _ c.best_ends-first.ensures.even (subst (λ (k : ℕ). IsGreatest (HasParity k 1 0) (number_at from1) (number_at second 0)) same c.best_ends-second.ensures.even)))
    (subst (λ (z : ℤ). IsGreatest (EndsIn n 1) (λ e. number_at row e.0 +ℤ edge_of from0 from1 e.0 e.1) z) (sym odd)
    (forward_top row from0 from1 n 1 _ _ c.best_ends-first.ensures.odd (subst (λ (k : ℕ). IsGreatest (HasParity k 1 1) (number_at from1) (number_at second 1)) same c.best_ends-second.ensures.odd)))
