use Rattle.std.proofs.Common.{◌≡◌, ℕ, ◌-◌, ◌%◌, ◌+ℤ◌, List, ℤ, arith}
use Rattle.std.specs.Int.{int_max}
use Rattle.hpe_base.specs.Sizes.{number_at}
use Rattle.hpe_lane.proofs.Sums.{fits_sum, max_of_sums, at_four}
use Rattle.hpe_lane.proofs.plain.join_four.Goals as goal

pub overflow_add-around0-2 : goal.overflow_add-around0-2
overflow_add-around0-2 c = fits_sum _ _ (c.requires.around0 1 (omega arith)) (c.requires.edges0 1)

pub overflow_add-around1-2 : goal.overflow_add-around1-2
overflow_add-around1-2 c = fits_sum _ _ (c.requires.around1 1 (omega arith)) (c.requires.edges1 2)

pub overflow_add-around0-3 : goal.overflow_add-around0-3
overflow_add-around0-3 c = fits_sum _ _ (c.requires.around0 0 (omega arith)) (c.requires.edges0 2)

pub overflow_add-around1-3 : goal.overflow_add-around1-3
overflow_add-around1-3 c = fits_sum _ _ (c.requires.around1 0 (omega arith)) (c.requires.edges1 1)

pub overflow_add-around0-4 : goal.overflow_add-around0-4
overflow_add-around0-4 c = fits_sum _ _ (c.requires.around0 1 (omega arith)) (c.requires.edges0 3)

pub overflow_add-around1-4 : goal.overflow_add-around1-4
overflow_add-around1-4 c = fits_sum _ _ (c.requires.around1 1 (omega arith)) (c.requires.edges1 0)

pub returns : goal.returns
returns c =
    let p : List ℤ = c.args.around0 in
    let q : List ℤ = c.args.around1 in
    let f : List ℤ = c.args.from0.now in
    let g : List ℤ = c.args.from1.now in
    let p0 = c.requires.around0 0 (omega arith) in
    let p1 = c.requires.around0 1 (omega arith) in
    let q0 = c.requires.around1 0 (omega arith) in
    let q1 = c.requires.around1 1 (omega arith) in
    at_four c.args.joint.now _ _ _ _ (λ (i : ℕ) (z : ℤ). z ≡ int_max (number_at p (i % 2) +ℤ number_at f i) (number_at q (i % 2) +ℤ number_at g (3 - i))) c.requires.four
    (max_of_sums (number_at p 0) (number_at f 0) (number_at q 0) (number_at g 3) c.max-a.result p0 (c.requires.edges0 0) q0 (c.requires.edges1 3) c.max-a.ensures.value)
    (max_of_sums (number_at p 1) (number_at f 1) (number_at q 1) (number_at g 2) c.max-b.result p1 (c.requires.edges0 1) q1 (c.requires.edges1 2) c.max-b.ensures.value)
    (max_of_sums (number_at p 0) (number_at f 2) (number_at q 0) (number_at g 1) c.max-c.result p0 (c.requires.edges0 2) q0 (c.requires.edges1 1) c.max-c.ensures.value)
    (max_of_sums (number_at p 1) (number_at f 3) (number_at q 1) (number_at g 0) c.max-d.result p1 (c.requires.edges0 3) q1 (c.requires.edges1 0) c.max-d.ensures.value)
