use Rattle.std.proofs.Common.{rules, ◌≡◌, ℕ, ◌/◌, ◌<◌, length, List, subst, sym, w32, ℤ, to_z, of_z, arith}
use Rattle.hpe_base.specs.Greatest.{IsSoft}
use Rattle.hpe_base.specs.Sizes.{number_at}
use Rattle.hpe_lane.proofs.Folding.{halves_soft, halves_folded, soft_within}
use Rattle.hpe_lane.proofs.Sums.{fits_difference, difference_is}
use Rattle.hpe_lane.proofs.plain.fold.Goals as goal

pub overflow_sub-soft : goal.overflow_sub-soft
overflow_sub-soft c =
    let low : List ℤ = c.split_at_mut-low.result.0.now in
    let high : List ℤ = c.split_at_mut-low.result.1.now in
    let u : ℤ = c.greatest.result in
    let l : ℤ = c.greatest-2.result in
    let some : 0 < length low = omega arith in
    let same : length high ≡ length low = omega arith in
    let soft = halves_soft c.args.scores.now low high l u c.split_at_mut-low.ensures.value some same c.greatest-2.ensures c.greatest.ensures in
    fits_difference u l (soft_within 1200294894 (length c.args.scores.now) c.args.scores.now c.requires.near soft) (search rules) (search rules)

pub returns-clause-soft : goal.returns-clause-soft
returns-clause-soft c =
    let xs : List ℤ = c.args.scores.now in
    let low : List ℤ = c.split_at_mut-low.result.0.now in
    let high : List ℤ = c.split_at_mut-low.result.1.now in
    let u : ℤ = c.greatest.result in
    let l : ℤ = c.greatest-2.result in
    let some : 0 < length low = omega arith in
    let same : length high ≡ length low = omega arith in
    let soft = halves_soft xs low high l u c.split_at_mut-low.ensures.value some same c.greatest-2.ensures c.greatest.ensures in
    let eu : to_z w32 (of_z w32 u) ≡ u = search rules in
    let el : to_z w32 (of_z w32 l) ≡ l = search rules in
    subst (IsSoft (λ (v : ℕ). v < length xs) (λ v. v / (length xs / 2)) (number_at xs))
    (sym (difference_is u l (soft_within 1200294894 (length xs) xs c.requires.near soft) eu el)) soft

pub returns-clause-folded : goal.returns-clause-folded
returns-clause-folded c =
    let low : List ℤ = c.split_at_mut-low.result.0.now in
    let high : List ℤ = c.split_at_mut-low.result.1.now in
    let same : length high ≡ length low = omega arith in
    halves_folded c.args.scores.now low high c.raise.new.low c.split_at_mut-low.ensures.value same c.raise.auto.low c.raise.ensures
