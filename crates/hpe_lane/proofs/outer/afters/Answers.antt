use Rattle.std.proofs.Common.{arith, ◌≡◌, List, ◌∷◌, [], ℤ, ◌+ℤ◌}
use Rattle.hpe_base.specs.Sizes.{number_at}
use Rattle.hpe_lane.specs.OuterStage.{outer_next, edge_sum}
use Rattle.hpe_lane.proofs.OuterFits.{kept_z, first_is, second_is, all_is, alone_is, onward_fits, onward_is}
use Rattle.hpe_lane.proofs.OuterEdges.{at_four}
use Rattle.hpe_lane.proofs.outer.afters.Goals as goal

pub overflow_add-result : goal.overflow_add-result
overflow_add-result c = onward_fits c.args.l c.args.back 1 0 0 _ c.requires.l c.requires.back (omega arith) (all_is c.args.l c.requires.l)

pub overflow_add-result-2 : goal.overflow_add-result-2
overflow_add-result-2 c = onward_fits c.args.l c.args.back 2 0 1 _ c.requires.l c.requires.back (omega arith) (second_is c.args.l c.requires.l)

pub overflow_add-result-4 : goal.overflow_add-result-4
overflow_add-result-4 c = onward_fits c.args.l c.args.back 0 1 2 _ c.requires.l c.requires.back (omega arith) (all_is c.args.l c.requires.l)

pub overflow_add-result-6 : goal.overflow_add-result-6
overflow_add-result-6 c = onward_fits c.args.l c.args.back 3 1 3 _ c.requires.l c.requires.back (omega arith) (second_is c.args.l c.requires.l)

pub returns-clause-zero : goal.returns-clause-zero
returns-clause-zero c =
    let l : List ℤ = c.args.l in
    let back : List ℤ = c.args.back in
    let first : ℤ = kept_z (number_at l 0) in
    let second : ℤ = kept_z (kept_z (number_at l 1) +ℤ kept_z (number_at l 2)) in
    let both : ℤ = kept_z (first +ℤ second) in
    at_four (λ p. number_at (kept_z (number_at back 0) ∷ kept_z (both +ℤ kept_z (number_at back 0)) ∷ kept_z (second +ℤ kept_z (number_at back 1)) ∷ kept_z (first +ℤ kept_z (number_at back 1)) ∷ []) p
    ≡ edge_sum l p 0 +ℤ number_at back (outer_next p 0))
    (alone_is l back 0 c.requires.back (omega arith))
    (onward_is l back 1 0 0 both c.requires.l c.requires.back (omega arith) (all_is l c.requires.l))
    (onward_is l back 2 0 1 second c.requires.l c.requires.back (omega arith) (second_is l c.requires.l))
    (onward_is l back 3 0 1 first c.requires.l c.requires.back (omega arith) (first_is l c.requires.l))

pub returns-clause-one : goal.returns-clause-one
returns-clause-one c =
    let l : List ℤ = c.args.l in
    let back : List ℤ = c.args.back in
    let first : ℤ = kept_z (number_at l 0) in
    let second : ℤ = kept_z (kept_z (number_at l 1) +ℤ kept_z (number_at l 2)) in
    let both : ℤ = kept_z (first +ℤ second) in
    at_four (λ p. number_at (kept_z (both +ℤ kept_z (number_at back 2)) ∷ kept_z (number_at back 2) ∷ kept_z (first +ℤ kept_z (number_at back 3)) ∷ kept_z (second +ℤ kept_z (number_at back 3)) ∷ []) p
    ≡ edge_sum l p 1 +ℤ number_at back (outer_next p 1))
    (onward_is l back 0 1 2 both c.requires.l c.requires.back (omega arith) (all_is l c.requires.l))
    (alone_is l back 2 c.requires.back (omega arith))
    (onward_is l back 2 1 3 first c.requires.l c.requires.back (omega arith) (first_is l c.requires.l))
    (onward_is l back 3 1 3 second c.requires.l c.requires.back (omega arith) (second_is l c.requires.l))
