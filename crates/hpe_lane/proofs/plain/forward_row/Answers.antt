use Rattle.std.proofs.Common.{arith, ◌≡◌, ◌+◌, ◌*◌, ◌/◌, ◌%◌, List, ◌∷◌, [], ℤ, ◌+ℤ◌}
use Rattle.std.specs.Int.{int_max}
use Rattle.hpe_base.specs.Sizes.{number_at}
use Rattle.hpe_lane.specs.OuterStage.{edge_sum}
use Rattle.hpe_lane.proofs.OuterFits.{kept_z, none_is, first_is, second_is, all_is, edge_within, place_within, forward_is}
use Rattle.hpe_lane.proofs.OuterEdges.{at_four}
use Rattle.hpe_lane.proofs.plain.forward_row.Goals as goal

pub greater_sum-none-requires-clause-y : goal.greater_sum-none-requires-clause-y
greater_sum-none-requires-clause-y c = edge_within c.args.l 1 0 _ c.requires.l (all_is c.args.l c.requires.l)

pub greater_sum-before-requires-clause-a : goal.greater_sum-before-requires-clause-a
greater_sum-before-requires-clause-a c = place_within c.args.row c.requires.row 2 (omega arith)

pub greater_sum-before-requires-clause-x : goal.greater_sum-before-requires-clause-x
greater_sum-before-requires-clause-x c = edge_within c.args.l 2 0 _ c.requires.l (second_is c.args.l c.requires.l)

pub greater_sum-before-requires-clause-b : goal.greater_sum-before-requires-clause-b
greater_sum-before-requires-clause-b c = place_within c.args.row c.requires.row 3 (omega arith)

pub greater_sum-before-requires-clause-y : goal.greater_sum-before-requires-clause-y
greater_sum-before-requires-clause-y c = edge_within c.args.l 3 0 _ c.requires.l (first_is c.args.l c.requires.l)

pub greater_sum-last-requires-clause-a : goal.greater_sum-last-requires-clause-a
greater_sum-last-requires-clause-a c = place_within c.args.row c.requires.row 0 (omega arith)

pub greater_sum-last-requires-clause-x : goal.greater_sum-last-requires-clause-x
greater_sum-last-requires-clause-x c = edge_within c.args.l 0 1 _ c.requires.l (all_is c.args.l c.requires.l)

pub greater_sum-last-requires-clause-b : goal.greater_sum-last-requires-clause-b
greater_sum-last-requires-clause-b c = place_within c.args.row c.requires.row 1 (omega arith)

pub greater_sum-both-requires-clause-a : goal.greater_sum-both-requires-clause-a
greater_sum-both-requires-clause-a c = place_within c.args.row c.requires.row 2 (omega arith)

pub greater_sum-both-requires-clause-x : goal.greater_sum-both-requires-clause-x
greater_sum-both-requires-clause-x c = edge_within c.args.l 2 1 _ c.requires.l (first_is c.args.l c.requires.l)

pub greater_sum-both-requires-clause-b : goal.greater_sum-both-requires-clause-b
greater_sum-both-requires-clause-b c = place_within c.args.row c.requires.row 3 (omega arith)

pub greater_sum-both-requires-clause-y : goal.greater_sum-both-requires-clause-y
greater_sum-both-requires-clause-y c = edge_within c.args.l 3 1 _ c.requires.l (second_is c.args.l c.requires.l)

pub returns : goal.returns
returns c =
    let l : List ℤ = c.args.l in
    let row : List ℤ = c.args.row in
    at_four (λ q. number_at (kept_z c.greater_sum-none.result ∷ kept_z c.greater_sum-before.result ∷ kept_z c.greater_sum-last.result ∷ kept_z c.greater_sum-both.result ∷ []) q
    ≡ int_max (number_at row (2 * (q % 2)) +ℤ edge_sum l (2 * (q % 2)) (q / 2)) (number_at row (2 * (q % 2) + 1) +ℤ edge_sum l (2 * (q % 2) + 1) (q / 2)))
    (forward_is row l 0 0 _ _ c.greater_sum-none.result c.requires.row c.requires.l (omega arith) (none_is l) (all_is l c.requires.l) c.greater_sum-none.ensures)
    (forward_is row l 2 0 _ _ c.greater_sum-before.result c.requires.row c.requires.l (omega arith) (second_is l c.requires.l) (first_is l c.requires.l) c.greater_sum-before.ensures)
    (forward_is row l 0 1 _ _ c.greater_sum-last.result c.requires.row c.requires.l (omega arith) (all_is l c.requires.l) (none_is l) c.greater_sum-last.ensures)
    (forward_is row l 2 1 _ _ c.greater_sum-both.result c.requires.row c.requires.l (omega arith) (first_is l c.requires.l) (second_is l c.requires.l) c.greater_sum-both.ensures)
