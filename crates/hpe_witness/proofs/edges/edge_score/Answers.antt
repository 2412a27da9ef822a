use Rattle.std.proofs.Common.{◌≡◌, ◌∙◌, ℤ, List}
use Rattle.hpe_base.specs.Sizes.{number_at}
use Rattle.hpe_lane.proofs.OuterFits.{kept_z}
use Rattle.hpe_witness.proofs.EdgeScores.{three_fit, three_are, three_within, same_number}
use Rattle.hpe_witness.proofs.edges.edge_score.Goals as goal

pub overflow_add-result-2 : goal.overflow_add-result-2
overflow_add-result-2 c = three_fit c.chosen.result c.chosen-2.result c.chosen-3.result c.chosen.ensures.size c.chosen-2.ensures.size c.chosen-3.ensures.size

pub returns-clause-score : goal.returns-clause-score
returns-clause-score c =
    let l : List ℤ = c.args.l in
    let a : kept_z (number_at l 0) ≡ number_at l 0 = same_number (number_at l 0) (c.requires.l 0) in
    let b : kept_z (number_at l 1) ≡ number_at l 1 = same_number (number_at l 1) (c.requires.l 1) in
    let d : kept_z (number_at l 2) ≡ number_at l 2 = same_number (number_at l 2) (c.requires.l 2) in
    three_are c.chosen.result c.chosen-2.result c.chosen-3.result c.chosen.ensures.size c.chosen-2.ensures.size c.chosen-3.ensures.size
    ∙ cc (a, b, d, c.chosen.ensures.number, c.chosen-2.ensures.number, c.chosen-3.ensures.number)

pub returns-clause-size : goal.returns-clause-size
returns-clause-size c = three_within c.chosen.result c.chosen-2.result c.chosen-3.result c.chosen.ensures.size c.chosen-2.ensures.size c.chosen-3.ensures.size
