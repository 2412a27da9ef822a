use Rattle.std.proofs.Common.{◌+◌, ◌*◌, ◌/◌, ◌%◌, ℕ, ℤ, List}
use Rattle.hpe_base.specs.Sizes.{number_at}
use Rattle.hpe_lane.specs.OuterStage.{edge_sum}
use Rattle.hpe_witness.proofs.EdgeScores.{less_from, no_less_from}
use Rattle.hpe_witness.proofs.Survivors.{survivor-is-one, survivor-is-none}
use Rattle.hpe_witness.proofs.best.survivor.Goals as goal

pub returns-then-row-none-clause-state : goal.returns-then-row-none-clause-state
returns-then-row-none-clause-state c =
    let row : List ℤ = c.args.row.now in
    let q : ℕ = c.args.state in
    survivor-is-one (number_at row) (edge_sum c.args.l) q
    (less_from (number_at row (2 * (q % 2))) c.edge_score.result (edge_sum c.args.l (2 * (q % 2)) (q / 2)) (number_at row (2 * (q % 2) + 1)) c.edge_score-2.result (edge_sum c.args.l (2 * (q % 2) + 1) (q / 2))
    (c.requires.row (2 * (q % 2))) c.edge_score.ensures.size (c.requires.row (2 * (q % 2) + 1)) c.edge_score-2.ensures.size c.edge_score.ensures.score c.edge_score-2.ensures.score c.if-row-none.true)

pub returns-else-row-none-clause-state : goal.returns-else-row-none-clause-state
returns-else-row-none-clause-state c =
    let row : List ℤ = c.args.row.now in
    let q : ℕ = c.args.state in
    survivor-is-none (number_at row) (edge_sum c.args.l) q
    (no_less_from (number_at row (2 * (q % 2))) c.edge_score.result (edge_sum c.args.l (2 * (q % 2)) (q / 2)) (number_at row (2 * (q % 2) + 1)) c.edge_score-2.result (edge_sum c.args.l (2 * (q % 2) + 1) (q / 2))
    (c.requires.row (2 * (q % 2))) c.edge_score.ensures.size (c.requires.row (2 * (q % 2) + 1)) c.edge_score-2.ensures.size c.edge_score.ensures.score c.edge_score-2.ensures.score c.if-row-none.false)
