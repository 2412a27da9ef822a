use Rattle.std.proofs.Common.{◌+◌, ◌*◌, ◌/◌}
use Rattle.hpe_base.specs.Sizes.{number_at}
use Rattle.hpe_lane.specs.OuterStage.{edge_sum}
use Rattle.hpe_witness.proofs.EdgeScores.{rises_from, falls_from}
use Rattle.hpe_witness.proofs.check.rises_along.Goals as goal

pub returns-clause-rises : goal.returns-clause-rises
returns-clause-rises c = λ h.
    rises_from (number_at c.args.row.now c.args.state) c.edge_score.result (edge_sum c.args.l c.args.state c.args.input) (number_at c.args.next.now (2 * c.args.input + c.args.state / 2))
    (c.requires.row c.args.state) c.edge_score.ensures.size (c.requires.next (2 * c.args.input + c.args.state / 2)) c.edge_score.ensures.score h

pub returns-clause-falls : goal.returns-clause-falls
returns-clause-falls c = λ h.
    falls_from (number_at c.args.row.now c.args.state) c.edge_score.result (edge_sum c.args.l c.args.state c.args.input) (number_at c.args.next.now (2 * c.args.input + c.args.state / 2))
    (c.requires.row c.args.state) c.edge_score.ensures.size (c.requires.next (2 * c.args.input + c.args.state / 2)) c.edge_score.ensures.score h
