use Rattle.std.proofs.Common.{arith, length}
use Rattle.hpe_lane.specs.Parts.{stage_edge}
use Rattle.hpe_inner.proofs.KeptEdges.{edges_by_place}
use Rattle.hpe_inner.proofs.backward.stage_back.Goals as goal

pub step_back_by_best-requires-clause-best : goal.step_back_by_best-requires-clause-best
step_back_by_best-requires-clause-best g c =
    edges_by_place (length c.args.stage.l.now) (stage_edge c.args.stage.counts.now c.args.stage.l.now 0) c.args.out.now c.kept_edges-best.result c.kept_edges-best.ensures (c.requires.edges (omega arith))
