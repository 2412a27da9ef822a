use Rattle.std.proofs.Common.{◌/◌, ◌∙◌, length}
use Rattle.hpe_lane.proofs.BestEdges.{eighth}
use Rattle.hpe_lane.proofs.Blocks.{take_long}
use Rattle.hpe_lane.proofs.best.best_edges.Goals as goal

pub best_with-requires-clause-blocks : goal.best_with-requires-clause-blocks
best_with-requires-clause-blocks c =
    let e = eighth (length c.args.l.now) (length c.args.counts.now) c.requires.many c.requires.stage.few.1 c.requires.stage.long in
    take_long (length c.args.counts.now / 8) _ e.1 ∙ e.0
