use Rattle.hpe_base.specs.Sizes.{number_at}
use Rattle.hpe_lane.proofs.OuterEdges.{forward_top}
use Rattle.hpe_lane.proofs.plain.outer_forward.Goals as goal

pub returns-clause-row : goal.returns-clause-row
returns-clause-row g c = λ q h. forward_top c.args.row c.args.l q (number_at c.forward_row-next.result q) h (c.forward_row-next.ensures q h)
