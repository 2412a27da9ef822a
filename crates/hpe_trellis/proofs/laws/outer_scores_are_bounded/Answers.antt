use Rattle.hpe_trellis.proofs.ScoreBounds.{outer_scores_are_bounded}
use Rattle.hpe_trellis.proofs.laws.outer_scores_are_bounded.Goals as goal

pub returns : goal.returns
returns c = outer_scores_are_bounded
