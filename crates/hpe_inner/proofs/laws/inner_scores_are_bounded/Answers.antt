use Rattle.hpe_inner.proofs.ScoreBounds.{inner_scores_are_bounded}
use Rattle.hpe_inner.proofs.laws.inner_scores_are_bounded.Goals as goal

pub returns : goal.returns
returns c = inner_scores_are_bounded
