use Rattle.hpe_base.proofs.Scaling.{scaled-eight}
use Rattle.hpe_base.proofs.laws.eight_eighths_are_whole.Goals as goal

pub returns : goal.returns
returns c = scaled-eight
