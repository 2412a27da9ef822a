use Rattle.hpe_base.proofs.GreatestScores.{top-whole}
use Rattle.hpe_base.proofs.laws.tops_are_greatest.Goals as goal

-- src/laws.rt:7:1
pub returns : goal.returns
returns c = top-whole
