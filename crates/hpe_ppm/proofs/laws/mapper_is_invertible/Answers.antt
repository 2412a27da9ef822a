use Rattle.hpe_ppm.proofs.Mapping.{mapper_is_invertible}
use Rattle.hpe_ppm.proofs.laws.mapper_is_invertible.Goals as goal

pub returns : goal.returns
returns c = mapper_is_invertible
