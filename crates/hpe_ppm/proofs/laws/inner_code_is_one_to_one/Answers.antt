use Rattle.hpe_ppm.proofs.InnerCode.{inner_code_is_one_to_one}
use Rattle.hpe_ppm.proofs.laws.inner_code_is_one_to_one.Goals as goal

pub returns : goal.returns
returns c = inner_code_is_one_to_one
