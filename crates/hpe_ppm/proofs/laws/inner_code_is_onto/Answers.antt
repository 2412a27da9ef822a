use Rattle.hpe_ppm.proofs.InnerCode.{inner_code_is_onto}
use Rattle.hpe_ppm.proofs.laws.inner_code_is_onto.Goals as goal

pub returns : goal.returns
returns c = inner_code_is_onto
