use Rattle.hpe_code.proofs.OneToOne.{code_is_one_to_one}
use Rattle.hpe_code.proofs.laws.code_is_one_to_one.Goals as goal

pub returns : goal.returns
returns c = code_is_one_to_one
