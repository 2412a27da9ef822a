use Rattle.hpe_base.proofs.Plain.{one_octet-plain}
use Rattle.hpe_base.proofs.laws.one_octet_is_plain.Goals as goal

pub returns : goal.returns
returns c = one_octet-plain
