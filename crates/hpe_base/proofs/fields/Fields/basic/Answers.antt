-- The fields are computed.
use Rattle.std.proofs.Common.{refl}
use Rattle.hpe_base.specs.Lists.{tabulate}
use Rattle.hpe_base.specs.Validity.{profile_of, first_failing}
use Rattle.hpe_base.proofs.fields.Fields.basic.Goals as goal

pub returns : goal.returns
unfolding profile_of first_failing tabulate
returns c = refl
