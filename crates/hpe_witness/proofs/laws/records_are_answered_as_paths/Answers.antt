use Rattle.hpe_witness.proofs.RecordLaw.{records-law}
use Rattle.hpe_witness.proofs.laws.records_are_answered_as_paths.Goals as goal

pub returns : goal.returns
returns c = records-law
