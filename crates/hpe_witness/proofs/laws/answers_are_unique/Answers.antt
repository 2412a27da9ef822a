use Rattle.hpe_witness.proofs.RecordLaw.{path-answer-only, record-answer-only}
use Rattle.hpe_witness.proofs.laws.answers_are_unique.Goals as goal

pub returns-clause-path : goal.returns-clause-path
returns-clause-path c = path-answer-only

pub returns-clause-record_of : goal.returns-clause-record_of
returns-clause-record_of c = record-answer-only
