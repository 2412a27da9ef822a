use Rattle.hpe_code.proofs.Moves.{there_and_back, back_and_there}
use Rattle.hpe_code.proofs.laws.moves_undo_each_other.Goals as goal

pub returns : goal.returns
returns g c = record { there_and_back = there_and_back; back_and_there = back_and_there }
