use Rattle.std.proofs.Common.{arith}
use Rattle.hpe_code.proofs.tests.there_and_back.Goals as goal

pub returns : goal.returns
returns g c = c.moves_undo_each_other.ensures.there_and_back _ _ _ c.requires.first (omega arith) c.interleave.ensures c.deinterleave.ensures
