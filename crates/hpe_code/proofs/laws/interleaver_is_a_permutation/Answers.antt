use Rattle.hpe_code.proofs.Moves.{interleaver_is_permutation}
use Rattle.hpe_code.proofs.laws.interleaver_is_a_permutation.Goals as goal

pub returns : goal.returns
returns c = interleaver_is_permutation
