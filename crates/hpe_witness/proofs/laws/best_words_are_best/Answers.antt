use Rattle.hpe_witness.proofs.BestWord.{best_word-best}
use Rattle.hpe_witness.proofs.laws.best_words_are_best.Goals as goal

pub returns : goal.returns
returns c = best_word-best
