use Rattle.hpe_send.proofs.WovenWord.{IsWeavingWord}
use Rattle.hpe_send.proofs.period.weave_word.Given as goal

abbrev pub invariant-loop-symbol : goal.invariant-loop-symbol
invariant-loop-symbol l = IsWeavingWord l.fn.weaver l.weaver l.fn.word l.word l.symbol-index
