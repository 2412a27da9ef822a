use Rattle.std.proofs.Common.{◌≡◌, ◌++◌, ℕ, List, arith}
use Rattle.std.proofs.lemmas.List.{take_all}
use Rattle.hpe_base.specs.ChannelInterleaver.{interleaved_channel}
use Rattle.hpe_weave.specs.Weaving.{HasWoven}
use Rattle.hpe_send.proofs.Within.{within_more, woven-below}
use Rattle.hpe_send.proofs.WovenWord.{word_none, word_more}
use Rattle.hpe_send.proofs.period.weave_word.Goals as goal

pub loop-symbol-init : goal.loop-symbol-init
loop-symbol-init c = word_none c.args.weaver.now c.args.word.now

pub loop-symbol-preserved : goal.loop-symbol-preserved
loop-symbol-preserved c =
    word_more c.args.weaver.now c.loop-symbol.weaver c.push.new.self c.args.word.now c.loop-symbol.word c.loop-symbol.symbol-index c.push.result
    c.loop-symbol-test.true c.loop-symbol.invariant c.push.ensures.profile c.push.ensures.stands c.push.ensures.answer

pub returns-clause-stands : goal.returns-clause-stands
returns-clause-stands c = λ pushed h.
    rw (take_all c.loop-symbol.symbol-index c.args.word.now (omega (arith, c.loop-symbol.invariant.size))) at (c.loop-symbol.invariant.stands pushed h)

answers : (c : goal.After-loop-symbol) → (pushed : List ℕ) → HasWoven c.args.weaver.now pushed
    → interleaved_channel c.args.weaver.now.parameters (pushed ++ c.args.word.now) ≡ interleaved_channel c.args.weaver.now.parameters pushed ++ c.loop-symbol.word
answers c = λ pushed h.
    rw (take_all c.loop-symbol.symbol-index c.args.word.now (omega (arith, c.loop-symbol.invariant.size)), take_all c.loop-symbol.symbol-index c.loop-symbol.word (omega arith))
    at (c.loop-symbol.invariant.answers pushed h)

pub returns-clause-within : goal.returns-clause-within
returns-clause-within c =
    within_more c.args.weaver.now c.loop-symbol.weaver c.args.word.now c.loop-symbol.word c.requires.within c.requires.word c.loop-symbol.invariant.profile (returns-clause-stands c)

pub returns-clause-word : goal.returns-clause-word
returns-clause-word c =
    woven-below c.args.weaver.now c.loop-symbol.weaver c.args.word.now c.loop-symbol.word c.requires.within c.requires.word (answers c)
