use Rattle.std.proofs.Common.{◌≡◌, ◌≤◌, arith, refl, length}
use Rattle.std.proofs.lemmas.List.{length-take-le}
use Rattle.hpe_base.specs.Codeword.{codeword}
use Rattle.hpe_base.specs.CodeInterleaver.{interleaved}
use Rattle.hpe_base.specs.Parameters.{code_steps}
use Rattle.hpe_base.proofs.ParameterLemmas.{code_steps-le}
use Rattle.hpe_base.proofs.KeptLength.{length-code_bits}
use Rattle.hpe_word.proofs.Woven.{interleaved_is, interleaved_bits}
use Rattle.hpe_word.proofs.word.encode_word.Goals as goal

pub outer_encode-requires-clause-size : goal.outer_encode-requires-clause-size
outer_encode-requires-clause-size c =
    let steps : c.steps.result ≡ code_steps c.args.p.now.rate = rw (c.steps.ensures, c.rate.ensures.value) refl in
    let room : c.steps.result ≤ length c.blank_closed-room.result = omega (arith, code_steps-le c.args.p.now.rate) in
    let long : length c.close_block.new.into ≡ code_steps c.args.p.now.rate = omega (arith, length-take-le c.steps.result c.blank_closed-room.result room) in
    rw (c.blank_codeword-kept.ensures, c.columns.ensures.value, length-code_bits c.args.p.now c.close_block.new.into c.rate.ensures.valid long) refl

pub accumulate-requires : goal.accumulate-requires
accumulate-requires c = interleaved_bits c.outer_encode.new.kept c.interleave.new.into (omega arith) (omega arith) c.outer_encode.ensures.bits c.interleave.ensures

pub returns-clause-value : goal.returns-clause-value
unfolding codeword
returns-clause-value c =
    let woven : c.interleave.new.into ≡ interleaved c.outer_encode.new.kept = interleaved_is c.outer_encode.new.kept c.interleave.new.into (omega arith) c.interleave.ensures in
    rw (c.symbols_of.ensures.value, c.accumulate.ensures.sums, woven, c.outer_encode.ensures.code, c.columns.ensures.value, c.close_block.ensures.closed, c.order.ensures.value) refl

pub returns-clause-below : goal.returns-clause-below
returns-clause-below c = rw (← c.order.ensures.value) c.symbols_of.ensures.below
