use Rattle.std.proofs.Common.{◌<◌, ◌+◌, ◌*◌, arith, ◌∙◌, sym, ap, take, get_or}
use Rattle.std.proofs.lemmas.List.{take_more}
use Rattle.std.proofs.lemmas.List.Elements.{All-get_or}
use Rattle.hpe_base.specs.Bits.{number_of}
use Rattle.hpe_base.proofs.Numbers.{number_of-push, double_below}
use Rattle.hpe_base.proofs.bits.number_of.Goals as goal

pub loop-bit-preserved : goal.loop-bit-preserved
loop-bit-preserved c =
    let bit : get_or c.args.bits.now c.loop-bit.bit-index 0 < 2 = All-get_or (λ b. b < 2) c.args.bits.now c.loop-bit.bit-index 0 (omega arith) c.requires.bits in (
      ap (λ n. n * 2 + get_or c.args.bits.now c.loop-bit.bit-index 0) c.loop-bit.invariant.0
          ∙ (sym (number_of-push (take c.loop-bit.bit-index c.args.bits.now) _) ∙ ap number_of (sym (take_more c.args.bits.now c.loop-bit.bit-index 0 (omega arith)))),
      double_below c.loop-bit.bit-index _ _ c.loop-bit.invariant.1 bit,
    )
