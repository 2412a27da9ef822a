use Rattle.std.proofs.Common.{◌∙◌, arith, ap, sym, get_or}
use Rattle.hpe_block.specs.Division.{divided}
use Rattle.hpe_block.proofs.Division.{divided_by-none, divided_by-more}
use Rattle.hpe_block.proofs.check.divide_bits.Goals as goal

pub loop-bit-init : goal.loop-bit-init
loop-bit-init c = sym (divided_by-none c.args.check c.args.register c.args.bits.now)

pub loop-bit-preserved : goal.loop-bit-preserved
loop-bit-preserved c =
    c.divide_bit-register.ensures ∙ (ap (λ r. divided c.args.check r (get_or c.args.bits.now c.loop-bit.bit-index 0)) c.loop-bit.invariant
    ∙ sym (divided_by-more c.args.check c.args.register c.args.bits.now c.loop-bit.bit-index (omega arith)))
