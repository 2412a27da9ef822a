use Rattle.std.proofs.Common.{arith, ap, ◌≡◌, ◌∙◌}
use Rattle.hpe_base.specs.Randomiser.{randomised}
use Rattle.hpe_block.proofs.Mixing.{Mixing, Mixing-none, Mixing-more, Mixing-all, Mixing-bits, randomised_twice}
use Rattle.hpe_block.proofs.randomiser.randomise.Goals as goal

pub loop-bit-init : goal.loop-bit-init
loop-bit-init c = rw (c.reverse_bits-register.ensures, c.seed.ensures.value) (Mixing-none _ _ _)

pub loop-bit-preserved : goal.loop-bit-preserved
loop-bit-preserved c =
    Mixing-more _ _ c.loop-bit.bit-index c.args.bits.now c.loop-bit.bits c.loop-bit.register _ (omega arith) (omega arith) c.requires.bits
    c.stepped-register.ensures.moved c.stepped-register.ensures.entered c.loop-bit.invariant

pub returns : goal.returns
returns c =
    let mixing : Mixing c.taps-taps.result c.args.p.now.seed c.loop-bit.bit-index c.args.bits.now c.loop-bit.bits c.loop-bit.register = c.loop-bit.invariant in
    let sum : c.loop-bit.bits ≡ randomised c.args.p.now c.args.bits.now =
    rw (← c.taps-taps.ensures.value) (Mixing-all _ _ c.loop-bit.bit-index c.args.bits.now c.loop-bit.bits _ (omega arith) (omega arith) mixing) in
    record {
      sum = sum;
      twice = ap (randomised c.args.p.now) sum ∙ randomised_twice c.args.p.now c.args.bits.now c.requires.bits;
      bits = Mixing-bits _ _ c.loop-bit.bit-index c.args.bits.now c.loop-bit.bits _ (omega arith) (omega arith) mixing;
    }
