use Rattle.std.proofs.Common.{arith, subst, sym, ◌≡◌, length}
use Rattle.hpe_base.specs.Bits.{AreBits, bits_of}
use Rattle.hpe_base.proofs.BitLists.{bits_of_from_places, are_bits-bits_of}
use Rattle.hpe_base.proofs.bits.write_bits.Goals as goal

pub returns : goal.returns
returns c =
    let value : c.loop-i.into ≡ bits_of (length c.args.into.now) c.args.number =
    bits_of_from_places (length c.args.into.now) c.args.number c.loop-i.into c.loop-i.auto.into (λ k h. c.loop-i.invariant k (omega arith)) in
    record { value = value; bits = subst AreBits (sym value) (are_bits-bits_of (length c.args.into.now) c.args.number) }
