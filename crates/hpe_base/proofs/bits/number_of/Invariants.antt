use Rattle.std.proofs.Common.{◌≡◌, ◌<◌, ◌^◌, take}
use Rattle.hpe_base.specs.Bits.{number_of}
use Rattle.hpe_base.proofs.bits.number_of.Given as goal

abbrev pub invariant-loop-bit : goal.invariant-loop-bit
invariant-loop-bit l = (l.number ≡ number_of (take l.bit-index l.bits)) × (l.number < 2 ^ l.bit-index)
