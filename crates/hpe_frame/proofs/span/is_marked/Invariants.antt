use Rattle.std.proofs.Common.{◌≡◌, take}
use Rattle.hpe_base.specs.Bits.{bits_of}
use Rattle.hpe_frame.proofs.span.is_marked.Given as goal

abbrev pub invariant-loop-i : goal.invariant-loop-i
invariant-loop-i l = take l.i l.bits ≡ take l.i (bits_of 32 l.marker)
