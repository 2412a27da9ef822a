use Rattle.std.proofs.Common.{◌≡◌, drop}
use Rattle.hpe_base.specs.FrameScan.{all_known}
use Rattle.hpe_frame.proofs.span.is_known.Given as goal

abbrev pub invariant-loop-bit : goal.invariant-loop-bit
invariant-loop-bit l = all_known (drop l.bit-index l.bits) ≡ all_known l.bits
