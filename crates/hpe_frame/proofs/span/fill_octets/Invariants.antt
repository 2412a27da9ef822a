use Rattle.std.proofs.Common.{◌≡◌, ◌<◌, ℕ, get_or}
use Rattle.hpe_frame.proofs.SpanBits.{octet_at}
use Rattle.hpe_frame.proofs.span.fill_octets.Given as goal

abbrev pub invariant-loop-i : goal.invariant-loop-i
invariant-loop-i l = (k : ℕ) → k < l.i → get_or l.into k 0 ≡ octet_at l.bits k
