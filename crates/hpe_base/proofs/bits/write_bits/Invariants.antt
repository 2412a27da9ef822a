use Rattle.std.proofs.Common.{◌≡◌, ◌<◌, ◌-◌, ℕ, get_or, length}
use Rattle.std.specs.Int.{bit_at}
use Rattle.hpe_base.proofs.bits.write_bits.Given as goal

abbrev pub invariant-loop-i : goal.invariant-loop-i
invariant-loop-i l = (k : ℕ) → k < l.i → get_or l.into k 0 ≡ bit_at l.number (length l.initial.into - 1 - k)
