use Rattle.std.proofs.Common.{◌≡◌, ◌<◌, ℕ, get_or}
use Rattle.hpe_witness.specs.Record.{bit_in}
use Rattle.hpe_witness.proofs.read.read_bits.Given as goal

abbrev pub invariant-loop-i : goal.invariant-loop-i
invariant-loop-i l = (k : ℕ) → k < l.i → get_or l.u k 0 ≡ bit_in l.octets k
