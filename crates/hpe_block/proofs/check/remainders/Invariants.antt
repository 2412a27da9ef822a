use Rattle.std.proofs.Common.{◌≡◌, ◌<◌, ℕ, length, get_or}
use Rattle.hpe_base.specs.Bits.{bits_of}
use Rattle.hpe_block.specs.Division.{divided_by}
use Rattle.hpe_block.proofs.check.remainders.Given as goal

abbrev pub invariant-loop-octet : goal.invariant-loop-octet
invariant-loop-octet l = (length l.table ≡ 256) × ((k : ℕ) → k < l.octet → get_or l.table k 0 ≡ divided_by l.check 0 (bits_of 8 k))
