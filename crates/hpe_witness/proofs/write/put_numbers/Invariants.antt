use Rattle.std.proofs.Common.{◌≡◌, ◌<◌, ◌+◌, ◌*◌, ℕ, drop}
use Rattle.std.specs.Int.{w16, cast_signed}
use Rattle.byteorder.specs.Endian.{big_number}
use Rattle.hpe_base.specs.Sizes.{number_at}
use Rattle.hpe_witness.specs.Record.{IsSameBelow}
use Rattle.hpe_witness.proofs.write.put_numbers.Given as goal

abbrev pub invariant-loop-i : goal.invariant-loop-i
invariant-loop-i l = record {
  numbers : (k : ℕ) → k < l.i → cast_signed w16 (big_number 2 (drop (8 + 2 * k) l.into)) ≡ number_at l.l k;
  below : IsSameBelow 8 l.fn.into l.into;
}
