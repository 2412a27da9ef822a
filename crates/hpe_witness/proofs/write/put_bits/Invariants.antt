use Rattle.std.proofs.Common.{◌≡◌, ◌<◌, ◌*◌, ℕ, get_or}
use Rattle.hpe_base.specs.Termination.{terminated}
use Rattle.hpe_witness.specs.Record.{bits_place, bit_in, IsSameBelow}
use Rattle.hpe_witness.proofs.write.put_bits.Given as goal

abbrev pub invariant-loop-k : goal.invariant-loop-k
invariant-loop-k l = record {
  bits : (i : ℕ) → i < l.k * 8 → bit_in l.into i ≡ get_or (terminated l.u) i 0;
  below : IsSameBelow bits_place l.fn.into l.into;
}
