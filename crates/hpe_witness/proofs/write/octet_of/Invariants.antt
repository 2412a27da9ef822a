use Rattle.std.proofs.Common.{◌≡◌, ◌<◌, ◌+◌, ◌-◌, ◌^◌, ℕ, get_or}
use Rattle.std.specs.Int.{bit_at}
use Rattle.hpe_base.specs.Termination.{terminated}
use Rattle.hpe_witness.proofs.write.octet_of.Given as goal

abbrev pub invariant-loop-i : goal.invariant-loop-i
invariant-loop-i l = record {
  few : l.octet < 2 ^ l.i;
  bits : (k : ℕ) → k < l.i → bit_at l.octet (l.i - 1 - k) ≡ get_or (terminated l.u) (l.first + k) 0;
}
