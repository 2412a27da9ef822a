use Rattle.std.proofs.Common.{◌≡◌, ◌<◌, ◌+◌, ◌*◌, ℕ, [], get_or}
use Rattle.hpe_witness.specs.Record.{row_at}
use Rattle.hpe_witness.proofs.read.read_rows.Given as goal

abbrev pub invariant-loop-t : goal.invariant-loop-t
invariant-loop-t l = (k : ℕ) → k < l.t → get_or l.rows k [] ≡ row_at l.octets (l.from + 16 * k)
