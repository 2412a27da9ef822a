use Rattle.std.proofs.Common.{◌≡◌, ◌<◌, ℕ, get_or}
use Rattle.hpe_base.specs.CodeInterleaver.{pi}
use Rattle.hpe_code.proofs.interleaver.CodeTables.interleave.Given as goal

abbrev pub invariant-loop-j : goal.invariant-loop-j
invariant-loop-j g l = (k : ℕ) (d : g.row.V.Denot) → k < l.j → get_or l.into k d ≡ get_or l.from (pi k) d
