use Rattle.std.proofs.Common.{◌≡◌}
use Rattle.hpe_rows.proofs.tests.in_pieces.Given as goal

abbrev pub invariant-loop : goal.invariant-loop
invariant-loop g l = l.rows.parameters ≡ l.fn.p
