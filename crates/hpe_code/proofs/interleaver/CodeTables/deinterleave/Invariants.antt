use Rattle.hpe_code.proofs.Moves.{MovedSoFar}
use Rattle.hpe_code.proofs.interleaver.CodeTables.deinterleave.Given as goal

abbrev pub invariant-loop-j : goal.invariant-loop-j
invariant-loop-j g l = MovedSoFar l.from l.j l.into
