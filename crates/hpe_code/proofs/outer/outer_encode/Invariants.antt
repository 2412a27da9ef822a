use Rattle.hpe_code.proofs.Encoding.{Encoding}
use Rattle.hpe_code.proofs.outer.outer_encode.Given as goal

abbrev pub invariant-loop-bit : goal.invariant-loop-bit
invariant-loop-bit l = Encoding l.columns l.u l.kept l.bit-index l.column l.at l.last l.before
