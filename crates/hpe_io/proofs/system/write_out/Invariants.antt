use Rattle.std.proofs.Common.{◌-◌, ◌+◌, length}
use Rattle.hpe_io.proofs.Passing.{WrittenSoFar}
use Rattle.hpe_io.proofs.system.write_out.Given as goal

abbrev pub invariant-writes : goal.invariant-writes
invariant-writes g l = WrittenSoFar (g.W.Write.contents l.initial.writer) (g.W.Write.contents l.writer) l.piece l.at

abbrev pub decreases-writes : goal.decreases-writes
decreases-writes g l = length l.piece - l.at + l.patience.left
