use Rattle.std.specs.Io.KnownBytes.{Keeps}
use Rattle.hpe_io.proofs.system.flush.Given as goal

abbrev pub invariant-tries : goal.invariant-tries
invariant-tries g l = Keeps (g.W.Write.contents l.initial.writer) (g.W.Write.contents l.writer)

abbrev pub decreases-tries : goal.decreases-tries
decreases-tries g l = l.patience.left
