use Rattle.std.specs.Io.KnownBytes.{Keeps}
use Rattle.hpe_io.proofs.system.read_some.Given as goal

abbrev pub invariant-tries : goal.invariant-tries
invariant-tries g l = Keeps (g.R.Read.remaining l.initial.reader) (g.R.Read.remaining l.reader)

abbrev pub decreases-tries : goal.decreases-tries
decreases-tries g l = l.patience.left
