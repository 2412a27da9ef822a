use Rattle.hpe_weave.proofs.UnweaverLemmas.{AreMadeEmpty}
use Rattle.hpe_weave.proofs.unweaver.Unweaver.new.Given as goal

abbrev pub invariant-loop-row : goal.invariant-loop-row
invariant-loop-row l = AreMadeEmpty l.fn.p l.row l.rings.items
