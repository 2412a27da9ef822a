use Rattle.hpe_witness.specs.Potentials.{IsRising}
use Rattle.hpe_witness.proofs.check.rises_throughout.Given as goal

abbrev pub invariant-loop-t : goal.invariant-loop-t
invariant-loop-t l = IsRising l.columns l.l l.t l.rows
