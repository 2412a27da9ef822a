use Rattle.std.proofs.Common.{arith}
use Rattle.hpe_witness.proofs.Potentials.{along-more}
use Rattle.hpe_witness.proofs.check.rises_at.Goals as goal
use Rattle.hpe_witness.proofs.check.rises_at.Goals.{then-not-rises_along-via-then-not-rises_along, then-not-rises_along-via-else-not-rises_along+then-not-rises_along-2}

pub returns-then-not-rises_along-clause-falls : goal.returns-then-not-rises_along-clause-falls
returns-then-not-rises_along-clause-falls c = λ _.
    elim c.then-not-rises_along.branch [
      | then-not-rises_along-via-then-not-rises_along w ↦ record { state = c.loop-state.state; input = 0; state_low = c.loop-state-test.true; input_low = omega arith; falls = c.rises_along.ensures.falls w.if-not-rises_along.true }
      | then-not-rises_along-via-else-not-rises_along+then-not-rises_along-2 w ↦ record { state = c.loop-state.state; input = 1; state_low = c.loop-state-test.true; input_low = omega arith; falls = w.rises_along-else-not-rises_along.ensures.falls w.if-not-rises_along-2.true }
    ]

pub loop-state-preserved : goal.loop-state-preserved
loop-state-preserved c =
    along-more c.args.row.now c.args.l c.args.next.now c.loop-state.state c.loop-state.invariant (c.rises_along.ensures.rises c.if-not-rises_along.false) (c.rises_along-else-not-rises_along.ensures.rises c.if-not-rises_along-2.false)
