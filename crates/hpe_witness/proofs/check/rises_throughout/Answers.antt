use Rattle.std.proofs.Common.{arith, ◌+◌, ◌≤◌}
use Rattle.hpe_trellis.specs.OuterTrellis.{kept_before}
use Rattle.hpe_trellis.proofs.Recursion.{before-mono}
use Rattle.hpe_witness.proofs.Potentials.{rising-more, falls-here}
use Rattle.hpe_witness.proofs.check.rises_throughout.Goals as goal

pub numbers_at-requires-clause-room : goal.numbers_at-requires-clause-room
numbers_at-requires-clause-room c =
    let m : kept_before c.args.columns.now (c.loop-t.t + 1) ≤ kept_before c.args.columns.now c.args.steps = before-mono c.args.columns.now c.args.steps (c.loop-t.t + 1) (omega arith) in
    omega (arith, m, c.requires.l)

pub returns-then-not-rises_at-clause-falls : goal.returns-then-not-rises_at-clause-falls
returns-then-not-rises_at-clause-falls c = λ _.
    falls-here c.args.columns.now c.args.l.now c.args.steps c.loop-t.t c.numbers_at.result c.args.rows.now c.numbers_at.ensures.edge c.loop-t-test.true (c.rises_at.ensures.falls c.if-not-rises_at.true)

pub loop-t-preserved : goal.loop-t-preserved
loop-t-preserved c =
    rising-more c.args.columns.now c.args.l.now c.loop-t.t c.numbers_at.result c.args.rows.now c.numbers_at.ensures.edge c.loop-t.invariant (c.rises_at.ensures.rises c.if-not-rises_at.false)
