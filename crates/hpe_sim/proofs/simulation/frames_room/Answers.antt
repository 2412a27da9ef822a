use Rattle.std.proofs.Common.{arith}
use Rattle.hpe_base.proofs.ParameterLemmas.{period-pos, period_is}
use Rattle.hpe_sim.proofs.simulation.frames_room.Goals as goal

pub nonzero_div-result : goal.nonzero_div-result
nonzero_div-result c =
    let m = c.geometry-measures in omega (arith, period_is m.result c.args.p.now m.ensures.value, period-pos c.args.p.now m.ensures.valid)
