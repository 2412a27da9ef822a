use Rattle.std.proofs.Common.{arith}
use Rattle.hpe_sim.proofs.Bounds.{slots_fit}
use Rattle.hpe_sim.proofs.simulation.slot_count.Goals as goal

pub overflow_mul-result : goal.overflow_mul-result
overflow_mul-result c =
    let m = c.geometry-measures in
    omega (arith, slots_fit c.args.p.now m.result c.args.frames c.span_bits.result c.div_ceil-words.result m.ensures.valid m.ensures.value c.requires c.span_bits.ensures.value c.div_ceil-words.ensures)

pub returns-else-words-eq0-clause-few : goal.returns-else-words-eq0-clause-few
returns-else-words-eq0-clause-few c =
    let m = c.geometry-measures in
    slots_fit c.args.p.now m.result c.args.frames c.span_bits.result c.div_ceil-words.result m.ensures.valid m.ensures.value c.requires c.span_bits.ensures.value c.div_ceil-words.ensures
