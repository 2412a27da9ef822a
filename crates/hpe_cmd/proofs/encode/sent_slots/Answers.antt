use Rattle.hpe_cmd.proofs.Counting.{slots_fit}
use Rattle.hpe_cmd.proofs.encode.sent_slots.Goals as goal

pub overflow_mul-result : goal.overflow_mul-result
overflow_mul-result c =
    rw (c.geometry-measures.ensures.value)
    (slots_fit c.args.p.now c.geometry-measures.ensures.valid c.args.words c.requires)
