use Rattle.std.proofs.Common.{◌∙◌, ap, sym, subst, drop, option_copied}
use Rattle.std.specs.Io.KnownBytes.{append_known}
use Rattle.hpe_base.specs.Parameters.{block_bits}
use Rattle.hpe_io.specs.Devices.{GrowsByFront}
use Rattle.hpe_io.proofs.Fronts.{front_after, all_after}
use Rattle.hpe_frame.proofs.Standing.{delivered-push, newly_step, count_step, stands_step}
use Rattle.hpe_frame.proofs.scan.FrameScan.block.Goals as goal

pub returns-in-Ok-clause-stands : goal.returns-in-Ok-clause-stands
returns-in-Ok-clause-stands g c = λ blocks was.
    stands_step _ blocks (option_copied c.args.known) c.block-size.result c.as_slice.result.now (rw (← c.self.view_is) at was) (c.block-size.ensures ∙ ap block_bits c.rate.ensures.value)
    (c.as_slice.ensures.value ∙ c.append_block.ensures.items) c.in-Ok.run'.at c.in-Ok.run'.delivered c.in-Ok.run'.grid c.in-Ok.ensures.run _ _
    (c.remove_front.ensures.items ∙ ap (drop c.in-Ok.run'.at) (sym c.as_slice.ensures.value))

pub returns-in-Ok-clause-count : goal.returns-in-Ok-clause-count
returns-in-Ok-clause-count g c = λ blocks was.
    rw (← c.self.view_is) (count_step _ blocks (option_copied c.args.known) c.block-size.result c.as_slice.result.now (rw (← c.self.view_is) at was) (c.block-size.ensures ∙ ap block_bits c.rate.ensures.value)
    (c.as_slice.ensures.value ∙ c.append_block.ensures.items) c.in-Ok.run'.at c.in-Ok.run'.delivered c.in-Ok.run'.grid c.in-Ok.ensures.run)

pub returns-in-Ok-clause-bytes : goal.returns-in-Ok-clause-bytes
returns-in-Ok-clause-bytes g c = λ blocks was.
    c.in-Ok.ensures.bytes ∙ ap (append_known (g.O.Sink.written c.args.out.now)) (rw (← c.self.view_is) (sym (newly_step _ blocks (option_copied c.args.known) c.block-size.result c.as_slice.result.now (rw (← c.self.view_is) at was) (c.block-size.ensures ∙ ap block_bits c.rate.ensures.value)
    (c.as_slice.ensures.value ∙ c.append_block.ensures.items))))

pub returns-in-Ok-clause-grows : goal.returns-in-Ok-clause-grows
returns-in-Ok-clause-grows g c = λ blocks. delivered-push c.args.self.now.parameters blocks (option_copied c.args.known)

pub returns-in-Ok-clause-written : goal.returns-in-Ok-clause-written
returns-in-Ok-clause-written g c = λ start blocks was so_far.
    all_after start _ _ _ _ so_far (returns-in-Ok-clause-bytes g c blocks was) ∙ ap (append_known start) (sym (delivered-push c.args.self.now.parameters blocks (option_copied c.args.known)))

pub returns-in-Err-clause-bytes : goal.returns-in-Err-clause-bytes
returns-in-Err-clause-bytes g c = λ blocks was.
    subst (GrowsByFront (g.O.Sink.written c.args.out.now) (g.O.Sink.written c.scan_on.new.out)) (rw (← c.self.view_is) (sym (newly_step _ blocks (option_copied c.args.known) c.block-size.result c.as_slice.result.now (rw (← c.self.view_is) at was) (c.block-size.ensures ∙ ap block_bits c.rate.ensures.value)
    (c.as_slice.ensures.value ∙ c.append_block.ensures.items)))) c.in-Err.ensures.bytes

pub returns-in-Err-clause-grows : goal.returns-in-Err-clause-grows
returns-in-Err-clause-grows g c = λ blocks. delivered-push c.args.self.now.parameters blocks (option_copied c.args.known)

pub returns-in-Err-clause-written : goal.returns-in-Err-clause-written
returns-in-Err-clause-written g c = λ start blocks was so_far.
    subst (GrowsByFront start (g.O.Sink.written c.scan_on.new.out)) (sym (delivered-push c.args.self.now.parameters blocks (option_copied c.args.known)))
    (front_after start _ _ _ _ so_far (returns-in-Err-clause-bytes g c blocks was))
