use Rattle.std.proofs.Common.{rules, ◌≡◌, ◌^◌, ◌∙◌, ap, refl, Err}
use Rattle.hpe_recv.specs.declared.receiver.RecvFault.TheVariants.{Write, Report}
use Rattle.hpe_sim.proofs.Received.{never_full, received_front}
use Rattle.hpe_sim.proofs.link.receive_counts.Goals as goal

pub unreachable-requires : goal.unreachable-requires
unreachable-requires g c =
    let wrote : c.in-Err-Write.field-0 ≡ Write = search rules in
    let failed : c.receive-ended.result ≡ Err Write = c.in-Err-Write.is ∙ ap Err wrote in
    let h = c.receive-ended.ensures in
    let f = c.requires.frames in
    never_full c.args.receiver.now.parameters (2 ^ 40) c.args.input.now.left c.receive-ended.new.input.left c.args.frames.now c.receive-ended.new.frames
    (g.R.Sink.written c.args.report.now) (g.R.Sink.written c.receive-ended.new.report) (g.R.Sink.faults c.args.report.now) (g.R.Sink.faults c.receive-ended.new.report) c.receive-ended.result
    c.requires.few c.requires.room
    (record { empty = f.0; none = f.1; size = refl; mark = h.frames_stand.same_mark; full = c.bytes-written.ensures.full }) failed h.cause h.cut

pub returns-in-Err-Report-clause-report : goal.returns-in-Err-Report-clause-report
returns-in-Err-Report-clause-report g c =
    let told : c.in-Err-Report.field-0 ≡ Report = search rules in
    let failed : c.receive-ended.result ≡ Err Report = c.in-Err-Report.is ∙ ap Err told in
    received_front c.args.receiver.now.parameters (2 ^ 40) c.args.input.now.left c.receive-ended.new.input.left _ _ _ _ c.receive-ended.result c.requires.few failed c.receive-ended.ensures.cut
