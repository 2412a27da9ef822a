use Rattle.std.proofs.Common.{rules}
use Rattle.std.proofs.lemmas.Result.{err_from_is_err_and}
use Rattle.hpe_io.proofs.FullSinks.{full_inside}
use Rattle.hpe_uses.proofs.ReceivedCounts.{receive_cause}
use Rattle.hpe_uses.proofs.receive_frames.received_frames.Goals as goal

pub returns-in_err-frames-clause-cause : goal.returns-in_err-frames-clause-cause
returns-in_err-frames-clause-cause g c =
    let e = err_from_is_err_and c.from_residual-in_err-frames.result c.from_residual-in_err-frames.ensures.1 in
    rw (e.1, e.2) tt

pub returns-in_err-report-clause-cause : goal.returns-in_err-report-clause-cause
returns-in_err-report-clause-cause g c =
    let e = err_from_is_err_and c.from_residual-in_err-report.result c.from_residual-in_err-report.ensures.1 in
    rw (e.1, e.2) tt

pub returns-in_err-tally-clause-cause : goal.returns-in_err-tally-clause-cause
returns-in_err-tally-clause-cause g c =
    let e = err_from_is_err_and c.from_residual-in_err-tally.result c.from_residual-in_err-tally.ensures.1 in
    let s = c.in_err-tally.ensures in
    rw (e.1, e.2)
    (receive_cause c.in_ok-receiver.receiver.parameters c.args.p.now c.in_ok-input.input.left c.args.counts.now c.receive.new.input.left c.args.room
    c.in_ok-frames.frames c.receive.new.frames c.in_ok-report.report c.receive.new.report
    c.in_err-tally.field-0.0 c.in_ok-receiver.ensures.profile (search rules)
    (record {
      empty = search rules;
      none = search rules;
      size = search rules;
      mark = s.frames_stand.same_mark;
      full = full_inside c.frames-2.inside c.receive.new.frames c.frames-2.view_is c.frames-2.invariant;
    })
    (record {
      empty = search rules;
      none = search rules;
      size = search rules;
      mark = s.report_stands.same_mark;
      full = full_inside c.report.inside c.receive.new.report c.report.view_is c.report.invariant;
    })
    (record { cause = s.cause; cut = s.cut; dark = s.no_marker; long = s.long }))
