use Rattle.std.proofs.Common.{rules}
use Rattle.std.proofs.lemmas.Result.{err_from_is_err_and}
use Rattle.hpe_io.proofs.FullSinks.{full_inside}
use Rattle.hpe_uses.proofs.SentFrames.{send_cause}
use Rattle.hpe_uses.proofs.send_frames.sent_slots.Goals as goal

pub returns-in_err-send-clause-cause : goal.returns-in_err-send-clause-cause
returns-in_err-send-clause-cause c =
    let e = err_from_is_err_and c.from_residual-in_err-send.result c.from_residual-in_err-send.ensures.1 in
    let s = c.in_err-send.ensures in
    rw (e.1, e.2)
    (send_cause c.in_ok-sender.sender c.args.p.now c.in_ok-input.input.left c.args.frames.now c.send.new.input.left c.args.room c.in_ok-output.output c.send.new.output
    c.in_err-send.field-0.0 (search rules) (search rules)
    (record {
      empty = search rules;
      none = search rules;
      size = search rules;
      mark = s.output.same_mark;
      full = full_inside c.output.inside c.send.new.output c.output.view_is c.output.invariant;
    })
    (record { read = s.read; write = s.write; cut = s.cut; ragged = s.ragged; long = s.long }))
