use Rattle.hpe_cmd.proofs.EncodeCases.{sent_cause, sent_run, unsent_cause, unsent_run}
use Rattle.hpe_cmd.proofs.encode.encode.Goals as goal

pub returns-in-Ok-send-clause-ok : goal.returns-in-Ok-send-clause-ok
returns-in-Ok-send-clause-ok g c =
    sent_run _ _ _ _ _ _ _ _ c.in-Ok.ensures c.in-Ok-send.ensures.ok c.report_sent.ensures.told

pub returns-in-Ok-send-clause-cause : goal.returns-in-Ok-send-clause-cause
returns-in-Ok-send-clause-cause g c =
    sent_cause _ _ _ _ _ c.in-Ok-send.ensures.read c.in-Ok-send.ensures.write c.report_sent.ensures.told

pub returns-in-Err-clause-ok : goal.returns-in-Err-clause-ok
returns-in-Err-clause-ok g c =
    let s = c.in-Err.ensures in
    unsent_run _ _ _ _ _ _ _ _ _ c.in-Ok.ensures c.unsent.ensures c.end.ensures.status
    s.ragged s.cut s.long c.end.ensures.said

pub returns-in-Err-clause-cause : goal.returns-in-Err-clause-cause
returns-in-Err-clause-cause g c =
    unsent_cause _ _ _ _ _ _ _ c.unsent.ensures c.end.ensures.status c.in-Err.ensures.read c.in-Err.ensures.write
