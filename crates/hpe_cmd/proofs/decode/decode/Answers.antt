use Rattle.std.proofs.Common.{ap}
use Rattle.hpe_cmd.proofs.DecodeCases.{received_cause, received_run}
use Rattle.hpe_cmd.proofs.decode.decode.Goals as goal

pub returns-clause-ok : goal.returns-clause-ok
returns-clause-ok g c =
    let a = c.receive-answer.ensures in
    received_run _ _ _ _ _ _ _ _ _ _ _ _ c.in-Ok.ensures.profile c.ending_of.ensures c.end.ensures.status
    c.in-Ok.ensures.valid a.ok a.no_marker (a.cut, a.lines, a.long) a.cause c.end.ensures.said

pub returns-clause-cause : goal.returns-clause-cause
returns-clause-cause g c =
    received_cause _ _ _ _ _ _ _ _ c.ending_of.ensures c.end.ensures.status c.receive-answer.ensures.cause
    (λ none. ap g.R.Sink.faults (c.end.ensures.silent none))
