use Rattle.hpe_cmd.proofs.ActCases.{simulation_asked}
use Rattle.hpe_cmd.proofs.Completeness.{followed, stopped}
use Rattle.hpe_cmd.proofs.run.run.Goals as goal

pub returns-in-Ok-clause-simulate : goal.returns-in-Ok-clause-simulate
returns-in-Ok-clause-simulate g c = λ r is act late.
    let done = c.in-Ok.ensures.ok in
    let asked = simulation_asked _ _ _ _ _ _ done.0 r done.2 done.1 is act done.3 done.4 in
    (done.2, asked.0, asked.1)

pub returns-in-Ok-clause-complete : goal.returns-in-Ok-clause-complete
returns-in-Ok-clause-complete g c =
    followed _ _ _ _ _ _ _ _ c.in-Ok.ensures.ok c.in-Ok.ensures.cause.1

pub returns-in-Err-clause-complete : goal.returns-in-Err-clause-complete
returns-in-Err-clause-complete g c =
    stopped _ _ _ _ _ _ _ _ _ c.end-status.ensures.status c.in-Err.ensures.cause.0 c.in-Err.ensures.profile
