use Rattle.hpe_cmd.proofs.SimulateCases.{simulated_run}
use Rattle.hpe_cmd.proofs.simulate.simulate.Goals as goal

pub returns-clause-ok : goal.returns-clause-ok
returns-clause-ok g c =
    let a = c.simulate-answer in
    simulated_run g.O.Sink.written g.O.Sink.faults g.R.Sink.written g.R.Sink.faults
    c.args.output.now a.new.output c.args.report.now a.new.report c.end.new.report
    c.args.p.now c.args.asked.now.limit c.args.asked.now.task a.result c.ending_of.result c.in_ok-ending.ending
    c.end.result c.in_ok-ending.was c.ending_of.ensures c.end.ensures.status
    a.ensures.answer a.ensures.long a.ensures.report a.ensures.output a.ensures.report_cause c.end.ensures.said
