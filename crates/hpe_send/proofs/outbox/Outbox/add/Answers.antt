use Rattle.hpe_io.proofs.Results.{on_err_of}
use Rattle.hpe_send.proofs.Pending.{pending_cut}
use Rattle.hpe_send.proofs.outbox.Outbox.add.Goals as goal

pub returns-in_err-flush-clause-cut : goal.returns-in_err-flush-clause-cut
returns-in_err-flush-clause-cut g c = λ start all h.
    on_err_of c.from_residual.result
    (pending_cut start (g.O.Sink.written c.args.output.now) (g.O.Sink.written c.flush.new.output) c.args.self.now all _ h c.in_err-flush.ensures.bytes)
