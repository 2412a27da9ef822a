use Rattle.std.proofs.Common.{rules, ◌+◌, ◌∙◌, ap, refl, arith}
use Rattle.hpe_base.specs.Parameters.{codeword_symbols}
use Rattle.hpe_io.proofs.Results.{on_err_of}
use Rattle.hpe_send.specs.Coding.{Coding}
use Rattle.hpe_send.proofs.Coded.{coded_same, zeros-more, zeros-none, flush_cut, flushed}
use Rattle.hpe_send.proofs.Pending.{put_ok, put_err}
use Rattle.hpe_send.proofs.coder.Coder.finish.Goals as goal

pub loop-init : goal.loop-init
loop-init g c = record {
  profile = refl;
  coded = λ n symbols start h. coded_same c.args.self.now n (n + 0) symbols _ start _ (omega arith) (zeros-none symbols _) h;
  output = search rules;
}

pub loop-preserved : goal.loop-preserved
loop-preserved g c =
    let i = c.loop.invariant in
    record {
      profile = c.send_flush.ensures.profile ∙ i.profile;
      coded = λ n symbols start h. coded_same c.send_flush.new.self (n + c.loop.counter + 1) (n + (c.loop.counter + 1)) _ _ start _ (omega arith)
          (zeros-more symbols c.loop.counter (codeword_symbols c.args.self.now.parameters.order))
          (rw i.profile at (c.in_ok-send_flush.ensures.ok (n + c.loop.counter) _ start (i.coded n symbols start h)));
      output = search rules;
    }

pub returns-in_err-send_flush-clause-cut : goal.returns-in_err-send_flush-clause-cut
returns-in_err-send_flush-clause-cut g c = λ n symbols start h.
    let i = c.loop.invariant in
    on_err_of c.from_residual.result
    (flush_cut c.args.self.now n c.loop.counter c.args.count symbols start _ _ h c.loop-test.true
    (rw i.profile at (c.in_err-send_flush.ensures.cut (n + c.loop.counter) _ start (i.coded n symbols start h))))

pub returns-clause-ok : goal.returns-clause-ok
returns-clause-ok g c = λ n symbols start h.
    let i = c.loop.invariant in
    put_ok c.flush.result start _ _ _ _ _ (flushed c.args.self.now.parameters c.loop.self.parameters n c.loop.counter c.args.count symbols i.profile (omega arith))
    (i.coded n symbols start h).pending (rw (ap (λ (s : Coding). s.held) c.self.view_is) at c.flush.ensures.bytes)

pub returns-clause-cut : goal.returns-clause-cut
returns-clause-cut g c = λ n symbols start h.
    let i = c.loop.invariant in
    put_err c.flush.result start _ _ _ _ _ (flushed c.args.self.now.parameters c.loop.self.parameters n c.loop.counter c.args.count symbols i.profile (omega arith))
    (i.coded n symbols start h).pending (rw (ap (λ (s : Coding). s.held) c.self.view_is) at c.flush.ensures.bytes)
