use Rattle.std.proofs.Common.{rules, ◌++◌, ◌∙◌, arith, take}
use Rattle.std.proofs.lemmas.List.{take_all}
use Rattle.hpe_send.proofs.Stepped.{next-front}
use Rattle.hpe_io.proofs.Results.{on_err_of}
use Rattle.hpe_send.proofs.Taken.{octets_cut}
use Rattle.hpe_send.proofs.chain.Chain.take.Goals as goal

pub loop-octet-preserved : goal.loop-octet-preserved
loop-octet-preserved g c =
    let i = c.loop-octet.invariant in
    let piece = c.args.piece.now in
    let n = c.loop-octet.octet-index in
    record {
      profile = c.octet.ensures.profile ∙ i.profile;
      taken = λ fed start h. rw (next-front fed piece n c.loop-octet-test.true) at (c.in_ok-octet.ensures.ok (fed ++ take n piece) start (i.taken fed start h));
      output = search rules;
    }

pub returns-in_err-octet-clause-cut : goal.returns-in_err-octet-clause-cut
returns-in_err-octet-clause-cut g c = λ fed start h.
    let i = c.loop-octet.invariant in
    on_err_of c.from_residual.result
    (octets_cut c.args.self.now.coder.parameters c.loop-octet.self.coder.parameters fed c.args.piece.now c.loop-octet.octet-index start _ i.profile c.loop-octet-test.true
    h.pushed.coded.valid (c.in_err-octet.ensures.cut (fed ++ take c.loop-octet.octet-index c.args.piece.now) start (i.taken fed start h)))

pub returns-clause-ok : goal.returns-clause-ok
returns-clause-ok g c = λ fed start h.
    rw (take_all c.loop-octet.octet-index c.args.piece.now (omega arith)) at (c.loop-octet.invariant.taken fed start h)
