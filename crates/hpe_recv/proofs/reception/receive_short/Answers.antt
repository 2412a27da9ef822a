use Rattle.std.proofs.Common.{◌∙◌, ap, length, refl, sym}
use Rattle.hpe_io.proofs.Results.{on_err_of}
use Rattle.hpe_recv.proofs.Counting.{counted_count}
use Rattle.hpe_recv.proofs.Received.{short_cut, short_all}
use Rattle.hpe_recv.proofs.reception.receive_short.Goals as goal

pub returns-in_err-put_line-clause-cut : goal.returns-in_err-put_line-clause-cut
returns-in_err-put_line-clause-cut g c = λ written start left come.
    on_err_of c.from_residual.result
    (short_cut c.args.finder.now.parameters c.args.finder.now.counts c.tally_line.result.bytes (length c.counts.result.now) c.args.intake.now c.requires.profile c.args.intake.now.octets.limit refl
    (ap length c.counts.ensures ∙ sym (counted_count _ _ _ _ come)) start left come c.requires.within written _ _
    c.odd.result c.odd.ensures.value c.requires.found c.tally_line.ensures.text c.in_err-put_line.ensures.bytes)

pub returns-clause-ok : goal.returns-clause-ok
returns-clause-ok g c = λ written start left come ended.
    short_all c.args.finder.now.parameters c.args.finder.now.counts c.tally_line.result.bytes (length c.counts.result.now) c.args.intake.now c.requires.profile c.args.intake.now.octets.limit refl
    (ap length c.counts.ensures ∙ sym (counted_count _ _ _ _ come)) start left come c.requires.within written _ _
    c.odd.result c.odd.ensures.value c.requires.found c.tally_line.ensures.text ended c.in_ok-put_line.ensures.bytes
