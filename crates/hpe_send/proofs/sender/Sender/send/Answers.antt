use Rattle.std.proofs.Common.{rules, ◌≡◌, ◌<◌, ◌+◌, ◌%◌, ◌++◌, ◌∙◌, ℕ, List, length, ap, sym, arith, refl, []}
use Rattle.std.proofs.lemmas.Result.{err_from_is_err_and}
use Rattle.hpe_base.specs.Slots.{slots_of}
use Rattle.hpe_io.proofs.Fronts.{grows_some}
use Rattle.hpe_io.proofs.Taking.{come_count, come_most}
use Rattle.hpe_send.proofs.Ended.{counts_are, has_ended, sends}
use Rattle.hpe_send.proofs.LeftOff.{cut_of, no_sent, no_rest, read_of, write_of, long_of, cut_within, cut_stopped, cut_piece}
use Rattle.hpe_send.specs.Sending.{Sends}
use Rattle.hpe_send.proofs.sender.Sender.send.Goals as goal

pub loop-intake-init : goal.loop-intake-init
loop-intake-init g c = record {
  sending = record {
    octets = [];
    come = c.begin.ensures.come _;
    taken = c.self.invariant.stands _;
    same = c.self.view_is;
    limits = rw (c.begin.ensures.fresh) refl;
    within = rw (c.begin.ensures.fresh) (omega arith);
  };
  input = search rules;
  output = search rules;
}

pub loop-intake-preserved : goal.loop-intake-preserved
loop-intake-preserved g c =
    let s = c.loop-intake.invariant.sending in
    let h = c.in_ok-next.ensures in
    record {
      sending = record {
        octets = s.octets ++ c.next.new.self.piece;
        come = h.come _ s.octets s.come;
        taken = rw (c.piece.ensures) at (c.in_ok-take.ensures.ok s.octets _ s.taken);
        same = c.take.ensures.profile ∙ s.same;
        limits = c.next.ensures.limit ∙ s.limits;
        within = omega (arith, h.within, s.limits);
      };
      input = search rules;
      output = search rules;
    }

-- ---- the input failed, or is too long

pub returns-in_err-next-clause-cut : goal.returns-in_err-next-clause-cut
returns-in_err-next-clause-cut g c =
    let e = err_from_is_err_and c.from_residual.result c.from_residual.ensures.1 in
    let s = c.loop-intake.invariant.sending in
    rw (e.1, e.2) (cut_of c.in_err-next.field-0.0 (cut_stopped c.args.self c.args.limit c.loop-intake.intake c.next.new.self c.loop-intake.chain _ _ _ _ _ s
    c.next.ensures.limit c.next.ensures.at_most (c.in_err-next.ensures.stopped _ s.octets s.come (omega (arith, s.within, s.limits)))))

pub returns-in_err-next-clause-ragged : goal.returns-in_err-next-clause-ragged
returns-in_err-next-clause-ragged g c =
    let e = err_from_is_err_and c.from_residual.result c.from_residual.ensures.1 in
    rw (e.1, e.2) (no_rest (λ rest sent. (octets : List ℕ)
    × Sends c.args.self c.args.limit (g.I.Source.left c.args.input.now) (g.I.Source.left c.next.new.input) (g.O.Sink.written c.args.output.now) (g.O.Sink.written c.loop-intake.output) octets sent
    × (rest ≡ length octets % c.args.self.frame_octets)
    × (0 < rest)) c.in_err-next.field-0.0)

pub returns-in_err-next-clause-counts : goal.returns-in_err-next-clause-counts
returns-in_err-next-clause-counts g c =
    let e = err_from_is_err_and c.from_residual.result c.from_residual.ensures.1 in
    rw (e.1, e.2) (no_sent _ c.in_err-next.field-0.0)

pub returns-in_err-next-clause-read : goal.returns-in_err-next-clause-read
returns-in_err-next-clause-read g c =
    let e = err_from_is_err_and c.from_residual.result c.from_residual.ensures.1 in
    rw (e.1, e.2) (read_of _ _ _ c.in_err-next.field-0.0 c.loop-intake.invariant.input.same_faults c.in_err-next.ensures.cause)

pub returns-in_err-next-clause-write : goal.returns-in_err-next-clause-write
returns-in_err-next-clause-write g c =
    let e = err_from_is_err_and c.from_residual.result c.from_residual.ensures.1 in
    rw (e.1, e.2) (write_of _ _ c.in_err-next.field-0.0 c.loop-intake.invariant.output.same_faults)

pub returns-in_err-next-clause-long : goal.returns-in_err-next-clause-long
returns-in_err-next-clause-long g c =
    let e = err_from_is_err_and c.from_residual.result c.from_residual.ensures.1 in
    let s = c.loop-intake.invariant.sending in
    let h = c.in_err-next.ensures.stopped _ s.octets s.come (omega (arith, s.within, s.limits)) in
    rw (e.1, e.2) (λ is. come_count _ _ _ h.all (c.args.limit + 1) h.come (c.in_err-next.ensures.long (long_of c.in_err-next.field-0.0 is) ∙ ap (λ n. n + 1) s.limits))

pub returns-in_err-next-clause-taken : goal.returns-in_err-next-clause-taken
returns-in_err-next-clause-taken g c =
    let s = c.loop-intake.invariant.sending in
    let h = c.in_err-next.ensures.stopped _ s.octets s.come (omega (arith, s.within, s.limits)) in
    come_most _ _ _ h.all (c.args.limit + 1) h.come (omega (arith, c.next.ensures.at_most, s.limits))

-- ---- the output failed

pub returns-in_err-take-clause-cut : goal.returns-in_err-take-clause-cut
returns-in_err-take-clause-cut g c =
    let e = err_from_is_err_and c.from_residual-in_err-take.result c.from_residual-in_err-take.ensures.1 in
    let s = c.loop-intake.invariant.sending in
    let h = c.in_ok-next.ensures in
    rw (e.1, e.2) (cut_piece c.args.self c.args.limit c.loop-intake.intake c.next.new.self c.loop-intake.chain _ _ _ _ _ s _ c.piece.result.now
    (h.come _ s.octets s.come) c.piece.ensures h.within (c.in_err-take.ensures.cut s.octets _ s.taken))

pub returns-in_err-take-clause-taken : goal.returns-in_err-take-clause-taken
returns-in_err-take-clause-taken g c =
    let s = c.loop-intake.invariant.sending in
    let h = c.in_ok-next.ensures in
    come_most _ _ _ _ (c.args.limit + 1) (h.come _ s.octets s.come) (omega (arith, c.next.ensures.at_most, s.limits))

pub returns-in_err-take-clause-grows : goal.returns-in_err-take-clause-grows
returns-in_err-take-clause-grows g c =
    let s = c.loop-intake.invariant.sending in
    grows_some _ _ _ (c.in_err-take.ensures.cut s.octets _ s.taken)

pub returns-in_err-rest-clause-cut : goal.returns-in_err-rest-clause-cut
returns-in_err-rest-clause-cut g c =
    let s = c.loop-intake.invariant.sending in
    let h = c.in_ok-next.ensures in
    let end = h.ended _ s.octets s.come c.if-branch.false in
    let all = has_ended c.args.self c.args.limit c.loop-intake.intake c.next.new.self c.loop-intake.chain _ _ _ _ _ s c.taken.result c.sent-sent.result
    end h.within c.taken.ensures.value c.sent-sent.ensures.frames c.sent-sent.ensures.words in
    let e = err_from_is_err_and c.from_residual-in_err-rest.result c.from_residual-in_err-rest.ensures.1 in
    rw (e.1, e.2) (cut_within c.args.self c.args.limit c.next.new.self _ _ _ _ s.octets end.0 (omega (arith, h.within, s.limits))
    (rw (s.same) at (c.in_err-rest.ensures.cut s.octets _ s.taken all.words)))

pub returns-in_err-rest-clause-taken : goal.returns-in_err-rest-clause-taken
returns-in_err-rest-clause-taken g c =
    let s = c.loop-intake.invariant.sending in
    come_most _ _ _ _ (c.args.limit + 1) (c.in_ok-next.ensures.come _ s.octets s.come) (omega (arith, c.next.ensures.at_most, s.limits))

pub returns-in_err-rest-clause-grows : goal.returns-in_err-rest-clause-grows
returns-in_err-rest-clause-grows g c =
    let s = c.loop-intake.invariant.sending in
    let h = c.in_ok-next.ensures in
    let end = h.ended _ s.octets s.come c.if-branch.false in
    let all = has_ended c.args.self c.args.limit c.loop-intake.intake c.next.new.self c.loop-intake.chain _ _ _ _ _ s c.taken.result c.sent-sent.result
    end h.within c.taken.ensures.value c.sent-sent.ensures.frames c.sent-sent.ensures.words in
    grows_some _ _ _ (c.in_err-rest.ensures.cut s.octets _ s.taken all.words)

-- ---- all was sent

pub returns-then-rest-eq0-clause-ok : goal.returns-then-rest-eq0-clause-ok
returns-then-rest-eq0-clause-ok g c =
    let s = c.loop-intake.invariant.sending in
    let h = c.in_ok-next.ensures in
    let end = h.ended _ s.octets s.come c.if-branch.false in
    let all = has_ended c.args.self c.args.limit c.loop-intake.intake c.next.new.self c.loop-intake.chain _ _ _ _ _ s c.taken.result c.sent-sent.result
    end h.within c.taken.ensures.value c.sent-sent.ensures.frames c.sent-sent.ensures.words in
    let begun = rw (s.same) at (c.in_ok-rest.ensures.rest s.octets _ s.taken) in
    (s.octets, sends _ _ _ _ _ _ _ s.octets _ all (c.in_ok-rest.ensures.ok s.octets _ s.taken all.words), sym begun ∙ c.if-rest-eq0.true)

pub returns-then-rest-eq0-clause-counts : goal.returns-then-rest-eq0-clause-counts
returns-then-rest-eq0-clause-counts g c =
    let s = c.loop-intake.invariant.sending in
    counts_are c.args.self c.loop-intake.chain.coder.parameters c.args.limit c.taken.result c.sent-sent.result s.same
    (omega (arith, c.taken.ensures.value, c.in_ok-next.ensures.within, s.limits)) c.sent-sent.ensures.frames c.sent-sent.ensures.words

pub returns-then-rest-eq0-clause-taken : goal.returns-then-rest-eq0-clause-taken
returns-then-rest-eq0-clause-taken g c =
    let s = c.loop-intake.invariant.sending in
    come_most _ _ _ _ (c.args.limit + 1) (c.in_ok-next.ensures.come _ s.octets s.come) (omega (arith, c.next.ensures.at_most, s.limits))

pub returns-then-rest-eq0-clause-grows : goal.returns-then-rest-eq0-clause-grows
returns-then-rest-eq0-clause-grows g c =
    let all = returns-then-rest-eq0-clause-ok g c in
    record { octets = slots_of c.args.self all.0; grown = all.1.slots }

pub returns-clause-ragged : goal.returns-clause-ragged
returns-clause-ragged g c =
    let s = c.loop-intake.invariant.sending in
    let h = c.in_ok-next.ensures in
    let end = h.ended _ s.octets s.come c.if-branch.false in
    let all = has_ended c.args.self c.args.limit c.loop-intake.intake c.next.new.self c.loop-intake.chain _ _ _ _ _ s c.taken.result c.sent-sent.result
    end h.within c.taken.ensures.value c.sent-sent.ensures.frames c.sent-sent.ensures.words in
    let begun = rw (s.same) at (c.in_ok-rest.ensures.rest s.octets _ s.taken) in
    (s.octets, sends _ _ _ _ _ _ _ s.octets _ all (c.in_ok-rest.ensures.ok s.octets _ s.taken all.words), begun, omega arith)

pub returns-clause-counts : goal.returns-clause-counts
returns-clause-counts g c =
    let s = c.loop-intake.invariant.sending in
    counts_are c.args.self c.loop-intake.chain.coder.parameters c.args.limit c.taken.result c.sent-sent.result s.same
    (omega (arith, c.taken.ensures.value, c.in_ok-next.ensures.within, s.limits)) c.sent-sent.ensures.frames c.sent-sent.ensures.words

pub returns-clause-taken : goal.returns-clause-taken
returns-clause-taken g c =
    let s = c.loop-intake.invariant.sending in
    come_most _ _ _ _ (c.args.limit + 1) (c.in_ok-next.ensures.come _ s.octets s.come) (omega (arith, c.next.ensures.at_most, s.limits))

pub returns-clause-grows : goal.returns-clause-grows
returns-clause-grows g c =
    let all = returns-clause-ragged g c in
    record { octets = slots_of c.args.self all.0; grown = all.1.slots }
