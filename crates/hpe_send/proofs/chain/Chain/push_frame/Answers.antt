use Rattle.std.proofs.Common.{rules, ◌≡◌, ◌++◌, ◌∙◌, ap, List, ℕ, arith, get_or, take}
use Rattle.std.proofs.lemmas.List.{take_all}
use Rattle.hpe_frame.specs.Feeding.{Feeding, marked}
use Rattle.hpe_io.proofs.Results.{on_err_of}
use Rattle.hpe_send.specs.Chaining.{Chaining}
use Rattle.hpe_send.proofs.Stepped.{next-front, bits_cut, frame_end}
use Rattle.hpe_send.proofs.chain.Chain.push_frame.Goals as goal

pub loop-i-preserved : goal.loop-i-preserved
loop-i-preserved g c =
    let i = c.loop-i.invariant in
    let m : List ℕ = marked c.args.self.now.feed in
    let same : c.self-in-loop-i.inside.feed ≡ c.args.self.now.feed = ap (λ (s : Chaining). s.feed) c.self-in-loop-i.view_is ∙ i.feed in
    let here : c.bit-bit.result ≡ get_or m c.loop-i.i 0 = c.bit-bit.ensures.value ∙ ap (λ (f : Feeding). get_or (marked f) c.loop-i.i 0) same in
    record {
      profile = c.push.ensures.profile ∙ i.profile;
      feed = c.push.ensures.feed ∙ i.feed;
      pushed = λ bits start h. rw (here, next-front bits m c.loop-i.i (omega (arith, frame_end c.self.inside.feed c.args.self.now.feed _ _ _ (ap (λ (s : Chaining). s.feed) c.self.view_is) c.self.invariant.feed c.profile.ensures c.span_bits-i-end.ensures.value c.requires))) at (c.in_ok-push.ensures.ok (bits ++ take c.loop-i.i m) start (i.pushed bits start h));
      output = search rules;
    }

pub returns-in_err-push-clause-cut : goal.returns-in_err-push-clause-cut
returns-in_err-push-clause-cut g c = λ bits start h.
    let i = c.loop-i.invariant in
    let m : List ℕ = marked c.args.self.now.feed in
    let same : c.self-in-loop-i.inside.feed ≡ c.args.self.now.feed = ap (λ (s : Chaining). s.feed) c.self-in-loop-i.view_is ∙ i.feed in
    let here : c.bit-bit.result ≡ get_or m c.loop-i.i 0 = c.bit-bit.ensures.value ∙ ap (λ (f : Feeding). get_or (marked f) c.loop-i.i 0) same in
    on_err_of c.from_residual.result
    (bits_cut c.args.self.now.coder.parameters bits m c.loop-i.i start _ h.coded.valid.range.repeat_low (omega (arith, frame_end c.self.inside.feed c.args.self.now.feed _ _ _ (ap (λ (s : Chaining). s.feed) c.self.view_is) c.self.invariant.feed c.profile.ensures c.span_bits-i-end.ensures.value c.requires))
    (rw (i.profile, here) at (c.in_err-push.ensures.cut (bits ++ take c.loop-i.i m) start (i.pushed bits start h))))

pub returns-clause-ok : goal.returns-clause-ok
returns-clause-ok g c = λ bits start h.
    rw (take_all c.loop-i.i (marked c.args.self.now.feed) (omega (arith, frame_end c.self.inside.feed c.args.self.now.feed _ _ _ (ap (λ (s : Chaining). s.feed) c.self.view_is) c.self.invariant.feed c.profile.ensures c.span_bits-i-end.ensures.value c.requires))) at (c.loop-i.invariant.pushed bits start h)
