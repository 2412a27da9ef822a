use Rattle.std.proofs.Common.{◌≡◌, ◌≢◌, ◌<◌, ◌+◌, ◌-◌, ◌/◌, ◌%◌, ◌++◌, ◌∙◌, ap, sym, subst, List, ℕ, [], ◌∷◌, refl, length}
use Rattle.std.specs.declared.option.Option.{Option}
use Rattle.hpe_base.specs.Parameters.{Parameters}
use Rattle.hpe_base.specs.Frames.{bit_stream, frame_bits}
use Rattle.hpe_frame.specs.Feeding.{Feeding, HasFed, marked}
use Rattle.hpe_frame.proofs.FrameBits.{held_bits}
use Rattle.hpe_send.specs.Chaining.{HasTaken}
use Rattle.hpe_send.specs.ChainView.{chaining}
use Rattle.hpe_send.specs.Streaming.{bit_slots}
use Rattle.hpe_send.proofs.Pending.{grows_err}
use Rattle.hpe_send.proofs.Stepped.{stream_same, stream_more}
use Rattle.hpe_send.proofs.Chained.{refuted, taken_more, taken_ok}
use Rattle.hpe_send.proofs.chain.Chain.octet.Goals as goal

stream : (g : _) (c : goal.After-push_frame g) (fed : List ℕ) (start now : Option (List ℕ)) → HasTaken (chaining c.self.inside) fed start now
    → bit_stream c.self.inside.coder.parameters fed ++ marked c.feed.new.self ≡ bit_stream c.self.inside.coder.parameters (fed ++ c.args.octet ∷ [])
stream g c fed start now h =
    let p : Parameters = c.self.inside.coder.parameters in
    let same : c.feed.new.self.parameters ≡ p = c.feed.ensures.profile ∙ c.self.invariant.feed in
    let ends : (length fed + 1) % p.frame_octets ≡ 0 = rw c.self.invariant.feed at ((c.feed.ensures.completes fed h.fed).0 c.if-feed.true) in
    let low : 0 < c.feed.new.self.parameters.frame_octets = rw same h.pushed.coded.valid.range.frame_low in
    let last : marked c.feed.new.self ≡ frame_bits p (fed ++ c.args.octet ∷ []) (length (fed ++ c.args.octet ∷ []) / p.frame_octets - 1) =
    held_bits c.feed.new.self (fed ++ c.args.octet ∷ []) low (c.feed.ensures.whole.0 c.if-feed.true) (c.feed.ensures.stands fed h.fed)
    ∙ ap (λ (q : Parameters). frame_bits q (fed ++ c.args.octet ∷ []) (length (fed ++ c.args.octet ∷ []) / q.frame_octets - 1)) same in
    ap (λ (l : List ℕ). bit_stream p fed ++ l) last ∙ stream_more p fed c.args.octet h.pushed.coded.valid.range.frame_low ends

pub returns-then-feed-clause-ok : goal.returns-then-feed-clause-ok
returns-then-feed-clause-ok g c = rw (← c.self.view_is) (λ fed start h.
    taken_ok c.push_frame.result _ c.self.inside.coder.parameters _ (fed ++ c.args.octet ∷ []) start _ c.push_frame.ensures.profile (stream g c fed start _ h)
    (subst (λ (f : Feeding). HasFed f (fed ++ c.args.octet ∷ [])) (sym c.push_frame.ensures.feed) (c.feed.ensures.stands fed h.fed))
    (c.push_frame.ensures.ok (bit_stream c.self.inside.coder.parameters fed) start (record { sliced = h.pushed.sliced; coded = h.pushed.coded })))

pub returns-then-feed-clause-cut : goal.returns-then-feed-clause-cut
returns-then-feed-clause-cut g c = rw (← c.self.view_is) (λ fed start h.
    let p : Parameters = c.self.inside.coder.parameters in
    grows_err c.push_frame.result start _ _ _ (ap (bit_slots p) (stream g c fed start _ h))
    (c.push_frame.ensures.cut (bit_stream p fed) start (record { sliced = h.pushed.sliced; coded = h.pushed.coded })))

pub returns-else-feed-clause-ok : goal.returns-else-feed-clause-ok
returns-else-feed-clause-ok g c = rw (← c.self.view_is) (λ fed start h.
    let p : Parameters = c.self.inside.coder.parameters in
    let none : (length fed + 1) % p.frame_octets ≢ 0 = rw c.self.invariant.feed at (refuted c.feed.result _ c.if-feed.false (c.feed.ensures.completes fed h.fed)) in
    taken_more _ p (bit_stream p fed) (fed ++ c.args.octet ∷ []) start _ refl (stream_same p fed c.args.octet h.pushed.coded.valid.range.frame_low none)
    (c.feed.ensures.stands fed h.fed) (record { sliced = h.pushed.sliced; coded = h.pushed.coded }))
