use Rattle.std.proofs.Common.{◌≡◌, ◌≢◌, ◌+◌, ◌-◌, ◌/◌, ◌%◌, ◌++◌, List, ℕ, [], ◌∷◌, refl, length}
use Rattle.hpe_base.specs.Parameters.{Parameters, block_bits}
use Rattle.hpe_base.specs.Slicer.{block_from}
use Rattle.hpe_block.specs.Slicing.{HasSliced}
use Rattle.hpe_send.specs.Streaming.{word_count, words_of}
use Rattle.hpe_send.proofs.Pending.{grows_err}
use Rattle.hpe_send.proofs.Stepped.{count_same, words_same, count_more, words_more}
use Rattle.hpe_send.proofs.Chained.{refuted, slots_same, pushed_more, pushed_ok}
use Rattle.hpe_send.proofs.chain.Chain.push.Goals as goal

whole : (g : _) (c : goal.After-send_block g) (bits : List ℕ) → HasSliced c.self.inside.slicer bits → (length bits + 1) % block_bits c.self.inside.coder.parameters.rate ≡ 0
whole g c bits was = rw c.self.invariant.slicer at ((c.push.ensures.completes bits was).0 c.if-push.true)

block : (g : _) (c : goal.After-send_block g) (bits : List ℕ) → HasSliced c.self.inside.slicer bits
    → c.block.result.now ≡ block_from (bits ++ c.args.bit ∷ []) (block_bits c.self.inside.coder.parameters.rate) (length (bits ++ c.args.bit ∷ []) / block_bits c.self.inside.coder.parameters.rate - 1)
block g c bits was = rw (c.push.ensures.profile, c.self.invariant.slicer) at (c.block.ensures.law (bits ++ c.args.bit ∷ []) (c.push.ensures.stands bits was))

pub returns-then-push-clause-ok : goal.returns-then-push-clause-ok
returns-then-push-clause-ok g c = rw (← c.self.view_is) (λ bits start h.
    let p : Parameters = c.self.inside.coder.parameters in
    pushed_ok c.send_block.result _ p _ _ (bits ++ c.args.bit ∷ []) start _ c.send_block.ensures.profile (count_more p bits c.args.bit (whole g c bits h.sliced))
    (words_more p bits c.args.bit c.block.result.now (whole g c bits h.sliced) (block g c bits h.sliced)) (c.push.ensures.stands bits h.sliced)
    (c.send_block.ensures.ok (word_count p bits) (words_of p bits) start h.coded))

pub returns-then-push-clause-cut : goal.returns-then-push-clause-cut
returns-then-push-clause-cut g c = rw (← c.self.view_is) (λ bits start h.
    let p : Parameters = c.self.inside.coder.parameters in
    grows_err c.send_block.result start _ _ _ (slots_same p _ _ _ _ (count_more p bits c.args.bit (whole g c bits h.sliced))
    (words_more p bits c.args.bit c.block.result.now (whole g c bits h.sliced) (block g c bits h.sliced)))
    (c.send_block.ensures.cut (word_count p bits) (words_of p bits) start h.coded))

pub returns-else-push-clause-ok : goal.returns-else-push-clause-ok
returns-else-push-clause-ok g c = rw (← c.self.view_is) (λ bits start h.
    let p : Parameters = c.self.inside.coder.parameters in
    let none : (length bits + 1) % block_bits p.rate ≢ 0 = rw c.self.invariant.slicer at (refuted c.push.result _ c.if-push.false (c.push.ensures.completes bits h.sliced)) in
    pushed_more _ p (word_count p bits) (words_of p bits) (bits ++ c.args.bit ∷ []) start _ refl (count_same p bits c.args.bit none) (words_same p bits c.args.bit none)
    (c.push.ensures.stands bits h.sliced) h.coded)
