use Rattle.std.proofs.Common.{◌≡◌, ◌<◌, ◌-◌, ◌/◌, ◌%◌, ◌++◌, List, ℕ, refl, length}
use Rattle.hpe_base.specs.Bits.{zeros}
use Rattle.hpe_base.specs.Parameters.{Parameters, block_bits}
use Rattle.hpe_base.specs.Slicer.{block_from}
use Rattle.hpe_block.specs.Slicing.{HasSliced}
use Rattle.hpe_send.specs.Streaming.{word_count, words_of}
use Rattle.hpe_send.proofs.Coded.{coded_same}
use Rattle.hpe_send.proofs.Pending.{grows_err}
use Rattle.hpe_send.proofs.Stepped.{count_whole, words_whole, count_begun, words_begun}
use Rattle.hpe_send.proofs.Chained.{none_begun, slots_same, coded_ok_same}
use Rattle.hpe_send.proofs.chain.Chain.pad.Goals as goal

begun : (g : _) (c : goal.After-send_block g) (bits : List ℕ) → HasSliced c.self.inside.slicer bits → 0 < length bits % block_bits c.self.inside.coder.parameters.rate
begun g c bits was = rw c.self.invariant.slicer at ((c.pad.ensures.begun bits was).0 c.if-pad.true)

-- the zeros that fill the last block
abbrev missing : Parameters → List ℕ → ℕ
missing p bits = block_bits p.rate - length bits % block_bits p.rate

block : (g : _) (c : goal.After-send_block g) (bits : List ℕ) → HasSliced c.self.inside.slicer bits
    → c.block.result.now ≡ block_from (bits ++ zeros (missing c.self.inside.coder.parameters bits)) (block_bits c.self.inside.coder.parameters.rate)
    (length (bits ++ zeros (missing c.self.inside.coder.parameters bits)) / block_bits c.self.inside.coder.parameters.rate - 1)
block g c bits was =
    rw (c.pad.ensures.profile, c.self.invariant.slicer) at (c.block.ensures.law (bits ++ zeros (missing c.self.inside.slicer.parameters bits)) (c.pad.ensures.stands bits was c.if-pad.true))

pub returns-then-pad-clause-ok : goal.returns-then-pad-clause-ok
returns-then-pad-clause-ok g c = rw (← c.self.view_is) (λ bits start h.
    let p : Parameters = c.self.inside.coder.parameters in
    coded_ok_same c.send_block.result _ _ _ _ _ start _ (count_begun p bits (begun g c bits h.sliced))
    (words_begun p bits c.block.result.now (missing p bits) (begun g c bits h.sliced) refl (block g c bits h.sliced))
    (c.send_block.ensures.ok (word_count p bits) (words_of p bits) start h.coded))

pub returns-then-pad-clause-cut : goal.returns-then-pad-clause-cut
returns-then-pad-clause-cut g c = rw (← c.self.view_is) (λ bits start h.
    let p : Parameters = c.self.inside.coder.parameters in
    grows_err c.send_block.result start _ _ _ (slots_same p _ _ _ _ (count_begun p bits (begun g c bits h.sliced))
    (words_begun p bits c.block.result.now (missing p bits) (begun g c bits h.sliced) refl (block g c bits h.sliced)))
    (c.send_block.ensures.cut (word_count p bits) (words_of p bits) start h.coded))

pub returns-else-pad-clause-ok : goal.returns-else-pad-clause-ok
returns-else-pad-clause-ok g c = rw (← c.self.view_is) (λ bits start h.
    let p : Parameters = c.self.inside.coder.parameters in
    let none : length bits % block_bits p.rate ≡ 0 = rw c.self.invariant.slicer at (none_begun c.pad.result _ c.if-pad.false (c.pad.ensures.begun bits h.sliced)) in
    coded_same c.self.inside.coder _ _ _ _ start _ (count_whole p bits none) (words_whole p bits none) h.coded)
