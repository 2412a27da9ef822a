use Rattle.std.proofs.Common.{◌≡◌, ◌<◌, ◌∙◌, ap, sym, arith, List, ℕ, length, take}
use Rattle.std.proofs.lemmas.List.{length-take, take_all}
use Rattle.hpe_base.specs.Parameters.{block_bits}
use Rattle.hpe_block.specs.Slicing.{Slicing}
use Rattle.hpe_block.proofs.Units.{unit_block}
use Rattle.hpe_block.proofs.slicer.Slicer.block.Goals as goal

pub returns-clause-law : goal.returns-clause-law
returns-clause-law c = λ pushed was.
    let i = c.self.invariant in
    let low : 0 < block_bits c.args.self.now.parameters.rate = rw (← c.self.view_is) i.low in
    let whole : length (take c.self.inside.used c.self.inside.bits.items) ≡ block_bits c.self.inside.profile.rate = rw (← c.self.view_is) at c.requires in
    let all = sym (take_all c.self.inside.used c.self.inside.bits.items (omega (arith, length-take c.self.inside.used c.self.inside.bits.items))) in
    c.deref.ensures.value ∙ (all ∙ (ap (λ (s : Slicing). s.held) c.self.view_is
    ∙ (was ∙ unit_block (block_bits c.args.self.now.parameters.rate) pushed low (sym (ap (λ (l : List ℕ). length l) was) ∙ c.requires))))
