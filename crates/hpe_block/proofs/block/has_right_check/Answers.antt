use Rattle.std.proofs.Common.{◌∙◌, take, drop, ap}
use Rattle.hpe_base.specs.Parameters.{block_bits}
use Rattle.hpe_base.specs.Check.{check_bits}
use Rattle.hpe_block.proofs.Opened.{tested}
use Rattle.hpe_block.proofs.block.has_right_check.Goals as goal

pub returns : goal.returns
returns c = c.eq.ensures ∙ tested c.args.p.now c.args.word.now c.split_at.result.0.now c.split_at.result.1.now c.as_slice.result.now
    (c.split_at.ensures.front ∙ ap (λ k. take k c.args.word.now) (c.block.ensures ∙ ap block_bits c.rate.ensures.value))
    (c.split_at.ensures.back ∙ ap (λ k. drop k c.args.word.now) (c.block.ensures ∙ ap block_bits c.rate.ensures.value))
    (c.as_slice.ensures ∙ (c.write_bits.ensures.value ∙ (c.check_of.ensures.bits ∙ ap (λ n. check_bits n c.split_at.result.0.now) c.check.ensures.value)))
