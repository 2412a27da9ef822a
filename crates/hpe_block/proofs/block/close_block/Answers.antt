use Rattle.std.proofs.Common.{arith, ◌∙◌, ◌≡◌, ◌≤◌, ap, length}
use Rattle.hpe_base.specs.Randomiser.{randomised}
use Rattle.hpe_base.specs.Bits.{bits_of}
use Rattle.hpe_base.specs.Check.{check_bits}
use Rattle.hpe_base.specs.Parameters.{code_steps}
use Rattle.hpe_base.proofs.ParameterLemmas.{code_steps-ge}
use Rattle.hpe_block.proofs.Closed.{closed, closed_bits}
use Rattle.hpe_block.proofs.block.close_block.Goals as goal

pub returns-clause-closed : goal.returns-clause-closed
returns-clause-closed c =
    let mixed : c.randomise.new.bits ≡ randomised c.args.p.now c.args.block.now =
    c.randomise.ensures.sum ∙ ap (randomised c.args.p.now) c.copy_from_slice.ensures.after in
    let enough : 5040 ≤ code_steps c.args.p.now.rate = code_steps-ge c.args.p.now.rate in
    let wide : length c.split_at_mut-check.result.0.now ≡ 32 = omega (arith, c.split_at_mut-check.ensures.front_len) in
    let check : c.write_bits.new.into ≡ check_bits c.args.p.now.check (randomised c.args.p.now c.args.block.now) =
    c.write_bits.ensures.value ∙ (ap (λ w. bits_of w c.check_of.result) wide ∙ (c.check_of.ensures.bits ∙ (ap (λ k. check_bits k c.randomise.new.bits) c.check.ensures.value ∙ ap (check_bits c.args.p.now.check) mixed))) in
    rw (c.fill.ensures.after (λ y e. e)) (closed _ _ _ _ (length c.split_at_mut-check.result.1.now) mixed check (omega arith))

pub returns-clause-bits : goal.returns-clause-bits
returns-clause-bits c =
    let enough : 5040 ≤ code_steps c.args.p.now.rate = code_steps-ge c.args.p.now.rate in
    rw (c.fill.ensures.after (λ y e. e)) (closed_bits c.randomise.new.bits c.write_bits.new.into (length c.split_at_mut-check.result.1.now) c.randomise.ensures.bits c.write_bits.ensures.bits (omega arith))
