use Rattle.std.proofs.Common.{arith, ◌≡◌, ◌∙◌, ap, refl, take, true}
use Rattle.hpe_base.specs.Randomiser.{randomised}
use Rattle.hpe_block.proofs.Mixing.{randomised_twice}
use Rattle.hpe_block.proofs.Opened.{IsOpened, opened}
use Rattle.hpe_block.proofs.block.open_block.Goals as goal

pub returns-then-not-has_right_check-clause-opens : goal.returns-then-not-has_right_check-clause-opens
returns-then-not-has_right_check-clause-opens c = λ block bits long is.
    let o : IsOpened c.args.p.now block c.args.word.now = opened c.args.p.now block c.args.word.now long is in
    let right : c.has_right_check.result ≡ true = c.has_right_check.ensures ∙ o.right in
    absurd (grind (arith, right, c.if-not-has_right_check.true))

pub returns-clause-opens : goal.returns-clause-opens
returns-clause-opens c = λ block bits long is.
    let o : IsOpened c.args.p.now block c.args.word.now = opened c.args.p.now block c.args.word.now long is in (
      refl,
      c.randomise.ensures.sum ∙ (ap (randomised c.args.p.now) (c.copy_from_slice.ensures.after ∙ (ap (λ k. take k c.args.word.now) c.requires.into ∙ o.front)) ∙ randomised_twice c.args.p.now block bits),
    )
