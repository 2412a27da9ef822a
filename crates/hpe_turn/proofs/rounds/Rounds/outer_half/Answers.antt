use Rattle.std.proofs.Common.{◌≡◌, ◌<◌, ◌∙◌, arith, ℕ, ℤ, List, Bool, length, sym, subst, ap, ap₂}
use Rattle.hpe_base.specs.Sizes.{number_at}
use Rattle.hpe_base.specs.Parameters.{codeword_bits, code_steps}
use Rattle.hpe_base.specs.ConvolutionalCode.{AreColumns, code_bits}
use Rattle.hpe_base.specs.SoftValues.{information_soft_value}
use Rattle.hpe_base.specs.Parameters.{information_bits}
use Rattle.hpe_base.specs.Rounds.{hard_bit}
use Rattle.hpe_base.proofs.KeptLength.{length-code_bits}
use Rattle.hpe_base.proofs.ParameterLemmas.{code_steps-ge, are_columns}
use Rattle.hpe_turn.proofs.Halves.{whole_taken, hard_bits-is}
use Rattle.hpe_turn.proofs.rounds.Rounds.outer_half.Goals as goal

pub outer_soft-requires-clause-columns : goal.outer_soft-requires-clause-columns
outer_soft-requires-clause-columns g c =
    subst AreColumns (sym c.columns.ensures.value) (are_columns c.args.self.now.profile c.args.self.now.valid)

pub outer_soft-requires-clause-l : goal.outer_soft-requires-clause-l
outer_soft-requires-clause-l g c = λ u h.
    let p = c.args.self.now.profile in
    let steps : length u ≡ code_steps p.rate = omega (arith, code_steps-ge p.rate) in
    let whole : length c.deref.result.now ≡ codeword_bits = omega arith in
    whole ∙ sym (ap (λ (cs : List (List Bool)). length (code_bits cs u)) c.columns.ensures.value ∙ length-code_bits p u c.args.self.now.valid steps)

pub returns-clause-hard : goal.returns-clause-hard
returns-clause-hard g c =
    let lists = c.args.self.now in
    let p = lists.profile in
    let lo : List ℤ = lists.numbers.items in
    let information : List ℤ = c.outer_soft.new.info in
    let hard : List ℕ = c.decide.new.hard in
    let lent : c.deref-2.result.now ≡ information = c.deref-2.ensures.value ∙ whole_taken lists.information.len information _ (omega arith) in
    let long : length c.deref_mut-2.result.now ≡ information_bits p.rate = omega arith in
    let soft_is : (j : ℕ) → j < information_bits p.rate → number_at information j ≡ information_soft_value p.columns lo (information_bits p.rate) j =
    λ j h. c.outer_soft.ensures.info j (omega arith)
    ∙ ap₂ (λ (cs : List (List Bool)) (xs : List ℤ). information_soft_value cs xs (length c.deref_mut-2.result.now) j) c.columns.ensures.value c.deref.ensures.value
    ∙ ap (λ (n : ℕ). information_soft_value p.columns lo n j) long in
    whole_taken lists.hard.len hard _ (omega arith)
    ∙ hard_bits-is p lo information hard (omega arith) soft_is
    (λ j h. c.decide.ensures.value j (omega arith) ∙ ap (λ (xs : List ℤ). hard_bit (number_at xs j)) lent)
