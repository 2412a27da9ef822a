use Rattle.std.proofs.Common.{◌≡◌, ◌<◌, ◌-ℤ◌, ◌∙◌, arith, ℕ, ℤ, List, length, sym, subst, ap, ap₂}
use Rattle.hpe_base.specs.Sizes.{number_at, AllWithin}
use Rattle.hpe_base.specs.Parameters.{codeword_bits}
use Rattle.hpe_base.specs.CodeInterleaver.{pi_inverse}
use Rattle.hpe_base.specs.SoftValues.{clamped, scaled, inner_soft_value}
use Rattle.hpe_base.specs.declared.profile.Order.{Order}
use Rattle.hpe_turn.proofs.Halves.{whole_taken, outer_numbers-is, outer_numbers-within}
use Rattle.hpe_turn.proofs.rounds.Rounds.inner_half.Goals as goal

pub returns-clause-numbers : goal.returns-clause-numbers
returns-clause-numbers g c =
    let lists = c.args.self.now in
    let p = lists.profile in
    let counts : List ℕ = c.args.counts.now in
    let given : List ℤ = lists.numbers.items in
    let soft : List ℤ = c.inner_soft.new.out in
    let added : List ℤ = c.extrinsic.new.soft in
    let moved : List ℤ = c.deinterleave.new.into in
    let soft_lent : c.deref_mut-3.result.now ≡ soft = c.deref_mut-3.ensures.value ∙ whole_taken lists.soft.len soft _ (omega arith) in
    let lent : c.deref-3.result.now ≡ added = c.deref-3.ensures.value ∙ whole_taken lists.soft.len added _ (omega arith) in
    let soft_is : (j : ℕ) → j < codeword_bits → number_at soft j ≡ inner_soft_value p.order counts given j =
    λ j h. c.inner_soft.ensures.soft j (omega arith)
    ∙ ap₂ (λ (o : Order) (xs : List ℤ). inner_soft_value o counts xs j) c.order.ensures.value c.deref.ensures.value in
    let value : (j : ℕ) → j < length added → number_at added j ≡ scaled lists.profile.scale (clamped (number_at soft j -ℤ number_at given j)) =
    λ j h. c.extrinsic.ensures.value j (omega arith)
    ∙ ap (λ (s : ℕ). scaled s (clamped (number_at c.deref_mut-3.result.now j -ℤ number_at c.deref-2.result.now j))) c.scale-scale.ensures.value
    ∙ ap₂ (λ (xs ys : List ℤ). scaled lists.profile.scale (clamped (number_at xs j -ℤ number_at ys j))) soft_lent c.deref-2.ensures.value in
    let moves : (i : ℕ) → i < codeword_bits → number_at moved i ≡ number_at added (pi_inverse i) =
    λ i h. c.deinterleave.ensures i h ∙ ap (λ (xs : List ℤ). number_at xs (pi_inverse i)) lent in
    whole_taken lists.numbers.len moved _ (omega arith)
    ∙ outer_numbers-is p counts given soft added moved (omega arith) (omega arith) soft_is value moves

pub returns-clause-small : goal.returns-clause-small
returns-clause-small g c =
    subst (AllWithin 16383) (sym (returns-clause-numbers g c))
    (outer_numbers-within c.args.self.now.profile c.args.counts.now c.args.self.now.numbers.items c.args.self.now.valid.range.scale_high)
