use Rattle.std.proofs.Common.{◌≡◌, ◌<◌, ◌-ℤ◌, ◌∙◌, arith, ℕ, ℤ, List, length, sym, subst, ap, ap₂}
use Rattle.hpe_base.specs.Sizes.{number_at, AllWithin}
use Rattle.hpe_base.specs.CodeInterleaver.{IsInterleaved}
use Rattle.hpe_base.specs.SoftValues.{clamped, scaled}
use Rattle.hpe_turn.proofs.Halves.{whole_taken, next_numbers-is, next_numbers-within}
use Rattle.hpe_turn.proofs.rounds.Rounds.hand_back.Goals as goal

pub returns-clause-numbers : goal.returns-clause-numbers
returns-clause-numbers c =
    let lists = c.args.self.now in
    let given : List ℤ = lists.numbers.items in
    let added : List ℤ = c.extrinsic.new.soft in
    let moved : List ℤ = c.interleave.new.into in
    let lent : c.deref-2.result.now ≡ added = c.deref-2.ensures.value ∙ whole_taken lists.soft.len added _ (omega arith) in
    let value : (j : ℕ) → j < length added → number_at added j ≡ scaled lists.profile.scale (clamped (number_at lists.soft.items j -ℤ number_at given j)) =
    λ j h. c.extrinsic.ensures.value j (omega arith)
    ∙ ap (λ (s : ℕ). scaled s (clamped (number_at c.deref_mut.result.now j -ℤ number_at c.deref.result.now j))) c.scale-scale.ensures.value
    ∙ ap₂ (λ (xs ys : List ℤ). scaled lists.profile.scale (clamped (number_at xs j -ℤ number_at ys j))) c.deref_mut.ensures.value c.deref.ensures.value in
    let moves : IsInterleaved added moved = subst (λ (xs : List ℤ). IsInterleaved xs moved) lent c.interleave.ensures in
    whole_taken lists.numbers.len moved _ (omega arith)
    ∙ next_numbers-is lists.profile given lists.soft.items added moved (omega arith) (omega arith) c.requires.soft value moves

pub returns-clause-small : goal.returns-clause-small
returns-clause-small c =
    subst (AllWithin 16383) (sym (returns-clause-numbers c)) (next_numbers-within c.args.self.now.profile c.args.self.now.numbers.items c.args.self.now.valid.range.scale_high)
