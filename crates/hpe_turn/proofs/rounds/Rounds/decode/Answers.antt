use Rattle.std.proofs.Common.{◌≡◌, ◌<◌, ◌+◌, ◌*◌, ◌∙◌, arith, rules, ℕ, ℤ, List, Bool, true, false, take, refl, sym, subst, ap, ap₂}
use Rattle.hpe_base.specs.Sizes.{AllWithin}
use Rattle.hpe_base.specs.Parameters.{Parameters, codeword_bits, codeword_symbols, code_steps, block_bits}
use Rattle.hpe_base.specs.Randomiser.{randomised}
use Rattle.hpe_base.specs.Rounds.{outer_numbers, hard_bits, next_numbers, is_right}
use Rattle.hpe_turn.specs.declared.verdict.Verdict.TheVariants.{Kept}
use Rattle.std.specs.Option.{IsSome}
use Rattle.hpe_turn.specs.FirstRight.{IsFirstRight}
use Rattle.hpe_turn.proofs.FirstRight.{HasGone-none, HasGone-more, HasGone-right, HasGone-all, first_right}
use Rattle.hpe_turn.specs.Stages.{round_stages}
use Rattle.hpe_turn.proofs.Stages.{one_round, rounds_so_far}
use Rattle.hpe_turn.proofs.rounds.Rounds.decode.Goals as goal
use Rattle.hpe_base.proofs.Scaling.{zeros_within}

not_true : (b : Bool) → (b ≡ true → ⊥) → b ≡ false
not_true true h = absurd (h refl)
not_true false h = refl

round_is : (r s : ℕ) → Kept r ≡ Kept s → r ≡ s
round_is r s e = cc

pub loop-before-init : goal.loop-before-init
loop-before-init g c = record {
  profile = c.begin.ensures.profile;
  gone = HasGone-none c.args.self.now.profile c.args.counts.now c.begin.new.self.numbers.items c.begin.ensures.numbers;
  small = subst (AllWithin 16383) (sym c.begin.ensures.numbers) (zeros_within codeword_bits);
  block = refl;
  cost = omega arith;
}

pub inner_half-requires-clause-room : goal.inner_half-requires-clause-room
inner_half-requires-clause-room g c =
    let p = c.args.self.now.profile in
    let same : codeword_symbols c.loop-before.self.profile.order ≡ codeword_symbols p.order =
    ap (λ (q : Parameters). codeword_symbols q.order) c.loop-before.invariant.profile in
    let more : c.loop-before.before < p.rounds = omega (arith, c.rounds-before-end.ensures.value ∙ ap (λ (q : Parameters). q.rounds) c.begin.ensures.profile) in
    omega (
      arith,
      c.requires.room,
      one_round c.loop-before.before p.rounds c.args.steps.now c.loop-before.steps (codeword_symbols p.order) (code_steps p.rate) more c.loop-before.invariant.cost,
    )

pub outer_half-requires-clause-room : goal.outer_half-requires-clause-room
outer_half-requires-clause-room g c =
    let p = c.args.self.now.profile in
    let same : code_steps c.inner_half.new.self.profile.rate ≡ code_steps p.rate =
    ap (λ (q : Parameters). code_steps q.rate) (c.inner_half.ensures.profile ∙ c.loop-before.invariant.profile) in
    let inner : codeword_symbols c.loop-before.self.profile.order ≡ codeword_symbols p.order =
    ap (λ (q : Parameters). codeword_symbols q.order) c.loop-before.invariant.profile in
    let more : c.loop-before.before < p.rounds = omega (arith, c.rounds-before-end.ensures.value ∙ ap (λ (q : Parameters). q.rounds) c.begin.ensures.profile) in
    omega (
      arith,
      c.requires.room,
      c.inner_half.ensures.cost,
      one_round c.loop-before.before p.rounds c.args.steps.now c.loop-before.steps (codeword_symbols p.order) (code_steps p.rate) more c.loop-before.invariant.cost,
    )

pub returns-then-is_some-clause-checked : goal.returns-then-is_some-clause-checked
returns-then-is_some-clause-checked g c = λ round e.
    let p = c.args.self.now.profile in
    let counts : List ℕ = c.args.counts.now in
    let l : List ℤ = c.loop-before.self.numbers.items in
    let lo : List ℤ = c.inner_half.new.self.numbers.items in
    let hard : List ℕ = c.outer_half.new.self.hard.items in
    let block : List ℕ = c.open_block.new.into in
    let same1 : c.loop-before.self.profile ≡ p = c.loop-before.invariant.profile in
    let same2 : c.inner_half.new.self.profile ≡ p = c.inner_half.ensures.profile ∙ same1 in
    let same3 : c.outer_half.new.self.profile ≡ p = c.outer_half.ensures.profile ∙ same2 in
    let lo_is : lo ≡ outer_numbers p counts l = subst (λ (q : Parameters). lo ≡ outer_numbers q counts l) same1 c.inner_half.ensures.numbers in
    let hard_is : hard ≡ hard_bits p lo = subst (λ (q : Parameters). hard ≡ hard_bits q lo) same2 c.outer_half.ensures.hard in
    let some : IsSome c.open_block.result = search rules in
    let right : is_right p hard ≡ true =
    ap₂ (λ (q : Parameters) (xs : List ℕ). is_right q xs) (sym same3) (sym c.deref.ensures.value) ∙ c.open_block.ensures.right.0 some in
    let opened : block ≡ randomised p (take (block_bits p.rate) hard) =
    c.open_block.ensures.block some
    ∙ ap₂ (λ (q : Parameters) (xs : List ℕ). randomised q (take (block_bits q.rate) xs)) same3 c.deref.ensures.value in
    subst (λ (r : ℕ). IsFirstRight p counts r block) (round_is _ _ e)
    (HasGone-right p counts c.loop-before.before l lo hard block c.loop-before.invariant.gone lo_is hard_is right opened)

pub returns-then-is_some-clause-kept : goal.returns-then-is_some-clause-kept
returns-then-is_some-clause-kept g c = λ round e.
    let same : c.loop-before.before + 1 ≡ round = round_is _ _ e in
    let more : c.loop-before.before < c.args.self.now.profile.rounds = omega (arith, c.rounds-before-end.ensures.value ∙ ap (λ (q : Parameters). q.rounds) c.begin.ensures.profile) in
    first_right c.args.self.now.profile c.args.counts.now round c.open_block.new.into (omega (arith, same)) (omega (arith, same, more)) (returns-then-is_some-clause-checked g c round e)

pub returns-then-is_some-clause-cost : goal.returns-then-is_some-clause-cost
returns-then-is_some-clause-cost g c =
    let p = c.args.self.now.profile in
    let outer : code_steps c.inner_half.new.self.profile.rate ≡ code_steps p.rate =
    ap (λ (q : Parameters). code_steps q.rate) (c.inner_half.ensures.profile ∙ c.loop-before.invariant.profile) in
    let inner : codeword_symbols c.loop-before.self.profile.order ≡ codeword_symbols p.order =
    ap (λ (q : Parameters). codeword_symbols q.order) c.loop-before.invariant.profile in
    omega (
      arith,
      c.inner_half.ensures.cost,
      c.outer_half.ensures.cost,
      rounds_so_far c.loop-before.before c.args.steps.now c.loop-before.steps (codeword_symbols p.order) (code_steps p.rate) c.loop-before.invariant.cost,
    )

pub returns-clause-cost : goal.returns-clause-cost
returns-clause-cost g c =
    let all : c.loop-before.before ≡ c.args.self.now.profile.rounds =
    omega (arith, c.rounds-before-end.ensures.value ∙ ap (λ (q : Parameters). q.rounds) c.begin.ensures.profile) in
    c.loop-before.invariant.cost ∙ ap (λ (n : ℕ). c.args.steps.now + n * round_stages c.args.self.now.profile) all

pub loop-before-preserved : goal.loop-before-preserved
loop-before-preserved g c =
    let p = c.args.self.now.profile in
    let counts : List ℕ = c.args.counts.now in
    let l : List ℤ = c.loop-before.self.numbers.items in
    let lo : List ℤ = c.inner_half.new.self.numbers.items in
    let hard : List ℕ = c.outer_half.new.self.hard.items in
    let same1 : c.loop-before.self.profile ≡ p = c.loop-before.invariant.profile in
    let same2 : c.inner_half.new.self.profile ≡ p = c.inner_half.ensures.profile ∙ same1 in
    let same3 : c.outer_half.new.self.profile ≡ p = c.outer_half.ensures.profile ∙ same2 in
    let lo_is : lo ≡ outer_numbers p counts l = subst (λ (q : Parameters). lo ≡ outer_numbers q counts l) same1 c.inner_half.ensures.numbers in
    let hard_is : hard ≡ hard_bits p lo = subst (λ (q : Parameters). hard ≡ hard_bits q lo) same2 c.outer_half.ensures.hard in
    let wrong : is_right p hard ≡ false =
    ap₂ (λ (q : Parameters) (xs : List ℕ). is_right q xs) (sym same3) (sym c.deref.ensures.value)
    ∙ not_true _ (λ t. let some : IsSome c.open_block.result = c.open_block.ensures.right.1 t in search (rules, some)) in
    let next : c.hand_back.new.self.numbers.items ≡ next_numbers p lo =
    c.hand_back.ensures.numbers ∙ ap₂ (λ (q : Parameters) (xs : List ℤ). next_numbers q xs) same3 c.outer_half.ensures.numbers in
    let left : c.open_block.new.into ≡ c.loop-before.block = search rules in
    let outer : code_steps c.inner_half.new.self.profile.rate ≡ code_steps p.rate = ap (λ (q : Parameters). code_steps q.rate) same2 in
    let inner : codeword_symbols c.loop-before.self.profile.order ≡ codeword_symbols p.order = ap (λ (q : Parameters). codeword_symbols q.order) same1 in
    record {
      profile = c.hand_back.ensures.profile ∙ same3;
      gone = HasGone-more p counts c.loop-before.before l lo c.hand_back.new.self.numbers.items hard c.loop-before.invariant.gone lo_is hard_is wrong next;
      small = c.hand_back.ensures.small;
      block = left ∙ c.loop-before.invariant.block;
      cost = omega (
        arith,
        c.inner_half.ensures.cost,
        c.outer_half.ensures.cost,
        rounds_so_far c.loop-before.before c.args.steps.now c.loop-before.steps (codeword_symbols p.order) (code_steps p.rate) c.loop-before.invariant.cost,
      );
    }

pub returns-clause-lost : goal.returns-clause-lost
returns-clause-lost g c = λ e. (
  HasGone-all c.args.self.now.profile c.args.counts.now c.loop-before.before c.loop-before.self.numbers.items
      (omega (arith, c.rounds-before-end.ensures.value ∙ ap (λ (q : Parameters). q.rounds) c.begin.ensures.profile)) c.loop-before.invariant.gone,
  c.loop-before.invariant.block,
)
