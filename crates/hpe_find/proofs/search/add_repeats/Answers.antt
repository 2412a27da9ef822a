use Rattle.std.proofs.Common.{◌^◌, ◌+◌, ◌*◌, ◌<◌, ◌≤◌, ℕ, List, length, get_or, inl, inr, arith}
use Rattle.std.proofs.lemmas.Bool.{cases_lt}
use Rattle.std.proofs.lemmas.List.{get_or_past}
use Rattle.hpe_find.proofs.Sums.{Added-none, Added-more, Added-small}
use Rattle.hpe_find.proofs.Terms.{sending_term}
use Rattle.hpe_find.proofs.search.add_repeats.Goals as goal

pub loop-i-init : goal.loop-i-init
loop-i-init c = Added-none _ _

-- a sum is small, and there is none past the end
term_small : (sums : List ℕ) (n : ℕ) → ((k : ℕ) → k < length sums → get_or sums k 0 ≤ 2 ^ 22) → get_or sums n 0 ≤ 2 ^ 22
term_small sums n h =
    elim (cases_lt n (length sums)) [
      | inl b ↦ h n b
      | inr b ↦ rw (get_or_past sums n 0 b) (omega arith)
    ]

pub add_sums-requires : goal.add_sums-requires
add_sums-requires c = record {
  small = λ k b.
      let small = Added-small (sending_term c.args.sums.now c.args.stride) c.args.scores.now c.loop-i.scores c.loop-i.i (2 ^ 22) (2 ^ 30)
      c.loop-i.invariant c.loop-i.auto.scores c.requires.small (λ k i. term_small c.args.sums.now (i * c.args.stride + k) c.requires.terms) k b in
      omega arith;
  terms = c.requires.terms;
}

pub loop-i-preserved : goal.loop-i-preserved
loop-i-preserved c = Added-more (sending_term c.args.sums.now c.args.stride) _ _ _ _ c.loop-i.invariant c.add_sums.auto.scores c.add_sums.ensures
