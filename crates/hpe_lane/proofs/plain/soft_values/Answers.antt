use Rattle.std.proofs.Common.{arith, ℕ, List, ◌∷◌, [], ℤ, ◌+ℤ◌, refl}
use Rattle.hpe_base.specs.Greatest.{IsSoft}
use Rattle.hpe_base.specs.Trellis.{IsEdge}
use Rattle.hpe_base.specs.Sizes.{number_at}
use Rattle.hpe_lane.specs.OuterStage.{soft_bit}
use Rattle.hpe_lane.specs.OuterSums.{chosen_after}
use Rattle.hpe_lane.proofs.OuterFits.{kept_z, soft_value, mixed, mixed_within, mixed_picks}
use Rattle.hpe_lane.proofs.OuterEdges.{at_four}
use Rattle.hpe_lane.proofs.plain.soft_values.Goals as goal

pub difference-first-requires-clause-zero : goal.difference-first-requires-clause-zero
difference-first-requires-clause-zero c = mixed_within c.args.zero c.args.one c.args.zero c.args.one c.requires.zero c.requires.one c.requires.zero c.requires.one

pub difference-first-requires-clause-one : goal.difference-first-requires-clause-one
difference-first-requires-clause-one c = mixed_within c.args.one c.args.zero c.args.one c.args.zero c.requires.one c.requires.zero c.requires.one c.requires.zero

pub difference-second-requires-clause-zero : goal.difference-second-requires-clause-zero
difference-second-requires-clause-zero c = mixed_within c.args.zero c.args.one c.args.one c.args.zero c.requires.zero c.requires.one c.requires.one c.requires.zero

pub difference-second-requires-clause-one : goal.difference-second-requires-clause-one
difference-second-requires-clause-one c = mixed_within c.args.one c.args.zero c.args.zero c.args.one c.requires.one c.requires.zero c.requires.zero c.requires.one

pub returns : goal.returns
returns c =
    let f : List ℤ = c.args.fore in
    let a : List ℤ = c.args.zero in
    let b : List ℤ = c.args.one in
    let ha = c.requires.zero in
    let hb = c.requires.one in
    at_four (λ k. IsSoft (IsEdge 2 4) (λ (e : ℕ × ℕ). soft_bit k e.0 e.1) (λ e. number_at f e.0 +ℤ chosen_after a b e.0 e.1)
    (number_at (kept_z c.difference-input.result ∷ kept_z c.difference-first.result ∷ kept_z c.difference-second.result ∷ kept_z c.difference-second.result ∷ []) k))
    (soft_value f a b a b 0 c.difference-input.result (omega arith) c.requires.fore ha hb (λ p h. refl) (λ p h. refl) c.difference-input.ensures)
    (soft_value f a b (mixed a b a b) (mixed b a b a) 1 c.difference-first.result (omega arith) c.requires.fore ha hb
    (mixed_picks a b 1 1 b a b a hb ha hb ha refl refl refl refl) (mixed_picks a b 1 0 a b a b ha hb ha hb refl refl refl refl) c.difference-first.ensures)
    (soft_value f a b (mixed a b b a) (mixed b a a b) 2 c.difference-second.result (omega arith) c.requires.fore ha hb
    (mixed_picks a b 2 1 b a a b hb ha ha hb refl refl refl refl) (mixed_picks a b 2 0 a b b a ha hb hb ha refl refl refl refl) c.difference-second.ensures)
    (soft_value f a b (mixed a b b a) (mixed b a a b) 3 c.difference-second.result (omega arith) c.requires.fore ha hb
    (mixed_picks a b 3 1 b a a b hb ha ha hb refl refl refl refl) (mixed_picks a b 3 0 a b b a ha hb hb ha refl refl refl refl) c.difference-second.ensures)
