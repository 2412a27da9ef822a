use Rattle.std.proofs.Common.{rules, ◌<◌, ◌≡◌, ◌∙◌, ℕ, ℤ, List, subst, sym, pos, get_or, of_z, to_z, w32, lit<, ◌+ℤ◌, ◌≤ℤ◌}
use Rattle.hpe_base.specs.Sizes.{number_at}
use Rattle.hpe_base.specs.Greatest.{IsSoft}
use Rattle.hpe_lane.specs.Edges.{input_bit}
use Rattle.hpe_lane.specs.Eights.{soft_of_eight}
use Rattle.hpe_lane.proofs.Soft.{IsSoft-score}
use Rattle.hpe_lane.proofs.Eights.{softs_are, set_three}
use Rattle.hpe_lane.proofs.fold.fold_eight.Goals as goal

pub softs_of_eight-ends-requires : goal.softs_of_eight-ends-requires
softs_of_eight-ends-requires c = record {
  near = λ v w h k.
      subst (λ (z : ℤ). z ≤ℤ (number_at c.first_eight.result w +ℤ pos 1200294894)) (sym (c.first_eight.ensures v h))
      (subst (λ (z : ℤ). number_at c.args.scores.now v ≤ℤ (z +ℤ pos 1200294894)) (sym (c.first_eight.ensures w k)) (c.requires.near v w h k));
}

pub returns : goal.returns
returns c = λ i h.
    let xs : List ℤ = c.args.scores.now in
    let ys : List ℤ = c.first_eight.result in
    let ends : List ℤ = c.softs_of_eight-ends.result in
    let e0 : to_z w32 (of_z w32 (get_or ends 0 (pos 0))) ≡ number_at ends 0 = search rules in
    let e1 : to_z w32 (of_z w32 (get_or ends 1 (pos 0))) ≡ number_at ends 1 = search rules in
    let e2 : to_z w32 (of_z w32 (get_or ends 2 (pos 0))) ≡ number_at ends 2 = search rules in
    subst (IsSoft (λ (v : ℕ). v < 8) (input_bit 3 i 0) (number_at xs))
    (sym (set_three (soft_of_eight (number_at ys)) _ _ _ (e0 ∙ c.softs_of_eight-ends.ensures 0 (lit< tt)) (e1 ∙ c.softs_of_eight-ends.ensures 1 (lit< tt)) (e2 ∙ c.softs_of_eight-ends.ensures 2 (lit< tt)) c.args.out.now c.requires.three i h))
    (IsSoft-score (λ v p. sym (c.first_eight.ensures v p)) (softs_are (number_at ys) i h))
