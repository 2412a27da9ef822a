use Rattle.std.proofs.Common.{◌≡◌, ◌+◌, ◌*◌, ◌/◌, ◌%◌, List, ◌∷◌, [], ℤ, ℕ, pos, ◌+ℤ◌, sym, subst}
use Rattle.hpe_base.specs.Sizes.{number_at, Within}
use Rattle.hpe_lane.specs.OuterStage.{edge_sum}
use Rattle.hpe_lane.proofs.OuterFits.{kept_z, none_is, first_is, second_is, all_is}
use Rattle.hpe_lane.proofs.OuterEdges.{at_four, edge_sum_within}
use Rattle.hpe_lane.proofs.Vectors.{at_eight}
use Rattle.hpe_lane.proofs.outer.edges_to.Goals as goal

pub returns-clause-even : goal.returns-clause-even
returns-clause-even c =
    let l : List ℤ = c.args.l in
    let f : ℤ = kept_z (number_at l 0) in
    let s : ℤ = kept_z (kept_z (number_at l 1) +ℤ kept_z (number_at l 2)) in
    let a : ℤ = kept_z (f +ℤ s) in
    at_four (λ (q : ℕ). number_at (pos 0 ∷ s ∷ a ∷ f ∷ a ∷ f ∷ pos 0 ∷ s ∷ []) q ≡ edge_sum l (2 * (q % 2)) (q / 2)) (none_is l) (second_is l c.requires.l) (all_is l c.requires.l) (first_is l c.requires.l)

pub returns-clause-odd : goal.returns-clause-odd
returns-clause-odd c =
    let l : List ℤ = c.args.l in
    let f : ℤ = kept_z (number_at l 0) in
    let s : ℤ = kept_z (kept_z (number_at l 1) +ℤ kept_z (number_at l 2)) in
    let a : ℤ = kept_z (f +ℤ s) in
    at_four (λ (q : ℕ). number_at (pos 0 ∷ s ∷ a ∷ f ∷ a ∷ f ∷ pos 0 ∷ s ∷ []) (4 + q) ≡ edge_sum l (2 * (q % 2) + 1) (q / 2)) (all_is l c.requires.l) (first_is l c.requires.l) (none_is l) (second_is l c.requires.l)

pub returns-clause-small : goal.returns-clause-small
returns-clause-small c =
    let l : List ℤ = c.args.l in
    let f : ℤ = kept_z (number_at l 0) in
    let s : ℤ = kept_z (kept_z (number_at l 1) +ℤ kept_z (number_at l 2)) in
    let a : ℤ = kept_z (f +ℤ s) in
    at_eight (λ (q : ℕ). Within 49149 (number_at (pos 0 ∷ s ∷ a ∷ f ∷ a ∷ f ∷ pos 0 ∷ s ∷ []) q)) (subst (Within 49149) (sym (none_is l)) (edge_sum_within l 0 0 c.requires.l)) (subst (Within 49149) (sym (second_is l c.requires.l)) (edge_sum_within l 2 0 c.requires.l)) (subst (Within 49149) (sym (all_is l c.requires.l)) (edge_sum_within l 0 1 c.requires.l)) (subst (Within 49149) (sym (first_is l c.requires.l)) (edge_sum_within l 2 1 c.requires.l)) (subst (Within 49149) (sym (all_is l c.requires.l)) (edge_sum_within l 1 0 c.requires.l)) (subst (Within 49149) (sym (first_is l c.requires.l)) (edge_sum_within l 3 0 c.requires.l)) (subst (Within 49149) (sym (none_is l)) (edge_sum_within l 1 1 c.requires.l)) (subst (Within 49149) (sym (second_is l c.requires.l)) (edge_sum_within l 3 1 c.requires.l))
