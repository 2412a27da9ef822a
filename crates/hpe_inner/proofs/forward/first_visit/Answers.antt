use Rattle.std.proofs.Common.{◌≡◌, ℕ, ◌<◌, ◌∙◌, ◌++◌, ap, rules, ℤ, List, length, drop}
use Rattle.std.proofs.lemmas.List.{places}
use Rattle.hpe_base.specs.Sizes.{number_at}
use Rattle.hpe_lane.specs.Parts.{stage_edge}
use Rattle.hpe_inner.proofs.KeptEdges.{edges_by_place}
use Rattle.hpe_inner.proofs.forward.first_visit.Goals as goal

in_front : (xs ys : List ℤ) (i : ℕ) → length xs ≡ 4 → i < 4 → number_at (xs ++ ys) i ≡ number_at xs i
in_front xs ys i e h = search (rules, places)

pub returns-clause-edges : goal.returns-clause-edges
returns-clause-edges g c = λ many.
    let best : List ℤ = c.best_edges-best.result in
    edges_by_place (length c.args.stage.l.now) (stage_edge c.args.stage.counts.now c.args.stage.l.now 0) best (c.copy_from_slice.new.self ++ drop 4 c.args.places.now)
    (λ i h. ap (λ (xs : List ℤ). number_at (xs ++ drop 4 c.args.places.now) i) c.copy_from_slice.ensures.after ∙ in_front best (drop 4 c.args.places.now) i (search rules) h)
    c.best_edges-best.ensures
