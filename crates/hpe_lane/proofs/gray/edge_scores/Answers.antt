use Rattle.std.proofs.Common.{◌≡◌, ℕ, ◌^◌, ◌<◌, ◌+ℤ◌, ℤ, pos, length, get_or, arith, ◌∙◌, ap}
use Rattle.hpe_lane.proofs.DifferingBits.{gray_scores_within, turned_edges}
use Rattle.hpe_lane.proofs.gray.edge_scores.Goals as goal

pub add_mirrored-requires-clause-scores : goal.add_mirrored-requires-clause-scores
add_mirrored-requires-clause-scores c = gray_scores_within c.args.l.now c.gray_scores.new.out c.requires.stage.few.1 (omega arith) c.requires.stage.within c.gray_scores.ensures

pub add_counts-requires-clause-scores : goal.add_counts-requires-clause-scores
add_counts-requires-clause-scores c = gray_scores_within c.args.l.now c.gray_scores.new.out c.requires.stage.few.1 (omega arith) c.requires.stage.within c.gray_scores.ensures

pub returns-clause-from1 : goal.returns-clause-from1
returns-clause-from1 c = λ v h.
    let n : ℕ = length c.gray_scores.new.out in
    let e : n ≡ 2 ^ length c.args.l.now = omega arith in
    let k : v < n = omega arith in
    c.add_mirrored.ensures v k ∙ ap (λ (z : ℤ). pos (get_or c.args.counts.now v 0) +ℤ z) (turned_edges c.args.l.now c.gray_scores.new.out n v e k c.gray_scores.ensures)
