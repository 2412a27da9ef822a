use Rattle.std.proofs.Common.{◌≡◌, ℕ, ◌^◌, ◌<◌, ◌≤◌, length, arith, subst}
use Rattle.hpe_base.specs.Sizes.{number_at}
use Rattle.hpe_inner.proofs.ForwardRow.{two_or_more, edges_within, stage_top}
use Rattle.hpe_inner.proofs.forward.step_with.Goals as goal

pub step_forward-requires-clause-some : goal.step_forward-requires-clause-some
step_forward-requires-clause-some g c =
    let t : 2 ≤ 2 ^ length c.args.stage.l.now = two_or_more (length c.args.stage.l.now) c.requires.stage.few.0 in
    let n : length c.edge_scores.new.from0 ≡ 2 ^ length c.args.stage.l.now = omega arith in
    omega arith

pub step_forward-requires-clause-edges0 : goal.step_forward-requires-clause-edges0
step_forward-requires-clause-edges0 g c =
    let n : length c.edge_scores.new.from0 ≡ length c.args.stage.counts.now = omega arith in
    edges_within 0 (length c.args.stage.counts.now) c.args.stage.counts.now c.args.stage.l.now c.edge_scores.new.from0 c.requires.stage.few.1 n c.requires.stage.most c.requires.stage.within c.edge_scores.ensures.from0

pub step_forward-requires-clause-edges1 : goal.step_forward-requires-clause-edges1
step_forward-requires-clause-edges1 g c =
    let n : length c.edge_scores.new.from1 ≡ length c.args.stage.counts.now = omega arith in
    edges_within 1 (length c.args.stage.counts.now) c.args.stage.counts.now c.args.stage.l.now c.edge_scores.new.from1 c.requires.stage.few.1 n c.requires.stage.most c.requires.stage.within c.edge_scores.ensures.from1

pub returns-clause-row : goal.returns-clause-row
returns-clause-row g c = λ b h.
    let n : length c.edge_scores.new.from0 ≡ length c.args.stage.counts.now = omega arith in
    let size : length c.edge_scores.new.from0 ≡ 2 ^ length c.args.stage.l.now = omega arith in
    stage_top c.args.stage.counts.now c.args.stage.l.now c.edge_scores.new.from0 c.edge_scores.new.from1 c.args.row (length c.edge_scores.new.from0) (2 ^ length c.args.stage.l.now) b (number_at c.step_forward.result b) size
    (λ v p. c.edge_scores.ensures.from0 v (subst (λ (k : ℕ). v < k) n p)) (λ v p. c.edge_scores.ensures.from1 v (subst (λ (k : ℕ). v < k) n p)) (c.step_forward.ensures.row b h)
