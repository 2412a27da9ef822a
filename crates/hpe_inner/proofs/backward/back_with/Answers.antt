use Rattle.std.proofs.Common.{◌≡◌, ℕ, ◌<◌, ◌+ℤ◌, ◌%◌, ◌^◌, length, arith, sym, subst}
use Rattle.hpe_base.specs.Greatest.{IsSoft}
use Rattle.hpe_base.specs.Trellis.{IsEdge}
use Rattle.hpe_base.specs.Sizes.{number_at}
use Rattle.hpe_lane.specs.Stages.{AreEdges}
use Rattle.hpe_lane.specs.Edges.{edge_of, input_bit}
use Rattle.hpe_inner.proofs.ForwardRow.{edges_within}
use Rattle.hpe_inner.proofs.BackwardRow.{row_stage, soft_stage}
use Rattle.hpe_inner.proofs.backward.back_with.Goals as goal

pub step_back-requires-clause-edges : goal.step_back-requires-clause-edges
step_back-requires-clause-edges g c =
    let n0 : length c.edge_scores.new.from0 ≡ length c.args.stage.counts.now = omega arith in
    let n1 : length c.edge_scores.new.from1 ≡ length c.args.stage.counts.now = omega arith in
    subst (λ (m : ℕ). AreEdges m c.edge_scores.new.from0 c.edge_scores.new.from1) (sym c.requires.out) record {
      few = c.requires.stage.few;
      long0 = omega arith;
      long1 = omega arith;
      small0 = edges_within 0 (length c.args.stage.counts.now) c.args.stage.counts.now c.args.stage.l.now c.edge_scores.new.from0 c.requires.stage.few.1 n0 c.requires.stage.most c.requires.stage.within c.edge_scores.ensures.from0;
      small1 = edges_within 1 (length c.args.stage.counts.now) c.args.stage.counts.now c.args.stage.l.now c.edge_scores.new.from1 c.requires.stage.few.1 n1 c.requires.stage.most c.requires.stage.within c.edge_scores.ensures.from1;
    }

pub returns-clause-row : goal.returns-clause-row
returns-clause-row g c = λ s h.
    let n : length c.edge_scores.new.from0 ≡ length c.args.stage.counts.now = omega arith in
    let size : length c.edge_scores.new.from0 ≡ 2 ^ length c.args.stage.l.now = omega arith in
    row_stage c.args.stage.counts.now c.args.stage.l.now c.edge_scores.new.from0 c.edge_scores.new.from1 c.args.between.back (length c.edge_scores.new.from0) (2 ^ length c.args.stage.l.now) s (number_at c.step_back.result s) h size
    (λ v p. c.edge_scores.ensures.from0 v (subst (λ (k : ℕ). v < k) n p)) (λ v p. c.edge_scores.ensures.from1 v (subst (λ (k : ℕ). v < k) n p)) (c.step_back.ensures.row s h)

pub returns-clause-soft : goal.returns-clause-soft
returns-clause-soft g c = λ i h.
    let n : length c.edge_scores.new.from0 ≡ length c.args.stage.counts.now = omega arith in
    let size : length c.edge_scores.new.from0 ≡ 2 ^ length c.args.stage.l.now = omega arith in
    let m : length c.args.out.now ≡ length c.args.stage.l.now = c.requires.out in
    soft_stage c.args.stage.counts.now c.args.stage.l.now c.edge_scores.new.from0 c.edge_scores.new.from1 c.args.between.fore c.args.between.back (length c.edge_scores.new.from0) (2 ^ length c.args.stage.l.now) (length c.args.stage.l.now) i (number_at c.step_back.new.out i) size
    (λ v p. c.edge_scores.ensures.from0 v (subst (λ (k : ℕ). v < k) n p)) (λ v p. c.edge_scores.ensures.from1 v (subst (λ (k : ℕ). v < k) n p))
    (subst (λ (k : ℕ). IsSoft (IsEdge (length c.edge_scores.new.from0) 2) (λ (e : ℕ × ℕ). input_bit k i e.0 e.1) (λ e. number_at c.args.between.fore e.0 +ℤ (edge_of c.edge_scores.new.from0 c.edge_scores.new.from1 e.0 e.1 +ℤ number_at c.args.between.back (e.1 % 2))) (number_at c.step_back.new.out i)) m
    (c.step_back.ensures.soft i (subst (λ (k : ℕ). i < k) (sym m) h)))
