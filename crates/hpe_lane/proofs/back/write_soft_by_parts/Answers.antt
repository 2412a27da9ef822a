use Rattle.std.proofs.Common.{arith, ◌≡◌, ℕ, ℤ, ◌/◌, ◌^◌, List, length, sym, ◌∙◌, subst}
use Rattle.hpe_base.specs.Sizes.{number_at}
use Rattle.hpe_lane.specs.Near.{Near}
use Rattle.hpe_lane.specs.Parts.{stage_edge}
use Rattle.hpe_lane.specs.Stages.{AreListSoft}
use Rattle.hpe_lane.proofs.BestEdges.{eighth, stage-within}
use Rattle.hpe_lane.proofs.Blocks.{take_long}
use Rattle.hpe_lane.proofs.Joint.{around_zero_within, around_one_within, soft_joint, joint_near}
use Rattle.hpe_lane.proofs.back.write_soft_by_parts.Goals as goal

pub join_stage-requires-clause-around0 : goal.join_stage-requires-clause-around0
join_stage-requires-clause-around0 g c = around_zero_within c.args.between.fore c.args.between.back c.requires.fore c.requires.back

pub join_stage-requires-clause-around1 : goal.join_stage-requires-clause-around1
join_stage-requires-clause-around1 g c = around_one_within c.args.between.fore c.args.between.back c.requires.fore c.requires.back

pub join_stage-requires-clause-blocks : goal.join_stage-requires-clause-blocks
join_stage-requires-clause-blocks g c =
    let e = eighth (length c.args.stage.l.now) (length c.args.stage.counts.now) c.requires.many c.requires.stage.few.1 c.requires.stage.long in
    take_long (length c.args.stage.counts.now / 8) _ e.1 ∙ e.0

pub fold_soft-requires-clause-near : goal.fold_soft-requires-clause-near
fold_soft-requires-clause-near g c =
    let counts : List ℕ = c.args.stage.counts.now in
    let l : List ℤ = c.args.stage.l.now in
    let joint : List ℤ = c.join_stage.new.joint in
    let long : length joint ≡ 2 ^ length l = omega arith in
    subst (λ (n : ℕ). Near 1200294894 n joint) (sym long)
    (joint_near (length l) (omega arith) c.args.between.fore c.args.between.back joint (stage_edge counts l) c.requires.fore c.requires.back c.join_stage.ensures
    (λ s v h. stage-within counts l s v c.requires.stage.few.1 c.requires.stage.most c.requires.stage.within))

pub returns : goal.returns
returns g c = λ i h.
    let counts : List ℕ = c.args.stage.counts.now in
    let l : List ℤ = c.args.stage.l.now in
    let joint : List ℤ = c.join_stage.new.joint in
    let soft : AreListSoft (length l) (2 ^ length l) (length l) joint c.fold_soft.new.out =
    subst (λ (m : ℕ). AreListSoft m (2 ^ m) m joint c.fold_soft.new.out) c.requires.out c.fold_soft.ensures in
    soft_joint (length l) (omega arith) c.args.between.fore c.args.between.back joint (stage_edge counts l) c.requires.fore c.requires.back c.join_stage.ensures
    i (number_at c.fold_soft.new.out i) h (soft i h)
