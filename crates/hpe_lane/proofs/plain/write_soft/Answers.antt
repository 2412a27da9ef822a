use Rattle.std.proofs.Common.{◌≡◌, ℕ, ◌%◌, ◌^◌, ◌<◌, ◌+ℤ◌, ℤ, List, length, arith, sym, ◌∙◌, ap, subst}
use Rattle.hpe_base.specs.Greatest.{IsSoft}
use Rattle.hpe_base.specs.Trellis.{IsEdge}
use Rattle.hpe_base.specs.Sizes.{number_at}
use Rattle.hpe_lane.specs.Edges.{edge_of, input_bit}
use Rattle.hpe_lane.specs.Near.{Near}
use Rattle.hpe_lane.specs.Parts.{joint_edge}
use Rattle.hpe_lane.proofs.Joint.{in_fours, around_zero, around_one, around_zero_within, around_one_within, edges_within, soft_joint, joint_near}
use Rattle.hpe_lane.proofs.plain.write_soft.Goals as goal

pub join-requires-clause-fours : goal.join-requires-clause-fours
join-requires-clause-fours c = ap (λ (n : ℕ). n % 4) c.requires.joint ∙ in_fours (length c.args.out.now) c.requires.edges.few.0

pub join-requires-clause-around0 : goal.join-requires-clause-around0
join-requires-clause-around0 c = around_zero_within c.args.fore c.args.back c.requires.fore c.requires.back

pub join-requires-clause-around1 : goal.join-requires-clause-around1
join-requires-clause-around1 c = around_one_within c.args.fore c.args.back c.requires.fore c.requires.back

pub fold_soft-requires-clause-near : goal.fold_soft-requires-clause-near
fold_soft-requires-clause-near c =
    let m : ℕ = length c.args.out.now in
    let joint : List ℤ = c.join.new.joint in
    let long : length joint ≡ 2 ^ m = omega arith in
    let all : length c.args.joint.now ≡ 2 ^ m = c.requires.joint in
    subst (λ (n : ℕ). Near 1200294894 n joint) (sym long)
    (joint_near m (omega arith) c.args.fore c.args.back joint (edge_of c.args.from0.now c.args.from1.now) c.requires.fore c.requires.back
    (subst (λ (n : ℕ). (v : ℕ) → v < n → number_at joint v ≡ joint_edge n (edge_of c.args.from0.now c.args.from1.now) (around_zero c.args.fore c.args.back) (around_one c.args.fore c.args.back) v) all c.join.ensures)
    (edges_within c.args.from0.now c.args.from1.now c.requires.edges.small0 c.requires.edges.small1))

pub returns : goal.returns
returns c = λ i h.
    let m : ℕ = length c.args.out.now in
    let joint : List ℤ = c.join.new.joint in
    let all : length c.args.joint.now ≡ 2 ^ m = c.requires.joint in
    let z : ℤ = number_at c.fold_soft.new.out i in
    subst (λ (n : ℕ). IsSoft (IsEdge n 2) (λ (e : ℕ × ℕ). input_bit m i e.0 e.1) (λ e. number_at c.args.fore e.0 +ℤ (edge_of c.args.from0.now c.args.from1.now e.0 e.1 +ℤ number_at c.args.back (e.1 % 2))) z) (sym c.requires.edges.long0)
    (soft_joint m (omega arith) c.args.fore c.args.back joint (edge_of c.args.from0.now c.args.from1.now) c.requires.fore c.requires.back
    (subst (λ (n : ℕ). (v : ℕ) → v < n → number_at joint v ≡ joint_edge n (edge_of c.args.from0.now c.args.from1.now) (around_zero c.args.fore c.args.back) (around_one c.args.fore c.args.back) v) all c.join.ensures)
    i z h (c.fold_soft.ensures i h))
