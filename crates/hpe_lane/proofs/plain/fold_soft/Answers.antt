use Rattle.std.proofs.Common.{rules, ◌≡◌, ℕ, ◌-◌, ◌/◌, ◌^◌, ◌<◌, length, List, sym, ◌∙◌, ap, subst, w32, ℤ, to_z, of_z, arith, take, drop}
use Rattle.hpe_base.specs.Greatest.{IsSoft}
use Rattle.hpe_base.specs.Sizes.{number_at}
use Rattle.hpe_lane.proofs.FoldLoop.{first_turn, size_within, part_long, part_some, part_even, part_near, next_size, turn_folded, turn_soft}
use Rattle.hpe_lane.proofs.plain.fold_soft.Goals as goal

pub loop-i-init : goal.loop-i-init
loop-i-init c =
    let none : length c.args.out.now ≡ length c.args.out.now - 0 = omega arith in
    record {
      size = c.requires.scores ∙ ap (λ (k : ℕ). 2 ^ k) none;
      folded = first_turn (length c.args.out.now) c.args.scores.now;
      soft = λ i h. absurd (omega (arith, h));
    }

pub slice_bounds-fold-end : goal.slice_bounds-fold-end
slice_bounds-fold-end c =
    let long : length c.loop-i.scores ≡ 2 ^ length c.args.out.now = c.loop-i.auto.scores ∙ c.requires.scores in
    size_within (length c.args.out.now) c.loop-i.i c.loop-i.size c.args.scores.now c.loop-i.scores c.loop-i-test.true c.loop-i.invariant.size long c.loop-i.invariant.folded

pub slice_bounds-fold-end-in-loop-i : goal.slice_bounds-fold-end-in-loop-i
slice_bounds-fold-end-in-loop-i c =
    let long : length c.loop-i.scores ≡ 2 ^ length c.args.out.now = c.loop-i.auto.scores ∙ c.requires.scores in
    sym (part_long (length c.args.out.now) c.loop-i.i c.loop-i.size c.args.scores.now c.loop-i.scores c.loop-i-test.true c.loop-i.invariant.size long c.loop-i.invariant.folded)

pub fold-requires-clause-some : goal.fold-requires-clause-some
fold-requires-clause-some c =
    let long : length c.loop-i.scores ≡ 2 ^ length c.args.out.now = c.loop-i.auto.scores ∙ c.requires.scores in
    part_some (length c.args.out.now) c.loop-i.i c.loop-i.size c.args.scores.now c.loop-i.scores c.loop-i-test.true c.loop-i.invariant.size long c.loop-i.invariant.folded

pub fold-requires-clause-even : goal.fold-requires-clause-even
fold-requires-clause-even c =
    let long : length c.loop-i.scores ≡ 2 ^ length c.args.out.now = c.loop-i.auto.scores ∙ c.requires.scores in
    part_even (length c.args.out.now) c.loop-i.i c.loop-i.size c.args.scores.now c.loop-i.scores c.loop-i-test.true c.loop-i.invariant.size long c.loop-i.invariant.folded

pub fold-requires-clause-near : goal.fold-requires-clause-near
fold-requires-clause-near c =
    let long : length c.loop-i.scores ≡ 2 ^ length c.args.out.now = c.loop-i.auto.scores ∙ c.requires.scores in
    part_near (length c.args.out.now) c.loop-i.i c.loop-i.size c.args.scores.now c.loop-i.scores c.loop-i-test.true c.loop-i.invariant.size long c.loop-i.invariant.folded
    1200294894 c.requires.near c.requires.scores

pub loop-i-preserved : goal.loop-i-preserved
loop-i-preserved c =
    let m : ℕ = length c.args.out.now in
    let i : ℕ = c.loop-i.i in
    let size : ℕ = c.loop-i.size in
    let start : List ℤ = c.args.scores.now in
    let now : List ℤ = c.loop-i.scores in
    let z : ℤ = c.fold.result in
    let long : length now ≡ 2 ^ m = c.loop-i.auto.scores ∙ c.requires.scores in
    let kept : length c.loop-i.out ≡ m = c.loop-i.auto.out in
    let inside : i < length c.loop-i.out = omega (arith, kept, c.loop-i-test.true) in
    let e : to_z w32 (of_z w32 z) ≡ z = search rules in
    let soft = subst (IsSoft (λ (v : ℕ). v < length (take size now)) (λ v. v / (length (take size now) / 2)) (number_at (take size now))) (sym e) c.fold.ensures.soft in
    record {
      size = next_size m i size start now c.loop-i-test.true c.loop-i.invariant.size long c.loop-i.invariant.folded;
      folded = turn_folded m i size start now c.loop-i-test.true c.loop-i.invariant.size long c.loop-i.invariant.folded c.fold.new.scores (drop size now) c.fold.auto.scores c.fold.ensures.folded;
      soft = turn_soft m i size start now c.loop-i-test.true c.loop-i.invariant.size long c.loop-i.invariant.folded c.loop-i.out (to_z w32 (of_z w32 z)) inside c.loop-i.invariant.soft soft;
    }
