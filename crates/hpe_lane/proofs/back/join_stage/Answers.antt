use Rattle.std.proofs.Common.{arith, ◌≡◌, ℕ, ℤ, ◌^◌, ◌<◌, List, length, sym, ◌∙◌, subst}
use Rattle.hpe_lane.proofs.BestBack.{joint_whole}
use Rattle.hpe_lane.proofs.BestEdges.{parts_are}
use Rattle.hpe_lane.proofs.back.join_stage.Goals as goal

pub join_blocks-requires-clause-parts : goal.join_blocks-requires-clause-parts
join_blocks-requires-clause-parts c =
    parts_are c.args.stage.counts.now c.write_parts.new.blocks c.write_parts.new.eight (length c.args.stage.l.now) c.requires.many c.requires.stage.long (omega arith) (omega arith) c.requires.stage.most c.write_parts.ensures.small c.write_parts.ensures.small_eight

pub returns : goal.returns
returns c = λ v h.
    let counts : List ℕ = c.args.stage.counts.now in
    let l : List ℤ = c.args.stage.l.now in
    let long : length counts ≡ 2 ^ length l = c.requires.stage.long in
    c.join_blocks.ensures v (subst (λ (n : ℕ). v < n) (sym long) h)
    ∙ joint_whole counts l c.write_parts.new.blocks c.write_parts.new.eight c.args.around0 c.args.around1 v long h (c.write_parts.ensures.sum v h)
