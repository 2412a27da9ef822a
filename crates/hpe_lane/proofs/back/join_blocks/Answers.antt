use Rattle.std.proofs.Common.{arith, ◌+◌, ◌*◌}
use Rattle.hpe_lane.specs.Parts.{joint_part}
use Rattle.hpe_lane.proofs.Blocks.{put_more}
use Rattle.hpe_lane.proofs.back.join_blocks.Goals as goal

pub loop-w-preserved : goal.loop-w-preserved
loop-w-preserved c =
    put_more (8 * c.loop-w.w) _ (8 * (c.loop-w.w + 1)) c.loop-w.joint c.join_block.new.joint
    (joint_part c.args.parts.counts.now c.args.parts.blocks.now c.args.parts.eight.now c.args.around0 c.args.around1) (omega arith) (omega arith) c.loop-w.invariant
    (λ i h. c.join_block.ensures i (omega arith))
