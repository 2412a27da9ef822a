use Rattle.std.proofs.Common.{◌≡◌, ℕ, ◌*◌, ◌<◌}
use Rattle.hpe_base.specs.Sizes.{number_at}
use Rattle.hpe_lane.specs.Parts.{joint_part}
use Rattle.hpe_lane.proofs.back.join_blocks.Given as goal

abbrev pub invariant-loop-w : goal.invariant-loop-w
invariant-loop-w l = (v : ℕ) → v < 8 * l.w → number_at l.joint v ≡ joint_part l.parts.counts.now l.parts.blocks.now l.parts.eight.now l.around0 l.around1 v
