use Rattle.hpe_frame.proofs.GivenBlocks.{frames_given}
use Rattle.hpe_frame.proofs.laws.frames_of_known_blocks_are_delivered.Goals as goal

pub returns : goal.returns
returns c = λ p octets given v small first. frames_given p octets given v small first
