use Rattle.hpe_weave.proofs.Undone.{channel_interleaver_is_undone}
use Rattle.hpe_weave.proofs.laws.channel_interleaver_is_undone.Goals as goal

pub returns : goal.returns
returns c = channel_interleaver_is_undone
