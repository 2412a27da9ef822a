use Rattle.hpe_clear.proofs.ClearDecoded.{clear_decoded}
use Rattle.hpe_clear.proofs.laws.clear_channel_is_decoded.Goals as goal

pub returns : goal.returns
returns c = clear_decoded
