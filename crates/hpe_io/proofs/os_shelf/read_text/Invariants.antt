use Rattle.std.proofs.Common.{◌-◌, ◌+◌}
use Rattle.std.specs.Vec.{vec_len}
use Rattle.hpe_io.proofs.os_shelf.read_text.Given as goal

abbrev pub decreases-reads : goal.decreases-reads
decreases-reads g l = 65536 + 1 - vec_len l.into + l.patience.left
