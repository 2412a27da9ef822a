-- A channel without noise.
use Rattle.std.specs.Prelude.{ℕ, ◌*◌, List, ◌++◌}
use Rattle.hpe_base.specs.Bits.{zeros}
use Rattle.hpe_base.specs.Parameters.{Parameters}

-- the octets of slots that are sent after d dark slots
abbrev pub clear : Parameters → ℕ → List ℕ → List ℕ
clear p d octets = zeros (p.count_octets * d) ++ octets
