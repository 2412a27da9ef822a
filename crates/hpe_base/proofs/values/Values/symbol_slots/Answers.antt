use Rattle.std.proofs.Common.{arith}
use Rattle.std.proofs.Math.Nat.{mul-pos}
use Rattle.hpe_base.proofs.values.Values.symbol_slots.Goals as goal

pub returns-clause-some : goal.returns-clause-some
returns-clause-some c = mul-pos (omega arith) c.sending_slots.ensures.some
