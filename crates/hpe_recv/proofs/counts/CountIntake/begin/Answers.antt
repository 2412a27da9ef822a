use Rattle.std.proofs.Common.{arith, refl}
use Rattle.hpe_recv.proofs.Counting.{counted_start}
use Rattle.hpe_recv.proofs.counts.CountIntake.begin.Goals as goal

pub returns-clause-come : goal.returns-clause-come
returns-clause-come c = λ start. counted_start _ start (omega (arith, c.self.invariant.half)) (c.begin.ensures.come start) refl
