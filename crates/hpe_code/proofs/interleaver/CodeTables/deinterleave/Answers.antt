use Rattle.std.proofs.Common.{arith, refl}
use Rattle.std.proofs.lemmas.List.{get_or_read_under}
use Rattle.hpe_code.proofs.Moves.{MovedSoFar-more}
use Rattle.hpe_code.proofs.interleaver.CodeTables.deinterleave.Goals as goal

pub loop-j-preserved : goal.loop-j-preserved
loop-j-preserved g c =
    MovedSoFar-more c.args.from.now c.loop-j.into c.loop-j.j c.pi.result c.index-from-j.result (omega arith) (omega arith) c.pi.ensures
    (λ d. get_or_read_under c.args.from.now c.loop-j.j _ c.index-from-j.result d c.index-from-j.is c.loop-j-test.true refl) c.loop-j.invariant
