use Rattle.std.proofs.Common.{◌-◌, length, drop, arith, length-drop}
use Rattle.std.proofs.lemmas.List.{take_all}
use Rattle.hpe_io.proofs.Passing.{written_more}
use Rattle.hpe_io.proofs.system.write_out.Goals as goal

pub writes-preserved-in-Ok : goal.writes-preserved-in-Ok
writes-preserved-in-Ok g c =
    let piece = c.args.piece.now in
    let rest = take_all (length piece - c.writes.at) (drop c.writes.at piece) (omega (arith, length-drop c.writes.at piece)) in
    written_more _ _ _ _ _ _ _ c.writes.invariant rest c.in-Ok.ensures.bound c.in-Ok.ensures.bytes
