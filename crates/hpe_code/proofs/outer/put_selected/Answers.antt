use Rattle.std.proofs.Common.{arith}
use Rattle.hpe_code.proofs.PutBits.{put-set, put-unset, room_for_one}
use Rattle.hpe_code.proofs.outer.put_selected.Goals as goal
use Rattle.hpe_code.proofs.outer.put_selected.Goals.{then-flags-i, else-flags-i}

pub bounds-into-next : goal.bounds-into-next
bounds-into-next c =
    room_for_one c.args.flags.now c.args.bits.now _ _ c.loop-i.i _ c.loop-i.into (omega arith) (omega arith) (omega arith) c.if-flags-i.true c.loop-i.invariant

pub loop-i-preserved : goal.loop-i-preserved
loop-i-preserved c =
    elim c.if-flags-i.branch [
      | then-flags-i w ↦
          put-set _ _ _ _ c.loop-i.i c.loop-i.into c.loop-i.next _ _ (omega arith) (omega arith)
          (room_for_one c.args.flags.now c.args.bits.now _ _ c.loop-i.i _ c.loop-i.into (omega arith) (omega arith) (omega arith) w.if-flags-i.true c.loop-i.invariant)
          w.if-flags-i.true w.next-is w.into-is c.loop-i.invariant
      | else-flags-i w ↦
          put-unset _ _ _ _ c.loop-i.i c.loop-i.into c.loop-i.next _ _ (omega arith) (omega arith) w.if-flags-i.false w.next-is w.into-is c.loop-i.invariant
    ]
