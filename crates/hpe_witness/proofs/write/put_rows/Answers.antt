use Rattle.std.proofs.Common.{arith, ◌∙◌}
use Rattle.hpe_witness.proofs.Writing.{rows-written}
use Rattle.hpe_witness.proofs.write.put_rows.Goals as goal

pub loop-t-preserved : goal.loop-t-preserved
loop-t-preserved c = record {
  rows = rows-written c.args.from c.loop-t.t c.args.rows.now c.loop-t.into c.put_row.new.into c.loop-t.invariant.rows c.put_row.ensures.row c.put_row.ensures.below;
  below = λ k h. c.put_row.ensures.below k (omega arith) ∙ c.loop-t.invariant.below k h;
}
