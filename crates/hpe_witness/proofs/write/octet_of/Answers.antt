use Rattle.std.proofs.Common.{◌+◌, get_or}
use Rattle.hpe_base.specs.Termination.{terminated}
use Rattle.hpe_base.proofs.Numbers.{double_below}
use Rattle.hpe_witness.proofs.Writing.{bits-more}
use Rattle.hpe_witness.proofs.write.octet_of.Goals as goal

pub loop-i-preserved : goal.loop-i-preserved
loop-i-preserved c = record {
  few = double_below c.loop-i.i c.loop-i.octet c.input_at.result c.loop-i.invariant.few c.input_at.ensures.bit;
  bits = bits-more (λ k. get_or (terminated c.args.u.now) (c.args.first + k) 0) c.loop-i.octet c.input_at.result c.loop-i.i c.input_at.ensures.bit c.loop-i.invariant.bits c.input_at.ensures.input;
}
