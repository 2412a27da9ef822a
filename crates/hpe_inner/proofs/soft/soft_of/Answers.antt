use Rattle.hpe_base.specs.Sizes.{number_at}
use Rattle.hpe_base.proofs.ParameterLemmas.{symbol_bits-low}
use Rattle.hpe_inner.proofs.BackwardRow.{soft-value, soft-tops, each_place}
use Rattle.hpe_inner.proofs.soft.soft_of.Goals as goal

pub returns-clause-soft : goal.returns-clause-soft
returns-clause-soft g c = λ j h.
    soft-value c.args.order c.args.counts.now c.args.l.now j (number_at c.backward_sweep.new.out j)
    (each_place c.args.order c.bits.result c.args.counts.now c.args.l.now c.backward_sweep.new.out c.bits.ensures (symbol_bits-low c.args.order) c.requires.whole c.backward_sweep.ensures.soft j h)

pub returns-clause-tops : goal.returns-clause-tops
returns-clause-tops g c = λ j b h low.
    soft-tops c.args.order c.args.counts.now c.args.l.now j b (number_at c.backward_sweep.new.out j) low
    (each_place c.args.order c.bits.result c.args.counts.now c.args.l.now c.backward_sweep.new.out c.bits.ensures (symbol_bits-low c.args.order) c.requires.whole c.backward_sweep.ensures.soft j h)
