use Rattle.std.proofs.Common.{arith}
use Rattle.hpe_block.proofs.Register.{stepped_below, stepped_top}
use Rattle.hpe_block.proofs.randomiser.stepped.Goals as goal

pub returns-clause-moved : goal.returns-clause-moved
returns-clause-moved c = λ i h. stepped_below c.args.taps c.args.register i (omega arith) h

pub returns-clause-entered : goal.returns-clause-entered
returns-clause-entered c = stepped_top c.args.taps c.args.register (omega arith)
