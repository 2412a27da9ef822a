use Rattle.std.proofs.Common.{rules}
use Rattle.hpe_witness.proofs.Writing.{row-written}
use Rattle.hpe_witness.proofs.write.put_row.Goals as goal

pub returns-clause-row : goal.returns-clause-row
returns-clause-row c =
    row-written c.args.at c.args.row.now c.put_potential.new.into c.put_potential-2.new.into c.put_potential-3.new.into c.put_potential-4.new.into c.told-row
    (search rules) (search rules) (search rules) (search rules)
    c.put_potential-2.ensures.below c.put_potential-3.ensures.below c.put_potential-4.ensures.below
