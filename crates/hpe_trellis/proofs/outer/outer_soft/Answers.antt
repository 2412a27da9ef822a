use Rattle.std.proofs.Common.{rules, arith, ◌+◌, length}
use Rattle.hpe_trellis.proofs.KeptBits.{kept_total}
use Rattle.hpe_trellis.proofs.outer.outer_soft.Goals as goal

pub soft_values-requires-clause-task : goal.soft_values-requires-clause-task
soft_values-requires-clause-task g c = record {
  word = record {
    are_columns = c.requires.columns;
    three = λ i h. search rules;
    short = c.requires.short;
    within = c.requires.within;
  };
  free = c.requires.free;
  long = kept_total c.args.columns.now (length c.args.info.now + 2) (length c.args.l.now) c.requires.l;
  code_long = c.requires.code;
  rows_long = c.requires.rows;
}

pub returns-clause-information_tops : goal.returns-clause-information_tops
returns-clause-information_tops g c = λ j b h k. (c.soft_values.ensures.soft.information j (omega arith) h).tops b k

pub returns-clause-code_tops : goal.returns-clause-code_tops
returns-clause-code_tops g c = λ i b h k. (c.soft_values.ensures.soft.code_bits i (omega arith) h).tops b k
