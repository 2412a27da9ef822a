use Rattle.std.proofs.Common.{rules, [], sym, subst}
use Rattle.hpe_base.specs.Parameters.{IsValid}
use Rattle.hpe_rows.proofs.Parts.{has_none}
use Rattle.hpe_rows.proofs.SymbolRows.{passed-none}
use Rattle.hpe_rows.proofs.rows.Rows.new.Goals as goal

pub returns-clause-stands : goal.returns-clause-stands
returns-clause-stands c = has_none _ (passed-none c.copy.result _ (subst IsValid (sym c.copy.ensures) c.order.ensures.valid) c.in_ok-unweaver.ensures.stands) (search rules)

pub invariant_of-result : goal.invariant_of-result
invariant_of-result c = record {
  unweaver = search rules;
  slots = search rules;
  slots_most = search rules;
  period = search rules;
  symbol = search rules;
  begun = search rules;
  room = search rules;
  row = search rules;
  counts = [];
  stands = returns-clause-stands c;
}
