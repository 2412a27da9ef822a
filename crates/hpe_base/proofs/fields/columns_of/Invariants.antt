-- The columns of the groups so far.
use Rattle.std.proofs.Common.{◌≡◌}
use Rattle.hpe_base.specs.Lists.{tabulate}
use Rattle.hpe_base.specs.Validity.{column_at}
use Rattle.hpe_base.proofs.fields.columns_of.Given as goal

abbrev pub invariant-loop-group : goal.invariant-loop-group
invariant-loop-group l = l.columns.items ≡ tabulate l.group (column_at l.text)
