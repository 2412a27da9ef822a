-- The flags of the columns so far.
use Rattle.std.proofs.Common.{◌≡◌, ◌≤◌, ◌*◌, take}
use Rattle.std.specs.Prelude.{sum_by}
use Rattle.hpe_base.specs.Parameters.{flags_set}
use Rattle.hpe_base.proofs.columns.flags_in_all.Given as goal

abbrev pub invariant-loop-column : goal.invariant-loop-column
invariant-loop-column l = record {
  sum : l.flags ≡ sum_by flags_set (take l.column-index l.columns);
  few : l.flags ≤ 3 * l.column-index;
}
