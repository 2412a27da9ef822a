use Rattle.std.proofs.Common.{◌≡◌, ◌-◌, ◌≤◌, length}
use Rattle.hpe_base.specs.MarkerSearch.{score}
use Rattle.hpe_find.specs.Leading.{Leads}
use Rattle.hpe_find.proofs.search.best_offset.Given as goal

abbrev pub invariant-loop-from : goal.invariant-loop-from
invariant-loop-from l = record {
  leads : Leads (score l.p l.counts) l.from l.best.offset l.best.score;
  within : l.from ≤ l.period;
  scores : length l.scores ≡ 8192;
  sums : length l.sums ≡ 18112;
}

abbrev pub decreases-loop-from : goal.decreases-loop-from
decreases-loop-from l = l.period - l.from
