use Rattle.hpe_find.proofs.Sums.{Added}
use Rattle.hpe_find.proofs.Terms.{period_term}
use Rattle.hpe_find.proofs.search.score_row.Given as goal

abbrev pub invariant-loop-j : goal.invariant-loop-j
invariant-loop-j l = Added (period_term l.p l.counts l.from) l.initial.scores l.scores l.j
