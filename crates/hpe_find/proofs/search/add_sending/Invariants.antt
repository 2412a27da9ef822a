use Rattle.hpe_find.proofs.Sums.{Added}
use Rattle.hpe_find.proofs.Terms.{symbol_term}
use Rattle.hpe_find.proofs.search.add_sending.Given as goal

abbrev pub invariant-loop-r : goal.invariant-loop-r
invariant-loop-r l = Added (symbol_term l.p l.counts l.start) l.initial.sums l.sums l.r
