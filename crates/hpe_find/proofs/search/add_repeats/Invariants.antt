use Rattle.hpe_find.proofs.Sums.{Added}
use Rattle.hpe_find.proofs.Terms.{sending_term}
use Rattle.hpe_find.proofs.search.add_repeats.Given as goal

abbrev pub invariant-loop-i : goal.invariant-loop-i
invariant-loop-i l = Added (sending_term l.sums l.stride) l.initial.scores l.scores l.i
