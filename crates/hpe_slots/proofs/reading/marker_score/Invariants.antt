use Rattle.hpe_slots.proofs.Scoring.{Scoring}
use Rattle.hpe_slots.proofs.reading.marker_score.Given as goal

abbrev pub invariant-loop-symbol : goal.invariant-loop-symbol
invariant-loop-symbol l = Scoring l.p l.window l.symbol-index l.start l.score
