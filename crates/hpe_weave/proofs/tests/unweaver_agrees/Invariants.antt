use Rattle.std.proofs.Common.{◌≡◌}
use Rattle.hpe_weave.proofs.tests.unweaver_agrees.Given as goal

abbrev pub invariant-loop-c : goal.invariant-loop-c
invariant-loop-c g l = l.unweaver.parameters ≡ l.p
