use Rattle.std.proofs.Common.{◌≡◌}
use Rattle.hpe_base.specs.declared.profile.Order.TheVariants.{P16}
use Rattle.hpe_weave.proofs.tests.there_and_back.Given as goal

abbrev pub invariant-loop-place : goal.invariant-loop-place
invariant-loop-place g l = l.unweaver.parameters.order ≡ P16
