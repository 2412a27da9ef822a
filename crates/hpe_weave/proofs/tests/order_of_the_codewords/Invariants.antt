use Rattle.std.proofs.Common.{◌≡◌}
use Rattle.hpe_base.specs.declared.profile.Order.TheVariants.{P16}
use Rattle.hpe_weave.proofs.tests.order_of_the_codewords.Given as goal

abbrev pub invariant-loop-received : goal.invariant-loop-received
invariant-loop-received g l = l.unweaver.parameters.order ≡ P16
