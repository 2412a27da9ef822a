use Rattle.std.proofs.Common.{◌<◌, ℕ}
use Rattle.hpe_base.specs.Sizes.{number_at, Within}
use Rattle.hpe_uses.proofs.tests.are_small.Given as goal

abbrev pub invariant-loop-number : goal.invariant-loop-number
invariant-loop-number l = (i : ℕ) → i < l.number-index → Within 16383 (number_at l.l i)
