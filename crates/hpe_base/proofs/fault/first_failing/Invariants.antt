-- The tests so far hold.
use Rattle.std.proofs.Common.{◌≡◌, drop}
use Rattle.hpe_base.specs.Validity.{first_failing}
use Rattle.hpe_base.proofs.fault.first_failing.Given as goal

abbrev pub invariant-loop-test : goal.invariant-loop-test
invariant-loop-test g l = first_failing l.tests ≡ first_failing (drop l.test-index l.tests)
