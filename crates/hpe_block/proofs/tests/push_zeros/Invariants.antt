use Rattle.std.proofs.Common.{◌≡◌, ◌≤◌}
use Rattle.hpe_block.proofs.tests.push_zeros.Given as goal

abbrev pub invariant-loop : goal.invariant-loop
invariant-loop l = (l.blocks ≤ l.counter) × (l.slicer.parameters ≡ l.fn.slicer.parameters)
