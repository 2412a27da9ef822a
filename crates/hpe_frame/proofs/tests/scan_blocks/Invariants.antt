use Rattle.std.proofs.Common.{◌≡◌, false}
use Rattle.hpe_base.specs.Parameters.{block_bits}
use Rattle.hpe_frame.proofs.tests.scan_blocks.Given as goal

abbrev pub invariant-loop-number : goal.invariant-loop-number
invariant-loop-number g l =
    (l.scan.spent ≡ false) × ((l.scan.blocks ≡ l.number) × (block_bits l.scan.parameters.rate ≡ 5006))
