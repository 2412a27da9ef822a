use Rattle.std.proofs.Common.{ℕ, ◌<◌, [], get_or}
use Rattle.hpe_base.specs.Sizes.{AllWithin}
use Rattle.hpe_witness.proofs.audit.potentials_are_within.Given as goal

abbrev pub invariant-loop-row : goal.invariant-loop-row
invariant-loop-row l = (t : ℕ) → t < l.row-index → AllWithin l.most (get_or l.rows t [])
