-- No entry so far has the name.
use Rattle.std.proofs.Common.{◌≡◌, drop}
use Rattle.hpe_io.specs.Shelves.{text_under}
use Rattle.hpe_io.proofs.mem_shelf.text_under.Given as goal

abbrev pub invariant-loop-entry : goal.invariant-loop-entry
invariant-loop-entry l = text_under l.entries l.name ≡ text_under (drop l.entry-index l.entries) l.name
