use Rattle.std.proofs.Common.{◌≡◌, ◌<◌, ℕ, get_or, vec_len}
use Rattle.hpe_base.specs.CodeInterleaver.{pi}
use Rattle.hpe_code.proofs.interleaver.CodeTables.new.Given as goal

abbrev pub invariant-loop-j : goal.invariant-loop-j
invariant-loop-j l = (vec_len l.places ≡ l.j) × ((k : ℕ) → k < l.j → get_or l.places.items k 0 ≡ pi k)
