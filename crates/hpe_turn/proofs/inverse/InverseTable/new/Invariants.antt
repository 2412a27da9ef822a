use Rattle.std.proofs.Common.{◌≡◌, ◌<◌, ℕ, get_or, vec_len}
use Rattle.hpe_base.specs.CodeInterleaver.{pi_inverse}
use Rattle.hpe_turn.proofs.inverse.InverseTable.new.Given as goal

abbrev pub invariant-loop-e : goal.invariant-loop-e
invariant-loop-e l = (vec_len l.places ≡ l.e) × ((k : ℕ) → k < l.e → get_or l.places.items k 0 ≡ pi_inverse k)
