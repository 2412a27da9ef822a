-- What the mark of a sink in memory settles.
use Rattle.std.proofs.Common.{◌≡◌, ℕ, List, [], ◌∷◌, arith, refl}
use Rattle.hpe_io.specs.Memory.{mark_in}

-- a sink with the mark of one that has no failing calls has none and the same room
pub mark_in-none : (failing : List ℕ) (room before : ℕ) → mark_in failing room ≡ mark_in [] before → (failing ≡ []) × (room ≡ before)
mark_in-none [] room before e = (refl, omega arith)
mark_in-none (n ∷ ns) room before e = absurd (omega arith)
