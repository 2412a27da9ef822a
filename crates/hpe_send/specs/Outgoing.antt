-- Octets on their way to a sink.
use Rattle.std.specs.Prelude.{ℕ, ◌≡◌, List, ◌++◌}
use Rattle.std.specs.declared.option.Option.{Option}
use Rattle.std.specs.Io.KnownBytes.{append_known}

-- of all octets that were due since the sink stood at start, these are held and the others are written
abbrev pub IsPending : Option (List ℕ) → Option (List ℕ) → List ℕ → List ℕ → Type 0
IsPending start now held all = (sent : List ℕ) × (now ≡ append_known start sent) × (all ≡ sent ++ held)
