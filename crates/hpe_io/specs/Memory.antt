-- What contracts see of the sources and the sink in memory.
use Rattle.std.specs.Prelude.{ℕ, ◌+◌, ◌-◌, ◌%◌, ◌/◌, ◌==◌, ◌<◌, min, if◌then◌else◌, List, [], ◌∷◌, length, take, drop, slice_index, Contains}
use Rattle.hpe_io.specs.Devices.{next_count}

-- ---- sources

-- a list that is handed out in pieces: the octets left, the most octets of each call in turn, and the
-- number of calls
pub record Supply : Type 0 where
  pub left : List ℕ
  pub pieces : List ℕ
  pub calls : ℕ

-- the most octets that the next call hands out where so many are asked
abbrev pub most_of : Supply → ℕ → ℕ
most_of s asked =
    if length s.pieces == 0 then asked else min asked (slice_index s.pieces (s.calls % length s.pieces))

-- the number of octets that the next call hands out
abbrev pub taken_count : Supply → ℕ → ℕ
taken_count s asked = min (most_of s asked) (length s.left)

-- the supply after the next call
abbrev pub after_take : Supply → ℕ → Supply
after_take s asked = record {
  left = drop (taken_count s asked) s.left;
  pieces = s.pieces;
  calls = next_count s.calls;
}

-- a supply of which the calls with these numbers fail, and the count of the failures
pub record FaultySupply : Type 0 where
  pub supply : Supply
  pub failing : List ℕ
  pub faults : ℕ

-- the supply after a call that failed
abbrev pub after_failure : FaultySupply → FaultySupply
after_failure s = record {
  supply = record { left = s.supply.left; pieces = s.supply.pieces; calls = next_count s.supply.calls };
  failing = s.failing;
  faults = next_count s.faults;
}

-- ---- the sink

-- octets written with room for so many, the numbers of the calls that fail, the number of calls and the
-- count of faults
pub record Store : Type 0 where
  pub bytes : List ℕ
  pub room : ℕ
  pub failing : List ℕ
  pub calls : ℕ
  pub faults : ℕ

-- the next call is one that fails
abbrev pub IsToFail : Store → Type 0
IsToFail s = Contains s.failing s.calls

-- the piece is longer than the room that is left
abbrev pub PassesRoom : Store → List ℕ → Type 0
PassesRoom s piece = s.room < length s.bytes + length piece

-- the octets of the piece for which there is room
abbrev pub fitting : Store → List ℕ → List ℕ
fitting s piece = take (s.room - length s.bytes) piece

-- the first half, rounded down
abbrev pub first_half : List ℕ → List ℕ
first_half piece = take (length piece / 2) piece

-- one more than the room where the list of failing calls is empty, else 0
abbrev pub mark_in : List ℕ → ℕ → ℕ
mark_in [] room = room + 1
mark_in (n ∷ ns) room = 0

-- the mark of a sink in memory
abbrev pub mark_of : Store → ℕ
mark_of s = mark_in s.failing s.room
