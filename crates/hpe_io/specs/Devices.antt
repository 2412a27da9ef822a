-- What a source and a sink say of the octets that pass and of their faults.
use Rattle.std.specs.Prelude.{◌≡◌, ℕ, ◌+◌, ◌-◌, ◌^◌, ◌≤◌, ◌↔◌, min, List, [], length, take, drop, Result, OnErr, OnOk, MatchResult, IfSome}
use Rattle.std.specs.declared.option.Option.{Option}
use Rattle.std.specs.Io.KnownBytes.{prepend_known, append_known, IsAtEnd}

-- ---- faults

-- the count after this one, which stays at the last value of 64 bits
abbrev pub next_count : ℕ → ℕ
next_count count = min (count + 1) (2 ^ 64 - 1)

-- a count of faults rose, or stands at the last value that it can hold
abbrev pub Rose : ℕ → ℕ → Type 0
Rose before now = next_count before ≤ now

-- a count of faults never falls, a failure comes only where it rose, and without one it stays
pub record HasCause {T E : Type 0} (before now : ℕ) (result : Result T E) : Type 0 where
  pub later : before ≤ now
  pub failed : OnErr result (Rose before now)
  pub kept : OnOk result (now ≡ before)

-- ---- one call

-- a take that answered `n`: the first n octets of the buffer are what left lost, and where left is told the
-- rest of the buffer is as before and n is 0 exactly at the end
pub record Hands (old new : Option (List ℕ)) (n : ℕ) (before after : List ℕ) : Type 0 where
  pub fits : n ≤ length after
  pub lost : old ≡ prepend_known (take n after) new
  pub rest : IfSome old (λ xs. drop n after ≡ drop n before)
  pub ends : IfSome old (λ xs. (n ≡ 0) ↔ (xs ≡ []))

-- what a take did to the octets left and to the buffer: a failure leaves what is left
abbrev pub Takes : {E : Type 0} → Option (List ℕ) → Option (List ℕ) → Result ℕ E → List ℕ → List ℕ → Type 0
Takes old new result before after =
    MatchResult result (λ n. Hands old new n before after) (λ _. new ≡ old)

-- what was written grew by some front of the octets
abbrev pub GrowsByFront : Option (List ℕ) → Option (List ℕ) → List ℕ → Type 0
GrowsByFront old new octets = (n : ℕ) × (n ≤ length octets) × (new ≡ append_known old (take n octets))

-- what a put of the octets did to what was written: all of them, or after a failure some front
abbrev pub Puts : {T E : Type 0} → Option (List ℕ) → Option (List ℕ) → Result T E → List ℕ → Type 0
Puts old new result octets =
    MatchResult result (λ _. new ≡ append_known old octets) (λ _. GrowsByFront old new octets)

-- ---- many calls

-- these octets were taken, and nothing is left where that is told
pub record ReadsAll (old new : Option (List ℕ)) (octets : List ℕ) : Type 0 where
  pub lost : old ≡ prepend_known octets new
  pub ended : IsAtEnd new

-- n octets were taken
pub record TakesCount (old new : Option (List ℕ)) (n : ℕ) : Type 0 where
  pub octets : List ℕ
  pub count : length octets ≡ n
  pub lost : old ≡ prepend_known octets new

-- some octets were taken, at most n
pub record TakesAtMost (old new : Option (List ℕ)) (n : ℕ) : Type 0 where
  pub octets : List ℕ
  pub count : length octets ≤ n
  pub lost : old ≡ prepend_known octets new

-- some octets were written
pub record Grows (old new : Option (List ℕ)) : Type 0 where
  pub octets : List ℕ
  pub grown : new ≡ append_known old octets
