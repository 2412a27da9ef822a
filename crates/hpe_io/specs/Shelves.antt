-- What a shelf says of the texts that it has under names.
use Rattle.std.specs.Prelude.{◌≡◌, ◌≢◌, ◌⊎◌, ◌≤◌, if◌then◌else◌, ℕ, List, [], ◌∷◌, length, nat_le, Option, Some, None, Result, Ok, Err, bytes_eq}
use Rattle.hpe_io.specs.Devices.{Rose}
use Rattle.hpe_io.specs.declared.shelf.ShelfFault.{ShelfFault}
use Rattle.hpe_io.specs.declared.shelf.ShelfFault.TheVariants.{Failed, Absent, TooLong, NoMemory}

-- a name and the text under it
pub record Named : Type 0 where
  pub name : List ℕ
  pub text : List ℕ

-- the text under the name
unfoldable pub text_under : List Named → List ℕ → Option (List ℕ)
text_under [] name = None
text_under (t ∷ ts) name = if bytes_eq t.name name then Some t.text else text_under ts name

-- the most octets of a text that is fetched
abbrev pub most_octets : ℕ
most_octets = 65536

-- what is answered of the text under a name where no fault is met and there is memory
abbrev pub fetched : Option (List ℕ) → Result (List ℕ) ShelfFault
fetched None = Err Absent
fetched (Some text) = if nat_le (length text) most_octets then Ok text else Err TooLong

-- the answer of a fetch, with the octets that it left
abbrev pub with_octets : {T E : Type 0} → Result T E → List ℕ → Result (List ℕ) E
with_octets (Ok t) octets = Ok octets
with_octets (Err e) octets = Err e

-- a fetch answered what the texts settle, or that it failed or found no memory
abbrev pub Fetches : {T : Type 0} → List Named → List ℕ → Result T ShelfFault → List ℕ → Type 0
Fetches texts name result octets =
    (with_octets result octets ≡ fetched (text_under texts name)) ⊎ ((result ≡ Err Failed) ⊎ (result ≡ Err NoMemory))

-- a count of faults never falls, a fetch fails only where it rose, and at each other answer it stays
pub record HasShelfCause {T : Type 0} (before now : ℕ) (result : Result T ShelfFault) : Type 0 where
  pub later : before ≤ now
  pub failed : result ≡ Err Failed → Rose before now
  pub kept : result ≢ Err Failed → now ≡ before

-- ---- in memory

-- texts under names, the numbers of the fetches that fail, the number of fetches and the count of faults
pub record Shelved : Type 0 where
  pub texts : List Named
  pub failing : List ℕ
  pub calls : ℕ
  pub faults : ℕ
