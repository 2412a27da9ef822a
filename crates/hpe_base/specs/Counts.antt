-- Counts as octets: the count of a slot takes one octet or two, the high octet first.
use Rattle.std.specs.Prelude.{if◌then◌else◌, ℕ, ◌+◌, ◌-◌, ◌*◌, ◌/◌, ◌%◌, ◌==◌, List, length, slice_index}
use Rattle.hpe_base.specs.Lists.{tabulate}
use Rattle.hpe_base.specs.Parameters.{Parameters}

-- count i of octets of which each count takes w
abbrev pub count_at : ℕ → List ℕ → ℕ → ℕ
count_at w octets i = if w == 1 then slice_index octets i else 256 * slice_index octets (2 * i) + slice_index octets (2 * i + 1)

-- the counts that octets write; an octet of a count that isn't whole plays no part
unfoldable pub counts_of : Parameters → List ℕ → List ℕ
counts_of p octets = tabulate (length octets / p.count_octets) (count_at p.count_octets octets)

-- how many octets of a count that isn't whole stand at the end
abbrev pub odd_octets : Parameters → List ℕ → ℕ
odd_octets p octets = length octets % p.count_octets

-- of counts below 256 that f gives, the octet at a place: the last of the w octets of a count is the count
abbrev pub low_octet : ℕ → (ℕ → ℕ) → ℕ → ℕ
low_octet w f place = if place % w == w - 1 then f (place / w) else 0
