-- Laws of the definitions.
use Rattle.std.specs.Prelude.{◌≡◌, ◌<◌, ◌+◌, ◌*◌, ℕ, List, [], Bool, true, ℤ, All, sum, slice_index}
use Rattle.hpe_base.specs.Lists.{tabulate}
use Rattle.hpe_base.specs.Parameters.{Parameters, IsValid, positions, sending_slots}
use Rattle.hpe_base.specs.Counts.{counts_of, odd_octets}
use Rattle.hpe_base.specs.Slots.{octets_to, slots_to}
use Rattle.hpe_base.specs.ReceivedWords.{symbol_sums}
use Rattle.hpe_base.specs.SoftValues.{scaled}
use Rattle.hpe_base.specs.Trellis.{IsPath}
use Rattle.hpe_base.specs.GreatestScores.{top_from, IsTop}

-- branching over both values of every bit gives the greatest score of all words of n bits that are asked for
abbrev pub TopsAreGreatest : Type 0
TopsAreGreatest =
    (asked : List ℕ → Bool) (score : List ℕ → ℤ) (n : ℕ) → IsTop (λ (x : List ℕ). IsPath 2 n x × (asked x ≡ true)) score (top_from asked score n [])

-- the sums of a symbol before they are cut
abbrev pub whole_sums : Parameters → List ℕ → ℕ → List ℕ
whole_sums p counts start =
    tabulate (positions p.order) (λ v. sum (tabulate p.repeat (λ i. slice_index counts (start + i * sending_slots p.order + v))))

-- octets are their own counts, none is odd, no sum of them is cut, and slots are their own octets
pub record IsPlain (p : Parameters) : Type 0 where
  pub counts : (octets : List ℕ) → counts_of p octets ≡ octets
  pub odd : (octets : List ℕ) → odd_octets p octets ≡ 0
  pub sums : (octets : List ℕ) (start : ℕ) → All (λ octet. octet < 256) octets → symbol_sums p octets start ≡ whole_sums p octets start
  pub slots : (n : ℕ) (symbols : List ℕ) → octets_to p n symbols ≡ slots_to p n symbols

-- with one octet a count
abbrev pub OneOctetIsPlain : Type 0
OneOctetIsPlain = (p : Parameters) → IsValid p → p.count_octets ≡ 1 → IsPlain p

-- eight eighths of a number are the number
abbrev pub EightEighthsAreWhole : Type 0
EightEighthsAreWhole = (v : ℤ) → scaled 8 v ≡ v
