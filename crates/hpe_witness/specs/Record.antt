-- Records of witnesses, as octets: the mark, the word's number, the a-priori numbers, the word, the potentials.
use Rattle.std.specs.Prelude.{◌≡◌, ◌≢◌, ℕ, ◌+◌, ◌-◌, ◌*◌, ◌/◌, ◌%◌, ◌<◌, ℤ, List, [], ◌∷◌, length, take, drop, slice_index, Ok, Err}
use Rattle.std.specs.declared.result.Result.{Result}
use Rattle.std.specs.Int.{bit_at, w16, w32, cast_signed}
use Rattle.byteorder.specs.Endian.{big_number}
use Rattle.hpe_base.specs.Lists.{tabulate}
use Rattle.hpe_base.specs.Parameters.{Parameters, clamp, codeword_bits, code_steps, information_bits}
use Rattle.hpe_base.specs.declared.profile.Rate.{Rate}
use Rattle.hpe_base.specs.Sizes.{AllWithin}
use Rattle.hpe_base.specs.Termination.{terminated}
use Rattle.hpe_witness.specs.Potentials.{potential_most, PotentialsWithin}
use Rattle.hpe_witness.specs.PathCheck.{IsPathAnswer, IsBestScore}
use Rattle.hpe_witness.specs.declared.check.PathFault.{PathFault}
use Rattle.hpe_witness.specs.declared.audit.Refusal.{Refusal}
use Rattle.hpe_witness.specs.declared.audit.Refusal.TheVariants.{Mark, Range, Pad, Path}

-- HPEW in ASCII
abbrev pub record_mark : List ℕ
record_mark = 72 ∷ 80 ∷ 69 ∷ 87 ∷ []

-- where the word's number, the a-priori numbers, the word's bits and the potentials stand
abbrev pub word_place : ℕ
word_place = 4

abbrev pub numbers_place : ℕ
numbers_place = 8

abbrev pub bits_place : ℕ
bits_place = numbers_place + 2 * codeword_bits

abbrev pub rows_place : Rate → ℕ
rows_place r = bits_place + code_steps r / 8

-- the octets of four potentials
abbrev pub row_octets : ℕ
row_octets = 16

-- the octets of a record
abbrev pub record_octets : Rate → ℕ
record_octets r = rows_place r + row_octets * (code_steps r + 1)

-- the word's number
abbrev pub word_in : List ℕ → ℕ
word_in octets = big_number 4 (drop word_place octets)

-- a-priori number i
abbrev pub number_in : List ℕ → ℕ → ℤ
number_in octets i = cast_signed w16 (big_number 2 (drop (numbers_place + 2 * i) octets))

-- all of them
abbrev pub numbers_in : List ℕ → List ℤ
numbers_in octets = tabulate codeword_bits (number_in octets)

-- bit i of the word and of the two that end it
abbrev pub bit_in : List ℕ → ℕ → ℕ
bit_in octets i = bit_at (slice_index octets (bits_place + i / 8)) (7 - i % 8)

-- the first n of them
abbrev pub bits_in : ℕ → List ℕ → List ℕ
bits_in n octets = tabulate n (bit_in octets)

-- the potential that stands from a place on
abbrev pub potential_at : List ℕ → ℕ → ℤ
potential_at octets at = cast_signed w32 (big_number 4 (drop at octets))

-- the four that stand from there on
abbrev pub row_at : List ℕ → ℕ → List ℤ
row_at octets at =
    potential_at octets at ∷ potential_at octets (at + 4) ∷ potential_at octets (at + 8)
    ∷ potential_at octets (at + 12) ∷ []

-- the rows of potentials
abbrev pub rows_in : Rate → List ℕ → List (List ℤ)
rows_in r octets = tabulate (code_steps r + 1) (λ t. row_at octets (rows_place r + row_octets * t))

-- the octets are the record of these fields
pub record IsRecord
    (r : Rate) (word : ℕ) (l : List ℤ) (u : List ℕ) (rows : List (List ℤ)) (octets : List ℕ) : Type 0 where
  pub size : length octets ≡ record_octets r
  pub mark : take 4 octets ≡ record_mark
  pub word_number : word_in octets ≡ word
  pub numbers : numbers_in octets ≡ l
  pub bits : bits_in (code_steps r) octets ≡ terminated u
  pub potentials : rows_in r octets ≡ rows

-- every number and potential of the record is within its bound
pub record IsInBounds (r : Rate) (octets : List ℕ) : Type 0 where
  pub numbers : AllWithin clamp (numbers_in octets)
  pub potentials : PotentialsWithin potential_most (rows_in r octets)

-- the two bits that end the word are 0
abbrev pub IsPadded : Rate → List ℕ → Type 0
IsPadded r octets = (bit_in octets (code_steps r - 2) ≡ 0) × (bit_in octets (code_steps r - 1) ≡ 0)

-- the answer for the path in a record
abbrev pub IsAnswerInside : Parameters → List ℕ → Result ℤ PathFault → Type 0
IsAnswerInside p octets answer =
    IsPathAnswer p.columns (numbers_in octets) (bits_in (information_bits p.rate) octets) (rows_in p.rate octets) answer

-- the answer for a record: the first refusal that holds, or the word's number and its score
abbrev pub IsRecordAnswer : Parameters → List ℕ → Result (ℕ × ℤ) Refusal → Type 0
IsRecordAnswer p octets (Err Mark) = take 4 octets ≢ record_mark
IsRecordAnswer p octets (Err Range) = (take 4 octets ≡ record_mark) × (IsInBounds p.rate octets → ⊥)
IsRecordAnswer p octets (Err Pad) =
    (take 4 octets ≡ record_mark) × IsInBounds p.rate octets × (IsPadded p.rate octets → ⊥)
IsRecordAnswer p octets (Err (Path fault)) =
    (take 4 octets ≡ record_mark) × IsInBounds p.rate octets × IsPadded p.rate octets
    × IsAnswerInside p octets (Err fault)
IsRecordAnswer p octets (Ok answer) =
    (take 4 octets ≡ record_mark) × IsInBounds p.rate octets × IsPadded p.rate octets
    × IsAnswerInside p octets (Ok answer.1) × (answer.0 ≡ word_in octets)

-- the word of the record scores b, and no word scores more
abbrev pub IsBestInside : Parameters → List ℕ → ℤ → Type 0
IsBestInside p octets b =
    IsBestScore p.columns (numbers_in octets) (bits_in (information_bits p.rate) octets) b

-- what is written from a place on leaves what stands before it
abbrev pub IsSameBelow : ℕ → List ℕ → List ℕ → Type 0
IsSameBelow place old new = (k : ℕ) → k < place → slice_index new k ≡ slice_index old k
