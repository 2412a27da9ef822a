-- Laws of the best word and of records.
use Rattle.std.specs.Prelude.{◌≡◌, ℕ, ℤ, List, length, Bool, Ok, Err}
use Rattle.std.specs.declared.result.Result.{Result}
use Rattle.hpe_base.specs.Parameters.{Parameters, clamp, information_bits}
use Rattle.hpe_base.specs.Sizes.{AllWithin}
use Rattle.hpe_witness.specs.Potentials.{potential_most, PotentialsWithin}
use Rattle.hpe_witness.specs.BestWord.{IsBest, best_word}
use Rattle.hpe_witness.specs.PathCheck.{IsPathAnswer}
use Rattle.hpe_witness.specs.Record.{IsRecord, IsRecordAnswer}
use Rattle.hpe_witness.specs.declared.check.PathFault.{PathFault}
use Rattle.hpe_witness.specs.declared.audit.Refusal.{Refusal}
use Rattle.hpe_witness.specs.declared.audit.Refusal.TheVariants.{Path}

-- one answer holds for a path: so each fault is answered exactly where it is the first that holds
abbrev pub PathAnswersAreUnique : Type 0
PathAnswersAreUnique =
    (columns : List (List Bool)) (l : List ℤ) (u : List ℕ) (rows : List (List ℤ)) (a b : Result ℤ PathFault)
    → IsPathAnswer columns l u rows a → IsPathAnswer columns l u rows b → a ≡ b

-- and one for a record
abbrev pub RecordAnswersAreUnique : Type 0
RecordAnswersAreUnique =
    (p : Parameters) (octets : List ℕ) (a b : Result (ℕ × ℤ) Refusal)
    → IsRecordAnswer p octets a → IsRecordAnswer p octets b → a ≡ b

-- branching over both values of each bit gives the best word
abbrev pub BestWordsAreBest : Type 0
BestWordsAreBest = (columns : List (List Bool)) (l : List ℤ) (n : ℕ) → IsBest columns l n (best_word columns l n)

-- the answer for a record whose path is answered so
abbrev pub with_word : ℕ → Result ℤ PathFault → Result (ℕ × ℤ) Refusal
with_word word (Ok b) = Ok (word, b)
with_word word (Err fault) = Err (Path fault)

-- the record of fields within their bounds is answered as its path
abbrev pub RecordsAreAnsweredAsPaths : Type 0
RecordsAreAnsweredAsPaths =
    (p : Parameters) (word : ℕ) (l : List ℤ) (u : List ℕ) (rows : List (List ℤ)) (octets : List ℕ)
    (a : Result ℤ PathFault) (r : Result (ℕ × ℤ) Refusal)
    → AllWithin clamp l → length u ≡ information_bits p.rate → PotentialsWithin potential_most rows
    → IsRecord p.rate word l u rows octets → IsPathAnswer p.columns l u rows a → IsRecordAnswer p octets r
    → r ≡ with_word word a
