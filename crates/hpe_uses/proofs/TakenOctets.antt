-- What was taken of octets in memory.
use Rattle.std.proofs.Common.{◌≡◌, ◌≤◌, ◌∙◌, ◌++◌, ℕ, List, [], length, take, Some, arith, ap, sym, inl, inr, append-nil, length-append}
use Rattle.std.proofs.lemmas.Bool.{cases_lt}
use Rattle.std.proofs.lemmas.List.{take_all, take-append-le}
use Rattle.std.proofs.Math.Seq.{take-append_seam}
use Rattle.std.specs.Io.KnownBytes.{prepend_known}
use Rattle.hpe_io.specs.Devices.{ReadsAll, TakesCount}

-- octets and those that are left make all of them
pub taken_before : (octets left taken : List ℕ) → Some octets ≡ prepend_known taken (Some left) → octets ≡ taken ++ left
taken_before octets left taken e = let l : Some octets ≡ Some (taken ++ left) = e in cc

-- at the end all are taken
pub taken_to_end : (octets left taken : List ℕ) → ReadsAll (Some octets) (Some left) taken → taken ≡ octets
taken_to_end octets left taken h =
    let none : left ≡ [] = h.ended in
    sym (taken_before octets left taken h.lost ∙ ap (λ (l : List ℕ). taken ++ l) none ∙ append-nil taken)

-- so many octets are no more than all
pub taken_count : (octets left : List ℕ) (n : ℕ) → TakesCount (Some octets) (Some left) n → n ≤ length octets
taken_count octets left n h =
    omega (arith, h.count, ap (λ (l : List ℕ). length l) (taken_before octets left h.octets h.lost), length-append h.octets left)

-- those within a limit are a front of all
pub taken_front : (limit : ℕ) (octets left taken : List ℕ) → octets ≡ taken ++ left → (n : ℕ) × (take limit taken ≡ take n octets)
taken_front limit octets left taken e = elim (cases_lt (length taken) limit) [
  | inl more ↦ (length taken, take_all limit taken (omega arith) ∙ sym (ap (λ (l : List ℕ). take (length taken) l) e ∙ take-append_seam taken left))
  | inr within ↦ (limit, sym (ap (λ (l : List ℕ). take limit l) e ∙ take-append-le limit taken left within))
]
