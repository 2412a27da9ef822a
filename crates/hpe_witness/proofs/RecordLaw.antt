-- One answer holds for a path and one for a record, and a record is answered as its path.
use Rattle.std.proofs.Common.{◌≡◌, ℕ, zero, suc, ◌≤ℤ◌, ◌<ℤ◌, ◌+◌, ◌-◌, ◌<◌, sym, ◌∙◌, ap, subst, refl, arith, ℤ, ◌+ℤ◌, List, [], ◌∷◌, ◌++◌, Bool, length, get_or, Ok, Err}
use Rattle.std.specs.declared.result.Result.{Result}
use Rattle.std.proofs.lemmas.Int.{ints}
use Rattle.std.proofs.lemmas.List.{ext_get_or, get_or-append-add}
use Rattle.std.proofs.Math.ListN.{get_or-append}
use Rattle.hpe_base.specs.Parameters.{Parameters, code_steps, information_bits}
use Rattle.hpe_base.specs.Sizes.{AllWithin}
use Rattle.hpe_base.specs.Termination.{terminated}
use Rattle.hpe_base.proofs.ParameterLemmas.{code_steps-ge}
use Rattle.hpe_base.proofs.Tabulated.{length-tabulate, get_or-tabulate}
use Rattle.hpe_lane.specs.OuterStage.{outer_next}
use Rattle.hpe_trellis.specs.OuterTrellis.{outer_edge}
use Rattle.hpe_witness.specs.Potentials.{potential, PotentialsWithin, IsRising, FallsSomewhere}
use Rattle.hpe_witness.specs.PathCheck.{IsPathAnswer}
use Rattle.hpe_witness.specs.Record.{bit_in, numbers_in, bits_in, rows_in, IsRecord, IsInBounds, IsPadded, IsAnswerInside, IsRecordAnswer}
use Rattle.hpe_witness.specs.Laws.{with_word, RecordsAreAnsweredAsPaths}
use Rattle.hpe_witness.specs.declared.check.PathFault.{PathFault}
use Rattle.hpe_witness.specs.declared.check.PathFault.TheVariants.{Start, Step, Score}
use Rattle.hpe_witness.specs.declared.audit.Refusal.{Refusal}
use Rattle.hpe_witness.specs.declared.audit.Refusal.TheVariants.{Mark, Range, Pad, Path}
use Rattle.hpe_witness.proofs.PathAnswers.{answer-same}

not_both : (a b : ℤ) → a <ℤ b → b ≤ℤ a → ⊥
not_both a b h k = omega (arith, ints)

-- potentials that rise fall nowhere
rises_or_falls : (columns : List (List Bool)) (l : List ℤ) (n : ℕ) (rows : List (List ℤ)) → IsRising columns l n rows → FallsSomewhere columns l n rows → ⊥
rises_or_falls columns l n rows h f =
    not_both (potential rows (f.step + 1) (outer_next f.state f.input)) (potential rows f.step f.state +ℤ outer_edge columns l f.step f.state f.input) f.falls (h.each f.step f.state f.input f.step_low f.state_low f.input_low)

module _ (columns : List (List Bool)) (l : List ℤ) (u : List ℕ) (rows : List (List ℤ)) where
  -- one answer holds
  pub path-answer-only : (a b : Result ℤ PathFault) → IsPathAnswer columns l u rows a → IsPathAnswer columns l u rows b → a ≡ b
  path-answer-only (Err Start) (Err Start) h k = refl
  path-answer-only (Err Start) (Err Step) h k = absurd (h k.0)
  path-answer-only (Err Start) (Err Score) h k = absurd (h k.0)
  path-answer-only (Err Start) (Ok b) h k = absurd (h k.0)
  path-answer-only (Err Step) (Err Start) h k = absurd (k h.0)
  path-answer-only (Err Step) (Err Step) h k = refl
  path-answer-only (Err Step) (Err Score) h k = absurd (rises_or_falls columns l (length u + 2) rows k.1 h.1)
  path-answer-only (Err Step) (Ok b) h k = absurd (rises_or_falls columns l (length u + 2) rows k.1 h.1)
  path-answer-only (Err Score) (Err Start) h k = absurd (k h.0)
  path-answer-only (Err Score) (Err Step) h k = absurd (rises_or_falls columns l (length u + 2) rows h.1 k.1)
  path-answer-only (Err Score) (Err Score) h k = refl
  path-answer-only (Err Score) (Ok b) h k = absurd (h.2 k.2)
  path-answer-only (Ok a) (Err Start) h k = absurd (k h.0)
  path-answer-only (Ok a) (Err Step) h k = absurd (rises_or_falls columns l (length u + 2) rows h.1 k.1)
  path-answer-only (Ok a) (Err Score) h k = absurd (k.2 h.2)
  path-answer-only (Ok a) (Ok b) h k = ap (λ (z : ℤ). Ok z) (h.3 ∙ sym k.3)

inside_only : (p : Parameters) (octets : List ℕ) (a b : Result ℤ PathFault) → IsAnswerInside p octets a → IsAnswerInside p octets b → a ≡ b
inside_only p octets a b h k = path-answer-only p.columns (numbers_in octets) (bits_in (information_bits p.rate) octets) (rows_in p.rate octets) a b h k

-- and one of a record
pub record-answer-only : (p : Parameters) (octets : List ℕ) (a b : Result (ℕ × ℤ) Refusal) → IsRecordAnswer p octets a → IsRecordAnswer p octets b → a ≡ b
record-answer-only p octets (Err Mark) (Err Mark) h k = refl
record-answer-only p octets (Err Mark) (Err Range) h k = absurd (h k.0)
record-answer-only p octets (Err Mark) (Err Pad) h k = absurd (h k.0)
record-answer-only p octets (Err Mark) (Err (Path g)) h k = absurd (h k.0)
record-answer-only p octets (Err Mark) (Ok y) h k = absurd (h k.0)
record-answer-only p octets (Err Range) (Err Mark) h k = absurd (k h.0)
record-answer-only p octets (Err Range) (Err Range) h k = refl
record-answer-only p octets (Err Range) (Err Pad) h k = absurd (h.1 k.1)
record-answer-only p octets (Err Range) (Err (Path g)) h k = absurd (h.1 k.1)
record-answer-only p octets (Err Range) (Ok y) h k = absurd (h.1 k.1)
record-answer-only p octets (Err Pad) (Err Mark) h k = absurd (k h.0)
record-answer-only p octets (Err Pad) (Err Range) h k = absurd (k.1 h.1)
record-answer-only p octets (Err Pad) (Err Pad) h k = refl
record-answer-only p octets (Err Pad) (Err (Path g)) h k = absurd (h.2 k.2)
record-answer-only p octets (Err Pad) (Ok y) h k = absurd (h.2 k.2)
record-answer-only p octets (Err (Path f)) (Err Mark) h k = absurd (k h.0)
record-answer-only p octets (Err (Path f)) (Err Range) h k = absurd (k.1 h.1)
record-answer-only p octets (Err (Path f)) (Err Pad) h k = absurd (k.2 h.2)
record-answer-only p octets (Err (Path f)) (Err (Path g)) h k = ap (with_word 0) (inside_only p octets (Err f) (Err g) h.3 k.3)
record-answer-only p octets (Err (Path f)) (Ok y) h k = ap (with_word y.0) (inside_only p octets (Err f) (Ok y.1) h.3 k.3)
record-answer-only p octets (Ok x) (Err Mark) h k = absurd (k h.0)
record-answer-only p octets (Ok x) (Err Range) h k = absurd (k.1 h.1)
record-answer-only p octets (Ok x) (Err Pad) h k = absurd (k.2 h.2)
record-answer-only p octets (Ok x) (Err (Path g)) h k = ap (with_word x.0) (inside_only p octets (Ok x.1) (Err g) h.3 k.3)
record-answer-only p octets (Ok x) (Ok y) h k = ap (λ (n : ℕ). Ok (n, x.1)) (h.4 ∙ sym k.4) ∙ ap (with_word y.0) (inside_only p octets (Ok x.1) (Ok y.1) h.3 k.3)

two_zeros : (j : ℕ) → j < 2 → (let zs : List ℕ = 0 ∷ 0 ∷ [] in get_or zs j 0 ≡ 0)
two_zeros zero h = refl
two_zeros (suc zero) h = refl
two_zeros (suc (suc j)) h = absurd (omega arith)

past_word : (u : List ℕ) (j : ℕ) → j < 2 → get_or (u ++ 0 ∷ 0 ∷ []) (length u + j) 0 ≡ 0
past_word u j h = get_or-append-add u (0 ∷ 0 ∷ []) j 0 ∙ two_zeros j h

module _ (p : Parameters) (word : ℕ) (l : List ℤ) (u : List ℕ) (rows : List (List ℤ)) (octets : List ℕ) (long : length u ≡ information_bits p.rate) (record_of : IsRecord p.rate word l u rows octets) where
  bit_place : (i : ℕ) → i < code_steps p.rate → bit_in octets i ≡ get_or (terminated u) i 0
  bit_place i h = sym (get_or-tabulate (code_steps p.rate) (bit_in octets) i 0 h) ∙ ap (λ (xs : List ℕ). get_or xs i 0) record_of.bits

  word_bits : bits_in (code_steps p.rate - 2) octets ≡ u
  word_bits =
      let most = code_steps-ge p.rate in
      let e : length (bits_in (code_steps p.rate - 2) octets) ≡ code_steps p.rate - 2 = length-tabulate (code_steps p.rate - 2) (bit_in octets) in
      ext_get_or 0 (bits_in (code_steps p.rate - 2) octets) u (e ∙ sym long)
      (λ i lt. get_or-tabulate (code_steps p.rate - 2) (bit_in octets) i 0 (omega arith) ∙ bit_place i (omega arith) ∙ get_or-append u (0 ∷ 0 ∷ []) 0 i (omega arith))

  pad_place : (j : ℕ) → j < 2 → bit_in octets (code_steps p.rate - 2 + j) ≡ 0
  pad_place j h =
      let most = code_steps-ge p.rate in
      bit_place (code_steps p.rate - 2 + j) (omega arith) ∙ ap (λ (k : ℕ). get_or (u ++ 0 ∷ 0 ∷ []) (k + j) 0) (sym long) ∙ past_word u j h

  padded : IsPadded p.rate octets
  padded =
      let most = code_steps-ge p.rate in
      let first : code_steps p.rate - 2 + 0 ≡ code_steps p.rate - 2 = omega arith in
      let second : code_steps p.rate - 2 + 1 ≡ code_steps p.rate - 1 = omega arith in
      (ap (bit_in octets) (sym first) ∙ pad_place 0 (omega arith), ap (bit_in octets) (sym second) ∙ pad_place 1 (omega arith))

  inside : (a : Result ℤ PathFault) → IsPathAnswer p.columns l u rows a → IsAnswerInside p octets a
  inside a h = answer-same p.columns p.columns l (numbers_in octets) u (bits_in (information_bits p.rate) octets) rows (rows_in p.rate octets) a refl (sym record_of.numbers) (sym word_bits) (sym record_of.potentials) h

  in_bounds : AllWithin 16383 l → PotentialsWithin 600000000 rows → IsInBounds p.rate octets
  in_bounds hl hr = record { numbers = subst (AllWithin 16383) (sym record_of.numbers) hl; potentials = subst (PotentialsWithin 600000000) (sym record_of.potentials) hr }

  answered : (a : Result ℤ PathFault) → IsInBounds p.rate octets → IsPathAnswer p.columns l u rows a → IsRecordAnswer p octets (with_word word a)
  answered (Err fault) bounds h = (record_of.mark, bounds, padded, inside (Err fault) h)
  answered (Ok b) bounds h = (record_of.mark, bounds, padded, inside (Ok b) h, sym record_of.word_number)

-- the law
pub records-law : RecordsAreAnsweredAsPaths
records-law p word l u rows octets a r hl long hr record_of h k =
    record-answer-only p octets r (with_word word a) k (answered p word l u rows octets long record_of a (in_bounds p word l u rows octets long record_of hl hr) h)
