-- What is written after a field leaves the field.
use Rattle.std.proofs.Common.{◌≡◌, ℕ, zero, suc, ◌+◌, ◌-◌, ◌*◌, ◌/◌, ◌%◌, ◌^◌, ◌<◌, ◌≤◌, ⊎_elim, sym, ◌∙◌, ap, ap₂, subst, refl, arith, ℤ, pos, List, [], ◌∷◌, length, get_or, take, drop, length-take, length-append}
use Rattle.std.specs.Int.{bit_at, w16, w32, cast_signed}
use Rattle.std.proofs.lemmas.Bool.{cases_lt}
use Rattle.std.proofs.lemmas.List.{ext_get_or, get_or-take, get_or-drop}
use Rattle.std.proofs.lemmas.Nat.Bits.{bit_at-suc, bit_at_lowest}
use Rattle.byteorder.specs.Endian.{big_from, big_number}
use Rattle.hpe_base.specs.Sizes.{number_at}
use Rattle.hpe_base.specs.Parameters.{codeword_bits, code_steps}
use Rattle.hpe_base.specs.declared.profile.Rate.{Rate}
use Rattle.hpe_base.specs.declared.profile.Rate.TheVariants.{Third, Half, TwoThirds}
use Rattle.hpe_base.specs.Termination.{terminated}
use Rattle.hpe_base.proofs.Tabulated.{tabulate_from_places}
use Rattle.hpe_witness.specs.Record.{record_mark, bits_place, rows_place, word_in, bit_in, row_at, record_octets, IsRecord, IsSameBelow}

-- a bit more at the end of a number
half_of : (n b : ℕ) → b < 2 → (n * 2 + b) / 2 ≡ n
half_of n b h = omega arith

pub bits-more : (f : ℕ → ℕ) (n b i : ℕ) → b < 2 → ((k : ℕ) → k < i → bit_at n (i - 1 - k) ≡ f k) → b ≡ f i → (k : ℕ) → k < i + 1 → bit_at (n * 2 + b) (i + 1 - 1 - k) ≡ f k
bits-more f n b i low before here k lt =
    ⊎_elim
    (λ (h : k < i).
    let e : i + 1 - 1 - k ≡ suc (i - 1 - k) = omega arith in
    ap (bit_at (n * 2 + b)) e ∙ bit_at-suc (n * 2 + b) (i - 1 - k) ∙ ap (λ (m : ℕ). bit_at m (i - 1 - k)) (half_of n b low) ∙ before k h)
    (λ (h : i ≤ k).
    let e : i + 1 - 1 - k ≡ 0 = omega arith in
    let is : i ≡ k = omega arith in
    ap (bit_at (n * 2 + b)) e ∙ bit_at_lowest (n * 2 + b) ∙ (let m : (n * 2 + b) % 2 ≡ b = omega arith in m) ∙ here ∙ ap f is)
    (cases_lt k i)

from_same : (at place : ℕ) (old new : List ℕ) → IsSameBelow place old new → (n j : ℕ) → at + j + n ≤ place → big_from j n (drop at new) ≡ big_from j n (drop at old)
from_same at place old new same zero j le = refl
from_same at place old new same (suc n) j le =
    ap₂ (λ (a b : ℕ). a * 256 ^ n + b)
    (get_or-drop at new j 0 ∙ same (at + j) (omega arith) ∙ sym (get_or-drop at old j 0))
    (from_same at place old new same n (suc j) (omega arith))

-- a number below the place
pub number-same : (n at place : ℕ) (old new : List ℕ) → IsSameBelow place old new → at + n ≤ place → big_number n (drop at new) ≡ big_number n (drop at old)
number-same n at place old new same le = from_same at place old new same n 0 (omega arith)

potential_same : (at place : ℕ) (old new : List ℕ) → IsSameBelow place old new → at + 4 ≤ place → cast_signed w32 (big_number 4 (drop at new)) ≡ cast_signed w32 (big_number 4 (drop at old))
potential_same at place old new same le = ap (cast_signed w32) (number-same 4 at place old new same le)

-- a row of potentials below the place
pub row-same : (at place : ℕ) (old new : List ℕ) → IsSameBelow place old new → at + 16 ≤ place → row_at new at ≡ row_at old at
row-same at place old new same le =
    ap₂ (λ (a b : ℤ). a ∷ b ∷ cast_signed w32 (big_number 4 (drop (at + 8) new)) ∷ cast_signed w32 (big_number 4 (drop (at + 12) new)) ∷ [])
    (potential_same at place old new same (omega arith)) (potential_same (at + 4) place old new same (omega arith))
    ∙ ap₂ (λ (a b : ℤ). cast_signed w32 (big_number 4 (drop at old)) ∷ cast_signed w32 (big_number 4 (drop (at + 4) old)) ∷ a ∷ b ∷ [])
    (potential_same (at + 8) place old new same (omega arith)) (potential_same (at + 12) place old new same (omega arith))

four_list : (xs : List ℤ) → length xs ≡ 4 → number_at xs 0 ∷ number_at xs 1 ∷ number_at xs 2 ∷ number_at xs 3 ∷ [] ≡ xs
four_list [] e = absurd (omega arith)
four_list (a ∷ []) e = absurd (omega arith)
four_list (a ∷ b ∷ []) e = absurd (omega arith)
four_list (a ∷ b ∷ c ∷ []) e = absurd (omega arith)
four_list (a ∷ b ∷ c ∷ d ∷ []) e = refl
four_list (a ∷ b ∷ c ∷ d ∷ z ∷ xs) e = absurd (omega arith)

-- four potentials, written one after another
pub row-written : (at : ℕ) (row : List ℤ) (a b d e : List ℕ) → length row ≡ 4
    → cast_signed w32 (big_number 4 (drop at a)) ≡ number_at row 0 → cast_signed w32 (big_number 4 (drop (at + 4) b)) ≡ number_at row 1
    → cast_signed w32 (big_number 4 (drop (at + 8) d)) ≡ number_at row 2 → cast_signed w32 (big_number 4 (drop (at + 12) e)) ≡ number_at row 3
    → IsSameBelow (at + 4) a b → IsSameBelow (at + 8) b d → IsSameBelow (at + 12) d e → row_at e at ≡ row
row-written at row a b d e long ra rb rd re ab bd de =
    let ae : IsSameBelow (at + 4) a e = λ k h. de k (omega arith) ∙ bd k (omega arith) ∙ ab k h in
    let be : IsSameBelow (at + 8) b e = λ k h. de k (omega arith) ∙ bd k h in
    ap₂ (λ (x y : ℤ). x ∷ y ∷ cast_signed w32 (big_number 4 (drop (at + 8) e)) ∷ cast_signed w32 (big_number 4 (drop (at + 12) e)) ∷ [])
    (potential_same at (at + 4) a e ae (omega arith) ∙ ra) (potential_same (at + 4) (at + 8) b e be (omega arith) ∙ rb)
    ∙ ap₂ (λ (x y : ℤ). number_at row 0 ∷ number_at row 1 ∷ x ∷ y ∷ []) (potential_same (at + 8) (at + 12) d e de (omega arith) ∙ rd) re
    ∙ four_list row long

-- a row more
pub rows-written : (from t : ℕ) (rows : List (List ℤ)) (old new : List ℕ) → ((k : ℕ) → k < t → row_at old (from + 16 * k) ≡ get_or rows k []) → row_at new (from + 16 * t) ≡ get_or rows t [] → IsSameBelow (from + 16 * t) old new
    → (k : ℕ) → k < t + 1 → row_at new (from + 16 * k) ≡ get_or rows k []
rows-written from t rows old new before here same k lt =
    ⊎_elim
    (λ (h : k < t). row-same (from + 16 * k) (from + 16 * t) old new same (omega arith) ∙ before k h)
    (λ (h : t ≤ k). let e : t ≡ k = omega arith in subst (λ (j : ℕ). row_at new (from + 16 * j) ≡ get_or rows j []) e here)
    (cases_lt k t)

take_same : (n : ℕ) (old new : List ℕ) → IsSameBelow n old new → n ≤ length old → n ≤ length new → take n new ≡ take n old
take_same n old new same lo ln =
    let e : length (take n new) ≡ length (take n old) = omega (arith, length-take {A = ℕ}) in
    ext_get_or 0 (take n new) (take n old) e
    (λ i lt. let low : i < n = omega (arith, length-take {A = ℕ}) in get_or-take n new i 0 low ∙ same i low ∙ sym (get_or-take n old i 0 low))

steps_eighths : (r : Rate) → code_steps r / 8 * 8 ≡ code_steps r
steps_eighths Third = refl
steps_eighths Half = refl
steps_eighths TwoThirds = refl

-- the fields, written one after another, are a record
pub record-is : (r : Rate) (word from : ℕ) (l : List ℤ) (u : List ℕ) (rows : List (List ℤ)) (w x y z : List ℕ)
    → length w ≡ record_octets r → length z ≡ record_octets r → from ≡ rows_place r → length l ≡ codeword_bits → length u + 2 ≡ code_steps r → length rows ≡ code_steps r + 1
    → take 4 w ≡ record_mark → word_in w ≡ word
    → ((i : ℕ) → i < codeword_bits → cast_signed w16 (big_number 2 (drop (8 + 2 * i) x)) ≡ number_at l i) → IsSameBelow 8 w x
    → ((i : ℕ) → i < (length u + 2) / 8 * 8 → bit_in y i ≡ get_or (terminated u) i 0) → IsSameBelow bits_place x y
    → ((t : ℕ) → t < length rows → row_at z (from + 16 * t) ≡ get_or rows t []) → IsSameBelow from y z
    → IsRecord r word l u rows z
record-is r word from l u rows w x y z lw lz ef ll lu lr mark number numbers wx bits xy potentials yz =
    let eight : code_steps r / 8 * 8 ≡ code_steps r = steps_eighths r in
    let xz : IsSameBelow bits_place x z = λ k h. yz k (omega arith) ∙ xy k h in
    let wz : IsSameBelow 8 w z = λ k h. xz k (omega arith) ∙ wx k h in
    record {
      size = lz;
      mark = take_same 4 w z (λ k h. wz k (omega arith)) (omega arith) (omega arith) ∙ mark;
      word_number = number-same 4 4 8 w z wz (omega arith) ∙ number;
      numbers = sym (tabulate_from_places codeword_bits (λ i. cast_signed w16 (big_number 2 (drop (8 + 2 * i) z))) l (pos 0) ll
          (λ k lt. sym (ap (cast_signed w16) (number-same 2 (8 + 2 * k) bits_place x z xz (omega arith)) ∙ numbers k lt)));
      bits = sym (tabulate_from_places (code_steps r) (bit_in z) (terminated u) 0 (length-append u (0 ∷ 0 ∷ []) ∙ lu)
          (λ k lt.
          let h : k < (length u + 2) / 8 * 8 = subst (λ (m : ℕ). k < m / 8 * 8) (sym lu) (omega arith) in
          sym (ap (λ (o : ℕ). bit_at o (7 - k % 8)) (yz (bits_place + k / 8) (omega arith)) ∙ bits k h)));
      potentials = sym (tabulate_from_places (code_steps r + 1) (λ t. row_at z (rows_place r + 16 * t)) rows [] lr
          (λ k lt. sym (subst (λ (m : ℕ). row_at z (m + 16 * k) ≡ get_or rows k []) ef (potentials k (omega arith)))));
    }
