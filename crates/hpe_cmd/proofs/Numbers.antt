-- The test on numerals, and the numbers that `parse` reads.
use Rattle.std.proofs.Common.{◌≡◌, ◌⊎◌, ◌^◌, ◌<◌, ◌≤◌, ℕ, suc, List, [], ◌∷◌, length, true, false, Some, None, refl, inl, inr, arith}
use Rattle.std.proofs.lemmas.Bool.{le-leb}
use Rattle.std.proofs.lemmas.Bool.Decides.{leb_tells}
use Rattle.std.specs.Char.{digit_value}
use Rattle.std.specs.Str.Parse.{AllDigits, IsNumeral, digits_value, without_leading_plus}
use Rattle.clap.specs.Walk.{Text}
use Rattle.hpe_cmd.specs.Words.{are_digits, is_numeral, number_within}

digits_tell : (cs : List ℕ)
    → ((are_digits cs ≡ true) × AllDigits 10 cs) ⊎ ((are_digits cs ≡ false) × (AllDigits 10 cs → ⊥))
digits_tell [] = inl (refl, tt)
digits_tell (c ∷ cs) = elim (leb_tells (suc (digit_value c)) 10) [
  | inl y ↦ elim (digits_tell cs) [
    | inl r ↦ inl (rw (y.0, r.0) refl, (omega (arith, y.1), r.1))
    | inr n ↦ inr (rw (y.0, n.0) refl, λ all. n.1 all.1)
  ]
  | inr n ↦ inr (rw n.0 refl, λ all. absurd (omega (arith, n.1, all.0)))
]

numeral_tells : (ds : List ℕ)
    → ((is_numeral ds ≡ true) × IsNumeral 10 ds) ⊎ ((is_numeral ds ≡ false) × (IsNumeral 10 ds → ⊥))
numeral_tells ds = elim (leb_tells 1 (length ds)) [
  | inl y ↦ elim (digits_tell ds) [
    | inl r ↦ inl (rw (y.0, r.0) refl, (omega (arith, y.1), r.1))
    | inr n ↦ inr (rw (y.0, n.0) refl, λ all. n.1 all.1)
  ]
  | inr n ↦ inr (rw n.0 refl, λ all. absurd (omega (arith, n.1, all.0)))
]

-- a number in the range
pub number_taken : (low high n : ℕ) (text : Text) → IsNumeral 10 (without_leading_plus text)
    → n ≡ digits_value 10 (without_leading_plus text) → low ≤ n → n ≤ high → Some n ≡ number_within low high text
number_taken low high n text numeral is above below = elim (numeral_tells (without_leading_plus text)) [
  | inl y ↦ rw (← is, y.0, le-leb low n above, le-leb n high below) refl
  | inr other ↦ absurd (other.1 numeral)
]

-- a number out of the range
pub number_past : (low high n : ℕ) (text : Text) → n ≡ digits_value 10 (without_leading_plus text)
    → (low ≤ n → n ≤ high → ⊥) → None ≡ number_within low high text
number_past low high n text is past =
    rw (← is) (elim (numeral_tells (without_leading_plus text)) [
      | inl y ↦ elim (leb_tells low n) [
        | inl above ↦ elim (leb_tells n high) [
          | inl below ↦ absurd (past above.1 below.1)
          | inr other ↦ rw (y.0, above.0, other.0) refl
        ]
        | inr other ↦ rw (y.0, other.0) refl
      ]
      | inr other ↦ rw other.0 refl
    ])

-- a text that `parse` refuses
pub number_none : (low high : ℕ) (text : Text) → high < 2 ^ 64
    → (IsNumeral 10 (without_leading_plus text) × (digits_value 10 (without_leading_plus text) < 2 ^ 64) → ⊥)
    → None ≡ number_within low high text
number_none low high text fits refused = elim (numeral_tells (without_leading_plus text)) [
  | inl y ↦ number_past low high (digits_value 10 (without_leading_plus text)) text refl
      (λ above below. refused (y.1, omega (arith, fits, below)))
  | inr other ↦ rw other.0 refl
]
