-- The pseudo-random sequence, and a register that holds its next eight bits.
use Rattle.std.proofs.Common.{◌≡◌, ◌++◌, ◌+◌, ◌-◌, ◌*◌, ◌<◌, ◌≤◌, ◌%◌, ℕ, List, [], ◌∷◌, refl, length, get_or, sym, ◌∙◌, ap, arith, sum, zero, suc, length-append, add-zero, add-one, inl, inr}
use Rattle.std.specs.Int.{bit_at, reverse_bits_onto}
use Rattle.std.proofs.Math.Nat.{add-suc}
use Rattle.std.proofs.lemmas.Bool.{cases_eq}
use Rattle.std.proofs.lemmas.List.{get_or_append_left}
use Rattle.std.proofs.Math.Seq.{get_or-append_seam}
use Rattle.hpe_base.specs.Lists.{tabulate}
use Rattle.hpe_base.specs.Bits.{bits_of}
use Rattle.hpe_base.specs.Randomiser.{next_bit, pseudo_random}
use Rattle.hpe_base.proofs.Tabulated.{tabulate-same}
use Rattle.hpe_base.proofs.BitLists.{length-bits_of, get_or-bits_of}
use Rattle.hpe_block.proofs.Register.{bit_at-reversed}

-- the sequence with its seed is eight longer
length-pseudo_random : (taps seed n : ℕ) → length (pseudo_random taps seed n) ≡ 8 + n
unfolding pseudo_random
length-pseudo_random taps seed zero = length-bits_of 8 seed
length-pseudo_random taps seed (suc n) =
    let before : length (pseudo_random taps seed n) ≡ 8 + n = length-pseudo_random taps seed n in
    omega (arith, length-append (pseudo_random taps seed n) (next_bit taps (pseudo_random taps seed n) ∷ []))

-- more of the sequence leaves its front
get_or-pseudo_random : (taps seed m n j : ℕ) → j < 8 + n → get_or (pseudo_random taps seed (n + m)) j 0 ≡ get_or (pseudo_random taps seed n) j 0
unfolding pseudo_random
get_or-pseudo_random taps seed zero n j h = rw add-zero refl
get_or-pseudo_random taps seed (suc m) n j h =
    let len : length (pseudo_random taps seed (n + m)) ≡ 8 + (n + m) = length-pseudo_random taps seed (n + m) in
    rw add-suc (get_or_append_left (pseudo_random taps seed (n + m)) _ 0 j (omega arith) ∙ get_or-pseudo_random taps seed m n j h)

-- the register holds the eight bits from place n on, the first least significant
abbrev pub HoldsFrom : ℕ → ℕ → ℕ → ℕ → Type 0
HoldsFrom taps seed n register = (i : ℕ) → i < 8 → bit_at register i ≡ get_or (pseudo_random taps seed n) (n + i) 0

-- the reversed seed holds the bits from place 0 on
pub holds_seed : (taps seed : ℕ) → HoldsFrom taps seed 0 (reverse_bits_onto 8 seed 0)
unfolding pseudo_random
holds_seed taps seed i h = bit_at-reversed 8 seed 0 i h ∙ sym (ap (λ k. get_or (bits_of 8 seed) k 0) (omega arith) ∙ get_or-bits_of 8 seed i 0 h)

-- what the step puts in at the top is the next bit of the sequence
next_is : (taps seed n register : ℕ) → HoldsFrom taps seed n register →
    sum (tabulate 8 (λ i. bit_at taps i * bit_at register i)) % 2 ≡ next_bit taps (pseudo_random taps seed n)
next_is taps seed n register holds =
    let len : length (pseudo_random taps seed n) ≡ 8 + n = length-pseudo_random taps seed n in
    ap (λ xs. sum xs % 2) (tabulate-same 8 _ _ (λ i below.
    let place : n + i ≡ length (pseudo_random taps seed n) - 8 + i = omega arith in
    ap (λ v. bit_at taps i * v) (holds i below ∙ ap (λ k. get_or (pseudo_random taps seed n) k 0) place)))

-- after a step it holds the bits from the next place on
pub holds_more : (taps seed n register next : ℕ) → ((i : ℕ) → i < 7 → bit_at next i ≡ bit_at register (i + 1)) →
    bit_at next 7 ≡ sum (tabulate 8 (λ i. bit_at taps i * bit_at register i)) % 2 →
    HoldsFrom taps seed n register → HoldsFrom taps seed (n + 1) next
unfolding pseudo_random
holds_more taps seed n register next moved entered holds i h =
    let before : List ℕ = pseudo_random taps seed n in
    let len : length before ≡ 8 + n = length-pseudo_random taps seed n in
    let grown : pseudo_random taps seed (n + 1) ≡ before ++ next_bit taps before ∷ [] = rw add-one refl in
    elim (cases_eq i 7) [
      | inl e ↦
          let place : n + 1 + i ≡ length before = omega arith in
          ap (bit_at next) e ∙ (entered ∙ (next_is taps seed n register holds ∙ sym (
          ap (λ xs. get_or xs (n + 1 + i) 0) grown ∙ (ap (λ k. get_or (before ++ next_bit taps before ∷ []) k 0) place ∙ get_or-append_seam before (next_bit taps before) [] 0))))
      | inr apart ↦
          let place : n + (i + 1) ≡ n + 1 + i = omega arith in
          moved i (omega arith) ∙ (holds (i + 1) (omega arith) ∙ (ap (λ k. get_or before k 0) place ∙ sym (
          ap (λ xs. get_or xs (n + 1 + i) 0) grown ∙ get_or_append_left before _ 0 (n + 1 + i) (omega arith))))
    ]

-- the register's lowest bit is the sequence's at place n
pub lowest_is : (taps seed n m register : ℕ) → n ≤ m → HoldsFrom taps seed n register → bit_at register 0 ≡ get_or (pseudo_random taps seed m) n 0
lowest_is taps seed n m register h holds =
    let place : n + 0 ≡ n = omega arith in
    let front : get_or (pseudo_random taps seed (n + (m - n))) n 0 ≡ get_or (pseudo_random taps seed n) n 0 = get_or-pseudo_random taps seed (m - n) n n (omega arith) in
    let whole : n + (m - n) ≡ m = omega arith in
    holds 0 (omega arith) ∙ (ap (λ k. get_or (pseudo_random taps seed n) k 0) place ∙ (sym front ∙ ap (λ k. get_or (pseudo_random taps seed k) n 0) whole))
