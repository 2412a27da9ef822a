-- The moves of the code interleaver over values of any type.
use Rattle.std.proofs.Common.{◌≡◌, ◌<◌, ◌+◌, ℕ, List, length, get_or, ap, sym, ◌∙◌, arith, inl, inr}
use Rattle.std.proofs.lemmas.Bool.{cases_eq}
use Rattle.std.proofs.lemmas.List.{same_lists, get_or-set_other, get_or-set_same}
use Rattle.std.proofs.Math.ListN.{set}
use Rattle.hpe_base.specs.Parameters.{codeword_bits}
use Rattle.hpe_base.specs.CodeInterleaver.{pi, pi_inverse}
use Rattle.hpe_base.proofs.Permutation.{pi_inverse-pi, pi-pi_inverse, pi-lt, pi_inverse-lt}
use Rattle.hpe_code.specs.Laws.{DeinterleaveUndoesInterleave, InterleaveUndoesDeinterleave, InterleaverIsPermutation}

-- the permutation, from its two compositions
pub interleaver_is_permutation : InterleaverIsPermutation
interleaver_is_permutation = record {
  within = λ j h. pi-lt j;
  inverse_within = λ e h. pi_inverse-lt e;
  undone = pi_inverse-pi;
  redone = pi-pi_inverse;
}

-- each place of the first list is read at its inverse
pub there_and_back : {V : Type 0} → DeinterleaveUndoesInterleave V
there_and_back first moved last lf ll f l =
    same_lists last first (ll ∙ sym lf) (λ e d h.
    let within : e < codeword_bits = omega arith in
    let place : pi (pi_inverse e) ≡ e = pi-pi_inverse e within in
    let found : get_or last (pi (pi_inverse e)) d ≡ get_or first (pi (pi_inverse e)) d = sym (l (pi_inverse e) d (pi_inverse-lt e)) ∙ f (pi_inverse e) d (pi_inverse-lt e) in
    ap (λ k. get_or last k d) (sym place) ∙ (found ∙ ap (λ k. get_or first k d) place))

-- both lists are read at the same places
pub back_and_there : {V : Type 0} → InterleaveUndoesDeinterleave V
back_and_there first moved last lf ll f l =
    same_lists last first (ll ∙ sym lf) (λ j d h. l j d (omega arith) ∙ sym (f j d (omega arith)))

-- the values of the first n places stand where they go
abbrev pub MovedSoFar : {V : Type 0} → List V → ℕ → List V → Type 0
MovedSoFar {V} from n into = (k : ℕ) (d : V) → k < n → get_or into (pi k) d ≡ get_or from k d

-- one place more, where pi brings no two places together
pub MovedSoFar-more : {V : Type 0} (from into : List V) (n place : ℕ) (value : V) → n < codeword_bits → length into ≡ codeword_bits →
    place ≡ pi n → ((d : V) → value ≡ get_or from n d) → MovedSoFar from n into → MovedSoFar from (n + 1) (set into place value)
MovedSoFar-more from into n place value h l goes is so_far k d b =
    let within : pi n < codeword_bits = pi-lt n in
    elim (cases_eq k n) [
      | inl here ↦ rw (goes, here) (get_or-set_same into (pi n) value d (omega arith) ∙ is d)
      | inr before ↦ rw goes (get_or-set_other into (pi n) (pi k) value d
          (λ e. before (sym (pi_inverse-pi k (omega arith)) ∙ (ap pi_inverse e ∙ pi_inverse-pi n h))) ∙ so_far k d (omega arith))
    ]
