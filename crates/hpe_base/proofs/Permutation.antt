-- The code interleaver is a permutation.
use Rattle.std.proofs.Common.{◌≡◌, ◌+◌, ◌<◌, ℕ, Bool, refl, true, eqb, arith, length, get_or, ◌∙◌, sym, ap}
use Rattle.std.proofs.Math.Nat.{mod-lt}
use Rattle.std.specs.List.{range_with_len, list_all}
use Rattle.std.proofs.lemmas.Bool.{eqb-true}
use Rattle.std.proofs.lemmas.List.Sums.{AllPass-from_list_all}
use Rattle.std.proofs.lemmas.List.FromFn.{length-range_with_len, get_or-range_with_len}
use Rattle.hpe_base.specs.Parameters.{codeword_bits}
use Rattle.hpe_base.specs.CodeInterleaver.{pi, pi_inverse}

-- a test that passes on all numbers below n passes at each
passes_at : (p : ℕ → Bool) (n k : ℕ) → list_all p (range_with_len 0 n) ≡ true → k < n → p k ≡ true
passes_at p n k all h =
    let at : get_or (range_with_len 0 n) k 0 ≡ 0 + k = get_or-range_with_len 0 n k 0 h in
    let place : 0 + k ≡ k = omega arith in
    let within : k < length (range_with_len 0 n) = omega (arith, length-range_with_len 0 n) in
    sym (ap p (at ∙ place)) ∙ AllPass-from_list_all p (range_with_len 0 n) all k 0 within

-- both compositions at every place, by computation
undone : list_all (λ j. eqb (pi_inverse (pi j)) j) (range_with_len 0 15120) ≡ true
undone = refl

-- the other way round
redone : list_all (λ e. eqb (pi (pi_inverse e)) e) (range_with_len 0 15120) ≡ true
redone = refl

-- pi_inverse undoes pi
pub pi_inverse-pi : (j : ℕ) → j < 15120 → pi_inverse (pi j) ≡ j
pi_inverse-pi j h = eqb-true _ _ (passes_at (λ j. eqb (pi_inverse (pi j)) j) 15120 j undone h)

-- pi undoes pi_inverse
pub pi-pi_inverse : (e : ℕ) → e < 15120 → pi (pi_inverse e) ≡ e
pi-pi_inverse e h = eqb-true _ _ (passes_at (λ e. eqb (pi (pi_inverse e)) e) 15120 e redone h)

-- pi stays within the codeword
pub pi-lt : (j : ℕ) → pi j < codeword_bits
pi-lt j = mod-lt _ (omega arith)

-- and so does pi_inverse
pub pi_inverse-lt : (e : ℕ) → pi_inverse e < codeword_bits
pi_inverse-lt e = mod-lt _ (omega arith)
