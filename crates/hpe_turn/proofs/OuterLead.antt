-- Where the a-priori numbers have the signs of the sent code bits, its word leads all others of the outer code.
use Rattle.std.proofs.Common.{◌≡◌, ◌<◌, ◌⊎◌, inl, inr, ⊎_elim, ℕ, zero, suc, ℤ, pos, negsuc, ◌+ℤ◌, ◌≤ℤ◌, ◌<ℤ◌, List, [], ◌∷◌, length, sym, ◌∙◌, ap, subst, refl, arith, length-append}
use Rattle.std.specs.Prelude.{slice_index}
use Rattle.std.proofs.lemmas.Int.{ints}
use Rattle.std.proofs.lemmas.List.{append_cancel_right}
use Rattle.std.proofs.lemmas.List.Elements.{All-append}
use Rattle.hpe_base.specs.Bits.{AreBits}
use Rattle.hpe_base.specs.Sizes.{number_at}
use Rattle.hpe_base.specs.Parameters.{Parameters, IsValid, codeword_bits, code_steps}
use Rattle.hpe_base.specs.Trellis.{IsPath}
use Rattle.hpe_base.specs.Termination.{terminated}
use Rattle.hpe_base.specs.ConvolutionalCode.{code_bits}
use Rattle.hpe_base.specs.PathScores.{chosen_sum, outer_score}
use Rattle.hpe_base.specs.Parameters.{information_bits}
use Rattle.hpe_base.proofs.KeptLength.{length-code_bits}
use Rattle.hpe_base.proofs.ParameterLemmas.{code_steps-ge, are_columns}
use Rattle.hpe_base.proofs.Trellis.{path-length, bits_path, path_bits}
use Rattle.hpe_base.proofs.Shapes.{are_bits-code_bits, are_bits-two_zeros}
use Rattle.hpe_code.proofs.OneToOne.{code_is_one_to_one}
use Rattle.hpe_turn.proofs.Signs.{IsSigned}

up_one : (z x y : ℤ) → pos 1 ≤ℤ z → (x ≡ y) ⊎ (x <ℤ y) → (pos 0 +ℤ x) <ℤ (z +ℤ y)
up_one z x y h s = ⊎_elim (λ e. omega (arith, ints)) (λ l. omega (arith, ints)) s

down_one : (z x y : ℤ) → z ≤ℤ negsuc 0 → (x ≡ y) ⊎ (x <ℤ y) → (z +ℤ x) <ℤ (pos 0 +ℤ y)
down_one z x y h s = ⊎_elim (λ e. omega (arith, ints)) (λ l. omega (arith, ints)) s

both : (z x y : ℤ) → x <ℤ y → (z +ℤ x) <ℤ (z +ℤ y)
both z x y h = omega (arith, ints)

-- bits that differ from those that the numbers' signs tell have a lesser sum
chosen_lead : (n : ℕ) (lo : List ℤ) (k sent : List ℕ) → length lo ≡ n → IsPath 2 n k → IsPath 2 n sent
    → ((i : ℕ) → i < n → IsSigned (slice_index sent i) (number_at lo i)) → (k ≡ sent) ⊎ (chosen_sum lo k <ℤ chosen_sum lo sent)
chosen_lead zero lo [] [] e h s f = inl refl
chosen_lead zero lo [] (c ∷ sent) e h s f = absurd s
chosen_lead zero lo (b ∷ k) sent e h s f = absurd h
chosen_lead (suc n) lo [] sent e h s f = absurd h
chosen_lead (suc n) lo (b ∷ k) [] e h s f = absurd s
chosen_lead (suc n) [] (b ∷ k) (c ∷ sent) e h s f = absurd (omega arith)
chosen_lead (suc n) (z ∷ lo) (zero ∷ k) (zero ∷ sent) e h s f =
    ⊎_elim (λ same. inl (ap (λ (xs : List ℕ). 0 ∷ xs) same)) (λ l. inr (both (pos 0) (chosen_sum lo k) (chosen_sum lo sent) l))
    (chosen_lead n lo k sent (omega arith) h.1 s.1 (λ i lt. f (suc i) (omega arith)))
chosen_lead (suc n) (z ∷ lo) (zero ∷ k) (suc zero ∷ sent) e h s f =
    inr (up_one z (chosen_sum lo k) (chosen_sum lo sent) ((f 0 (omega arith)).one refl)
    (⊎_elim (λ same. inl (ap (chosen_sum lo) same)) (λ l. inr l) (chosen_lead n lo k sent (omega arith) h.1 s.1 (λ i lt. f (suc i) (omega arith)))))
chosen_lead (suc n) (z ∷ lo) (suc zero ∷ k) (zero ∷ sent) e h s f =
    inr (down_one z (chosen_sum lo k) (chosen_sum lo sent) ((f 0 (omega arith)).zero refl)
    (⊎_elim (λ same. inl (ap (chosen_sum lo) same)) (λ l. inr l) (chosen_lead n lo k sent (omega arith) h.1 s.1 (λ i lt. f (suc i) (omega arith)))))
chosen_lead (suc n) (z ∷ lo) (suc zero ∷ k) (suc zero ∷ sent) e h s f =
    ⊎_elim (λ same. inl (ap (λ (xs : List ℕ). 1 ∷ xs) same)) (λ l. inr (both z (chosen_sum lo k) (chosen_sum lo sent) l))
    (chosen_lead n lo k sent (omega arith) h.1 s.1 (λ i lt. f (suc i) (omega arith)))
chosen_lead (suc n) (z ∷ lo) (suc (suc b) ∷ k) (c ∷ sent) e h s f = absurd (omega (arith, h.0))
chosen_lead (suc n) (z ∷ lo) (zero ∷ k) (suc (suc c) ∷ sent) e h s f = absurd (omega (arith, s.0))
chosen_lead (suc n) (z ∷ lo) (suc zero ∷ k) (suc (suc c) ∷ sent) e h s f = absurd (omega (arith, s.0))

module _ (p : Parameters) (valid : IsValid p) where
  abbrev n : ℕ
  n = information_bits p.rate

  long_terminated : (u : List ℕ) → IsPath 2 n u → length (terminated u) ≡ code_steps p.rate
  long_terminated u h = omega (arith, path-length 2 n u h, length-append u (0 ∷ 0 ∷ []), code_steps-ge p.rate)

  terminated_bits : (u : List ℕ) → IsPath 2 n u → AreBits (terminated u)
  terminated_bits u h = All-append (λ b. b < 2) u (0 ∷ 0 ∷ []) (path_bits n u h) are_bits-two_zeros

  pub code_path : (u : List ℕ) → IsPath 2 n u → IsPath 2 codeword_bits (code_bits p.columns (terminated u))
  code_path u h =
      subst (λ k. IsPath 2 k (code_bits p.columns (terminated u))) (length-code_bits p (terminated u) valid (long_terminated u h))
      (bits_path (code_bits p.columns (terminated u)) (are_bits-code_bits p.columns (terminated u)))

  -- each list of information bits but the sent one scores less
  pub outer_lead : (lo : List ℤ) (sent u : List ℕ) → length lo ≡ codeword_bits → IsPath 2 n sent
      → ((i : ℕ) → i < codeword_bits → IsSigned (slice_index (code_bits p.columns (terminated sent)) i) (number_at lo i))
      → IsPath 2 n u → (u ≡ sent) ⊎ (outer_score p.columns lo u <ℤ outer_score p.columns lo sent)
  outer_lead lo sent u long path signs h =
      ⊎_elim
      (λ same. inl (append_cancel_right u sent (0 ∷ 0 ∷ [])
      (code_is_one_to_one p.columns (terminated u) (terminated sent) (are_columns p valid) valid.range.columns_whole
      (terminated_bits u h) (terminated_bits sent path) (long_terminated u h ∙ sym (long_terminated sent path)) same)))
      (λ less. inr less)
      (chosen_lead codeword_bits lo (code_bits p.columns (terminated u)) (code_bits p.columns (terminated sent)) long (code_path u h) (code_path sent path) signs)
