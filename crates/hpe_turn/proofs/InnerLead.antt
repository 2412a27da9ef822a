-- Where what was sent stands out, its word leads all others of the inner code.
use Rattle.std.proofs.Common.{◌≡◌, ◌≢◌, ◌+◌, ◌*◌, ◌/◌, ◌<◌, ◌⊎◌, inl, inr, ⊎_elim, ℕ, zero, suc, ℤ, pos, ◌+ℤ◌, ◌<ℤ◌, List, [], ◌∷◌, length, sum, replicate, Bool, true, false, cond, sym, ◌∙◌, ap, ap₂, subst, refl, arith}
use Rattle.std.specs.Prelude.{◌==◌, slice_index}
use Rattle.std.proofs.lemmas.Bool.{cases_eq}
use Rattle.std.proofs.lemmas.Int.{ints}
use Rattle.std.proofs.lemmas.Grind.{same_number_lists}
use Rattle.hpe_base.specs.Lists.{tabulate}
use Rattle.hpe_base.specs.Bits.{AreBits}
use Rattle.hpe_base.specs.Parameters.{positions, symbol_bits, codeword_symbols, codeword_bits}
use Rattle.hpe_base.specs.Trellis.{IsPath}
use Rattle.hpe_base.specs.Accumulator.{accumulated}
use Rattle.hpe_base.specs.Mapper.{symbols_of}
use Rattle.hpe_base.specs.PathScores.{chosen_sum, pulse_sum, inner_score}
use Rattle.hpe_base.specs.declared.profile.Order.{Order}
use Rattle.hpe_base.proofs.Tabulated.{length-tabulate, tabulate-same, sum-tabulate-suc}
use Rattle.hpe_base.proofs.Trellis.{path-length, path_bits}
use Rattle.hpe_base.proofs.Shapes.{length-accumulated, are_bits-accumulated, symbols_of-lt}
use Rattle.hpe_ppm.proofs.InnerCode.{inner_code_is_one_to_one}
use Rattle.hpe_turn.specs.Dominance.{Dominates}
use Rattle.hpe_base.proofs.ParameterLemmas.{symbols_fill}

cond_zeros : (b : Bool) → cond b (pos 0) (pos 0) ≡ pos 0
cond_zeros true = refl
cond_zeros false = refl

-- a-priori numbers of zero add nothing
chosen_zeros : (n : ℕ) (x : List ℕ) → chosen_sum (replicate n (pos 0)) x ≡ pos 0
chosen_zeros zero x = refl
chosen_zeros (suc n) [] = refl
chosen_zeros (suc n) (b ∷ x) = ap₂ (λ (y z : ℤ). y +ℤ z) (cond_zeros (b == 1)) (chosen_zeros n x)

less_alone : (a b : ℕ) (y z : ℤ) → y ≡ pos 0 → z ≡ pos 0 → a < b → (pos a +ℤ y) <ℤ (pos b +ℤ z)
less_alone a b y z e f h = omega (arith, ints)

module _ (o : Order) (counts : List ℕ) where
  abbrev pulse : List ℕ → ℕ → ℕ
  pulse vs s = slice_index counts (s * positions o + slice_index vs s)

  -- of the first n symbols all are the same, or their sums are less
  sums_lead : (n : ℕ) (vs ws : List ℕ) → ((s : ℕ) → s < n → slice_index vs s < positions o)
      → ((s v : ℕ) → s < n → v < positions o → v ≢ slice_index ws s → slice_index counts (s * positions o + v) < pulse ws s)
      → ((s : ℕ) → s < n → slice_index vs s ≡ slice_index ws s) ⊎ (sum (tabulate n (pulse vs)) < sum (tabulate n (pulse ws)))
  sums_lead zero vs ws low d = inl (λ s h. absurd (omega arith))
  sums_lead (suc n) vs ws low d =
      let before = sums_lead n vs ws (λ s h. low s (omega arith)) (λ s v h k ne. d s v (omega arith) k ne) in
      let v_more = sum-tabulate-suc n (pulse vs) in
      let w_more = sum-tabulate-suc n (pulse ws) in
      elim (cases_eq (slice_index vs n) (slice_index ws n)) [
        | inl here ↦
            let same : pulse vs n ≡ pulse ws n = ap (λ v. slice_index counts (n * positions o + v)) here in
            ⊎_elim (λ all. inl (λ s h. elim (cases_eq s n) [ inl last ↦ rw last here | inr earlier ↦ all s (omega arith) ]))
            (λ less. inr (omega (arith, v_more, w_more, same))) before
        | inr ne ↦
            let last : pulse vs n < pulse ws n = d n (slice_index vs n) (omega arith) (low n (omega arith)) ne in
            inr (⊎_elim
            (λ all.
            let same : sum (tabulate n (pulse vs)) ≡ sum (tabulate n (pulse ws)) =
            ap sum (tabulate-same n (pulse vs) (pulse ws) (λ s h. ap (λ v. slice_index counts (s * positions o + v)) (all s h))) in
            omega (arith, v_more, w_more, last, same))
            (λ less. omega (arith, v_more, w_more, last, less)) before)
      ]

  abbrev symbols : List ℕ → List ℕ
  symbols x = symbols_of o (accumulated x)

  long_symbols : (x : List ℕ) → length (symbols x) ≡ length x / symbol_bits o
  long_symbols x = length-tabulate (length (accumulated x) / symbol_bits o) _ ∙ ap (λ k. k / symbol_bits o) (length-accumulated x)

  -- without a-priori numbers each word but the sent one scores less
  pub inner_lead : (sent x : List ℕ) → IsPath 2 codeword_bits sent → Dominates (positions o) counts (symbols_of o (accumulated sent)) → IsPath 2 codeword_bits x
      → (x ≡ sent) ⊎ (inner_score o counts (replicate codeword_bits (pos 0)) x <ℤ inner_score o counts (replicate codeword_bits (pos 0)) sent)
  inner_lead sent x path d h =
      let n : ℕ = codeword_symbols o in
      let sent_long : length sent ≡ n * symbol_bits o = path-length 2 codeword_bits sent path ∙ symbols_fill o in
      let x_long : length x ≡ n * symbol_bits o = path-length 2 codeword_bits x h ∙ symbols_fill o in
      let sent_bits : AreBits sent = path_bits codeword_bits sent path in
      let x_bits : AreBits x = path_bits codeword_bits x h in
      let same_length : length (symbols x) ≡ length (symbols sent) = long_symbols x ∙ ap (λ k. k / symbol_bits o) (x_long ∙ sym sent_long) ∙ sym (long_symbols sent) in
      ⊎_elim
      (λ all. inl (inner_code_is_one_to_one o n x sent x_bits sent_bits x_long sent_long
      (same_number_lists (symbols x) (symbols sent) same_length (λ s b. all s (omega arith)))))
      (λ less.
      let sums : pulse_sum o counts (symbols x) < pulse_sum o counts (symbols sent) =
      subst (λ k. sum (tabulate k (pulse (symbols x))) < pulse_sum o counts (symbols sent)) (sym same_length) less in
      inr (less_alone _ _ _ _ (chosen_zeros codeword_bits x) (chosen_zeros codeword_bits sent) sums))
      (sums_lead (length (symbols sent)) (symbols x) (symbols sent)
      (λ s b. symbols_of-lt o (accumulated x) s (are_bits-accumulated x) (omega arith)) d)
