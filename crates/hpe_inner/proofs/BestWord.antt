-- The greatest score of all runs through the trellis is the greatest score of all words.
use Rattle.std.proofs.Common.{◌≡◌, ℕ, zero, suc, ◌+◌, ◌*◌, ◌^◌, ◌<◌, ◌≤◌, ◌⊎◌, inl, inr, sym, ◌∙◌, ap, subst, refl, arith, ℤ, pos, negsuc, ◌+ℤ◌, ◌≤ℤ◌, ◌<ℤ◌, List, [], ◌∷◌, length, get_or, Bool, true, Some, replicate, zero-add, ⊎_elim, eq-eqb}
use Rattle.std.proofs.Math.Nat.{mul-le-mul_right}
use Rattle.std.specs.Prelude.{nat_eq}
use Rattle.std.proofs.lemmas.Int.{ints}
use Rattle.std.proofs.lemmas.Bool.{eqb-true}
use Rattle.std.proofs.lemmas.List.{get_or-replicate}
use Rattle.hpe_base.specs.Parameters.{symbol_bits}
use Rattle.hpe_base.specs.Sizes.{Within}
use Rattle.hpe_base.specs.Greatest.{IsGreatest}
use Rattle.hpe_base.specs.Trellis.{walk, IsPath, state_at}
use Rattle.hpe_base.specs.PathScores.{inner_score}
use Rattle.hpe_base.specs.GreatestScores.{top_from, inner_top}
use Rattle.hpe_base.specs.declared.profile.Order.{Order}
use Rattle.hpe_base.proofs.Greatest.{IsGreatest-exclude, IsGreatest-carry}
use Rattle.hpe_base.proofs.Trellis.{IsRun, stage-suc, zero-walk-zero, replicate-path}
use Rattle.hpe_base.proofs.GreatestScores.{top-is}
use Rattle.hpe_lane.specs.Edges.{input_bit}
use Rattle.hpe_inner.specs.Sweeps.{inner_edge, inner_next, inner_start}
use Rattle.hpe_inner.proofs.Running.{path_of}
use Rattle.hpe_inner.proofs.Words.{word_of, word-path, path-of-word, path-of-path, word-bit}
use Rattle.hpe_inner.proofs.PathScore.{score-is}

grow : (n most : ℕ) (x z : ℤ) → Within most x → Within (n * most) z → Within (suc n * most) (x +ℤ z)
grow n most x z h k = (omega (arith, ints), omega (arith, ints))

-- n stages score at most n times what an edge scores
pub walk-within : (edge : ℕ → ℕ → ℕ → ℤ) (next : ℕ → ℕ → ℕ) (size most end n t p : ℕ) (us : List ℕ) → ((s q u : ℕ) → s < end → Within most (edge s q u)) → t + n ≡ end → IsPath size n us → Within (n * most) (walk edge next t p us)
walk-within edge next size most end zero t p [] f e h = (omega (arith, ints), omega (arith, ints))
walk-within edge next size most end zero t p (u ∷ us) f e h = absurd h
walk-within edge next size most end (suc n) t p [] f e h = absurd h
walk-within edge next size most end (suc n) t p (u ∷ us) f e h =
    grow n most (edge t p u) (walk edge next (t + 1) (next p u) us) (f t p u (omega arith)) (walk-within edge next size most end n (t + 1) (next p u) us f (sym (stage-suc t n) ∙ e) h.1)

same_bit : (a b : ℕ) → nat_eq a b ≡ true → a ≡ b
same_bit a b h = eqb-true a b h

low_start : (n most : ℕ) (w : ℤ) → n * most ≤ 371566440 → Within (n * most) w → ((negsuc 1073741823 +ℤ w) +ℤ pos 0) ≤ℤ negsuc 702175383
low_start n most w h k = let a = k.0 in omega (arith, ints)

high_start : (n most : ℕ) (w : ℤ) → n * most ≤ 371566440 → Within (n * most) w → negsuc 702175383 <ℤ ((pos 0 +ℤ w) +ℤ pos 0)
high_start n most w h k = let a = k.1 in omega (arith, ints)

next_of : (t n : ℕ) → t < n → t + 1 ≤ n
next_of t n h = omega arith

pub place_below : (t n m i : ℕ) → t < n → i < m → t * m + i < n * m
place_below t n m i h k = let p : (t + 1) * m ≤ n * m = mul-le-mul_right m (next_of t n h) in omega arith

-- in a trellis that scores words by their paths, the greatest of all runs is the greatest of all words
module _ (m n t i b : ℕ) (edge : ℕ → ℕ → ℕ → ℤ) (score : List ℕ → ℤ)
    (is : (x : List ℕ) → IsPath 2 (n * m) x → score x ≡ walk edge inner_next 0 0 (path_of m 0 n x))
    (lt : t < n) (li : i < m) (bit : b < 2)
    (most : ℕ) (edges : (s p v : ℕ) → s < n → Within most (edge s p v)) (short : n * most ≤ 371566440) where
  abbrev HasBit : ℕ × List ℕ → Type 0
  HasBit r = input_bit m i (state_at inner_next r.0 r.1 t) (get_or r.1 t 0) ≡ b

  abbrev run_score : ℕ × List ℕ → ℤ
  run_score r = (inner_start r.0 +ℤ walk edge inner_next 0 r.0 r.1) +ℤ pos 0

  start_split : (p : ℕ) (us : List ℕ) → p < 2 → IsPath (2 ^ m) n us → (p ≡ 0) ⊎ (run_score (p, us) ≤ℤ negsuc 702175383)
  start_split zero us h k = inl refl
  start_split (suc zero) us h k =
      let w = walk-within edge inner_next (2 ^ m) most n n 0 1 us edges (zero-add n) k in
      inr (low_start n most (walk edge inner_next 0 1 us) short w)
  start_split (suc (suc p)) us h k = absurd (omega arith)

  -- a run that starts in state 1 is never the greatest
  only_start : (z : ℤ) → IsGreatest (λ (r : ℕ × List ℕ). IsRun (2 ^ m) 2 n r × HasBit r) run_score z
      → IsGreatest (λ (r : ℕ × List ℕ). (IsRun (2 ^ m) 2 n r × HasBit r) × (r.0 ≡ 0)) run_score z
  only_start z g =
      let x : List ℕ = replicate (n * m) b in
      let px : IsPath 2 (n * m) x = replicate-path 2 (n * m) b bit in
      let vs : List ℕ = path_of m 0 n x in
      let pv : IsPath (2 ^ m) n vs = path-of-path m n 0 x px in
      let cv : HasBit (0, vs) = sym (word-bit m n 0 t i x px lt li) ∙ get_or-replicate (n * m) (t * m + i) b 0 (place_below t n m i lt li) in
      let w = walk-within edge inner_next (2 ^ m) most n n 0 0 vs edges (zero-add n) pv in
      IsGreatest-exclude (negsuc 702175383)
      (λ r h. ⊎_elim (λ e. inl (h, e)) (λ le. inr le) (start_split r.0 r.1 h.0.0 h.0.1))
      (λ r h. h.0) (0, vs) ((omega arith, pv), cv) (high_start n most (walk edge inner_next 0 0 vs) short w) g

  abbrev asked : List ℕ → Bool
  asked x = nat_eq (get_or x (t * m + i) 0) b

  plain_score : (us : List ℕ) → run_score (0, us) ≡ walk edge inner_next 0 0 us
  plain_score us = zero-walk-zero (walk edge inner_next 0 0 us)

  words : (z : ℤ) → IsGreatest (λ (r : ℕ × List ℕ). (IsRun (2 ^ m) 2 n r × HasBit r) × (r.0 ≡ 0)) run_score z
      → IsGreatest (λ (x : List ℕ). IsPath 2 (n * m) x × (asked x ≡ true)) score z
  words z g = IsGreatest-carry
      (λ r h.
      let x : List ℕ = word_of m 0 r.1 in
      let px : IsPath 2 (n * m) x = word-path m n 0 r.1 h.0.0.1 in
      let back : path_of m 0 n x ≡ r.1 = path-of-word m n 0 r.1 h.0.0.1 in
      let c : HasBit (0, r.1) = subst (λ (p : ℕ). HasBit (p, r.1)) h.1 h.0.1 in (
        x,
        (
          (px, eq-eqb (get_or x (t * m + i) 0) b (word-bit m n 0 t i x px lt li ∙ ap (λ (us : List ℕ). input_bit m i (state_at inner_next 0 us t) (get_or us t 0)) back ∙ c)),
          is x px ∙ ap (walk edge inner_next 0 0) back ∙ sym (plain_score r.1) ∙ ap (λ (p : ℕ). run_score (p, r.1)) (sym h.1),
        ),
      ))
      (λ x h.
      let vs : List ℕ = path_of m 0 n x in (
        (0, vs),
        (
          (((omega arith, path-of-path m n 0 x h.0), sym (word-bit m n 0 t i x h.0 lt li) ∙ same_bit (get_or x (t * m + i) 0) b h.1), refl),
          plain_score vs ∙ sym (is x h.0),
        ),
      ))
      g

  top_of_runs : (z : ℤ) → IsGreatest (λ (r : ℕ × List ℕ). IsRun (2 ^ m) 2 n r × HasBit r) run_score z → top_from asked score (n * m) [] ≡ Some z
  top_of_runs z g = top-is asked score (n * m) z (words z (only_start z g))

-- the greatest of all runs with input bit i of stage t is the top of the words with that bit
pub inner-top : (o : Order) (n t i b : ℕ) (counts : List ℕ) (l : List ℤ) → length l ≡ n * symbol_bits o → t < n → i < symbol_bits o → b < 2
    → (most : ℕ) → ((s p v : ℕ) → s < n → Within most (inner_edge (symbol_bits o) counts l s p v)) → n * most ≤ 371566440
    → (z : ℤ) → IsGreatest (λ (r : ℕ × List ℕ). IsRun (2 ^ symbol_bits o) 2 n r × (input_bit (symbol_bits o) i (state_at inner_next r.0 r.1 t) (get_or r.1 t 0) ≡ b))
    (λ r. (inner_start r.0 +ℤ walk (inner_edge (symbol_bits o) counts l) inner_next 0 r.0 r.1) +ℤ pos 0) z
    → inner_top o counts l (t * symbol_bits o + i) b ≡ Some z
unfolding inner_top
inner-top o n t i b counts l long lt li bit most edges short z g =
    let m : ℕ = symbol_bits o in
    ap (λ (k : ℕ). top_from (λ x. nat_eq (get_or x (t * m + i) 0) b) (inner_score o counts l) k []) long
    ∙ top_of_runs m n t i b (inner_edge m counts l) (inner_score o counts l) (λ x h. score-is o n counts l x long h) lt li bit most edges short z g
