-- Branching over every bit gives the best word, and there is one.
use Rattle.std.proofs.Common.{◌≡◌, ℕ, zero, suc, ◌<◌, ◌⊎◌, inl, inr, ⊎_elim, sym, ◌∙◌, ap, subst, refl, arith, ℤ, ◌≤ℤ◌, ◌<ℤ◌, List, [], ◌∷◌, ◌++◌, length, Bool, true, false, cond, add-one, append_assoc, append-nil}
use Rattle.std.specs.Prelude.{int_lt}
use Rattle.std.proofs.lemmas.Int.{ints}
use Rattle.hpe_base.specs.Trellis.{IsPath}
use Rattle.hpe_base.specs.PathScores.{outer_score}
use Rattle.hpe_base.proofs.Greatest.{le_trans, le_antisym}
use Rattle.hpe_base.proofs.Trellis.{bits_path, path_bits, cut, path-append, path-length}
use Rattle.hpe_witness.specs.BestWord.{IsBefore, IsBest, best_from, best_word}
use Rattle.hpe_witness.proofs.Before.{before-here, not-itself}
use Rattle.hpe_witness.proofs.Paths.{path-none}
use Rattle.hpe_witness.proofs.Survivors.{bit-cases, lt_true, lt_false}

-- b is the best of the words of m bits and then w
record IsBestEnd (score : List ℕ → ℤ) (m : ℕ) (w b : List ℕ) : Type 0 where
  front : (y : List ℕ) × (IsPath 2 m y × (b ≡ y ++ w))
  top : (y : List ℕ) → IsPath 2 m y → score (y ++ w) ≤ℤ score b
  first : (y : List ℕ) → IsPath 2 m y → score (y ++ w) ≡ score b → (b ≡ y ++ w) ⊎ IsBefore b (y ++ w)

same_score : (z : ℤ) → z ≤ℤ z
same_score z = omega (arith, ints)

below_both : (a s t : ℤ) → a ≤ℤ s → s <ℤ t → a ≤ℤ t
below_both a s t h k = omega (arith, ints)

not_reached : (a s t : ℤ) → a ≤ℤ s → s <ℤ t → a ≡ t → ⊥
not_reached a s t h k e = omega (arith, ints)

-- a word by its last bit before w
last_bit : (m : ℕ) (y w : List ℕ) → IsPath 2 (suc m) y → (z : List ℕ) × (IsPath 2 m z × ((y ++ w ≡ z ++ 0 ∷ w) ⊎ (y ++ w ≡ z ++ 1 ∷ w)))
last_bit m y w h =
    let c = cut 2 m 0 y (subst (λ (k : ℕ). IsPath 2 k y) (sym (add-one m)) h) in
    let whole : y ≡ c.front ++ c.here ∷ [] = c.whole ∙ ap (λ (vs : List ℕ). c.front ++ c.here ∷ vs) (path-none 2 c.rest c.rest_path) in
    let all : y ++ w ≡ c.front ++ c.here ∷ w = ap (λ (vs : List ℕ). vs ++ w) whole ∙ append_assoc c.front (c.here ∷ []) w in
    (c.front, (c.front_path, ⊎_elim (λ e. inl (all ∙ ap (λ (x : ℕ). c.front ++ x ∷ w) e)) (λ e. inr (all ∙ ap (λ (x : ℕ). c.front ++ x ∷ w) e)) (bit-cases c.here c.here_low)))

-- a bit more in front of what is there
one_more : (m x : ℕ) (w b : List ℕ) → x < 2 → (y : List ℕ) × (IsPath 2 m y × (b ≡ y ++ x ∷ w)) → (y : List ℕ) × (IsPath 2 (suc m) y × (b ≡ y ++ w))
one_more m x w b low f =
    (f.0 ++ x ∷ [], (subst (λ (k : ℕ). IsPath 2 k (f.0 ++ x ∷ [])) (add-one m) (path-append 2 m 1 f.0 (x ∷ []) f.1.0 (low, tt)), f.1.1 ∙ sym (append_assoc f.0 (x ∷ []) w)))

module _ (score : List ℕ → ℤ) (m : ℕ) (w a b : List ℕ) (none : IsBestEnd score m (0 ∷ w) a) (one : IsBestEnd score m (1 ∷ w) b) where
  -- the word with 1 scores more
  takes_one : score a <ℤ score b → IsBestEnd score (suc m) w b
  takes_one less = record {
    front = one_more m 1 w b (omega arith) one.front;
    top = λ y h.
        let z = last_bit m y w h in
        ⊎_elim
        (λ e. subst (λ (v : List ℕ). score v ≤ℤ score b) (sym e) (below_both (score (z.0 ++ 0 ∷ w)) (score a) (score b) (none.top z.0 z.1.0) less))
        (λ e. subst (λ (v : List ℕ). score v ≤ℤ score b) (sym e) (one.top z.0 z.1.0)) z.1.1;
    first = λ y h same.
        let z = last_bit m y w h in
        ⊎_elim
        (λ e. absurd (not_reached (score (z.0 ++ 0 ∷ w)) (score a) (score b) (none.top z.0 z.1.0) less (ap score (sym e) ∙ same)))
        (λ e. subst (λ (v : List ℕ). (b ≡ v) ⊎ IsBefore b v) (sym e) (one.first z.0 z.1.0 (ap score (sym e) ∙ same))) z.1.1;
  }

  -- the word with 0 scores as much or more
  takes_none : score b ≤ℤ score a → IsBestEnd score (suc m) w a
  takes_none more = record {
    front = one_more m 0 w a (omega arith) none.front;
    top = λ y h.
        let z = last_bit m y w h in
        ⊎_elim
        (λ e. subst (λ (v : List ℕ). score v ≤ℤ score a) (sym e) (none.top z.0 z.1.0))
        (λ e. subst (λ (v : List ℕ). score v ≤ℤ score a) (sym e) (le_trans (score (z.0 ++ 1 ∷ w)) (score b) (score a) (one.top z.0 z.1.0) more)) z.1.1;
    first = λ y h same.
        let z = last_bit m y w h in
        ⊎_elim
        (λ e. subst (λ (v : List ℕ). (a ≡ v) ⊎ IsBefore a v) (sym e) (none.first z.0 z.1.0 (ap score (sym e) ∙ same)))
        (λ e.
        let long : length none.front.0 ≡ length z.0 = path-length 2 m none.front.0 none.front.1.0 ∙ sym (path-length 2 m z.0 z.1.0) in
        inr (subst (λ (v : List ℕ). IsBefore a v) (sym e) (subst (λ (v : List ℕ). IsBefore v (z.0 ++ 1 ∷ w)) (sym none.front.1.1) (before-here none.front.0 z.0 w 0 1 long (omega arith))))) z.1.1;
  }

  chosen : (t : Bool) → int_lt (score a) (score b) ≡ t → IsBestEnd score (suc m) w (cond t b a)
  chosen true e = takes_one (lt_true (score a) (score b) e)
  chosen false e = takes_none (lt_false (score a) (score b) e)

best_from-best : (score : List ℕ → ℤ) (m : ℕ) (w : List ℕ) → IsBestEnd score m w (best_from score m w)
unfolding best_from
best_from-best score zero w = record {
  front = ([], (tt, refl));
  top = λ y h. subst (λ (v : List ℕ). score (v ++ w) ≤ℤ score w) (sym (path-none 2 y h)) (same_score (score w));
  first = λ y h same. inl (ap (λ (v : List ℕ). v ++ w) (sym (path-none 2 y h)));
}
best_from-best score (suc m) w =
    chosen score m w (best_from score m (0 ∷ w)) (best_from score m (1 ∷ w)) (best_from-best score m (0 ∷ w)) (best_from-best score m (1 ∷ w))
    (int_lt (score (best_from score m (0 ∷ w))) (score (best_from score m (1 ∷ w)))) refl

-- so it is the best word
pub best_word-best : (columns : List (List Bool)) (l : List ℤ) (n : ℕ) → IsBest columns l n (best_word columns l n)
best_word-best columns l n =
    let h = best_from-best (outer_score columns l) n [] in
    let b : List ℕ = best_word columns l n in
    let path : IsPath 2 n b = subst (IsPath 2 n) (sym (h.front.1.1 ∙ append-nil h.front.0)) h.front.1.0 in
    record {
      free = record { bits = path_bits n b path; long = path-length 2 n b path };
      top = λ v free.
          let hv : IsPath 2 n v = subst (λ (k : ℕ). IsPath 2 k v) free.long (bits_path v free.bits) in
          subst (λ (x : List ℕ). outer_score columns l x ≤ℤ outer_score columns l b) (append-nil v) (h.top v hv);
      first = λ v free same.
          let hv : IsPath 2 n v = subst (λ (k : ℕ). IsPath 2 k v) free.long (bits_path v free.bits) in
          subst (λ (x : List ℕ). (b ≡ x) ⊎ IsBefore b x) (append-nil v) (h.first v hv (ap (outer_score columns l) (append-nil v) ∙ same));
    }

-- neither of two words comes before the other and after it
one_order : (u v : List ℕ) → IsBefore u v → IsBefore v u → ⊥
one_order [] v h k = h
one_order (a ∷ u) [] h k = h
one_order (a ∷ u) (b ∷ v) h k =
    ⊎_elim
    (λ x. ⊎_elim (λ y. one_order u v x y) (λ y. not-itself v (subst (λ (z : List ℕ). IsBefore z v) (sym y.0) x)) k)
    (λ x. ⊎_elim (λ y. not-itself v (subst (λ (z : List ℕ). IsBefore v z) x.0 y)) (λ y. let p = x.1 in let q = y.1 in absurd (omega arith)) k)
    h

-- there is one best word
pub best-only : (columns : List (List Bool)) (l : List ℤ) (n : ℕ) (u v : List ℕ) → IsBest columns l n u → IsBest columns l n v → u ≡ v
best-only columns l n u v h k =
    let same : outer_score columns l u ≡ outer_score columns l v = le_antisym (outer_score columns l u) (outer_score columns l v) (k.top u h.free) (h.top v k.free) in
    ⊎_elim (λ e. e) (λ x. ⊎_elim (λ e. sym e) (λ y. absurd (one_order u v x y)) (k.first u h.free same)) (h.first v k.free (sym same))
