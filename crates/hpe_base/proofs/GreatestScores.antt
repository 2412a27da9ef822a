-- The branching definition gives the greatest score, and only it.
use Rattle.std.proofs.Common.{◌≡◌, ℕ, zero, suc, ◌<◌, ◌⊎◌, inl, inr, ⊎_elim, sym, ◌∙◌, ap, subst, refl, arith, ℤ, ◌≤ℤ◌, List, [], ◌∷◌, ◌++◌, Bool, true, false, cond, Option, Some, None, append_assoc, append-nil}
use Rattle.std.specs.Int.Signed.{≤ℤ_refl}
use Rattle.hpe_base.specs.Greatest.{IsGreatest}
use Rattle.hpe_base.specs.Trellis.{IsPath}
use Rattle.hpe_base.specs.GreatestScores.{greater, top_from, IsTop}
use Rattle.hpe_base.proofs.Greatest.{IsGreatest-unique, IsGreatest-join, IsGreatest-widen}

-- the greater of the tops of two sets is that of both together
pub IsTop-join : {A : Type 0} (P Q R : A → Type 0) (f : A → ℤ) (a b : Option ℤ)
    → ((x : A) → P x → R x) → ((x : A) → Q x → R x) → ((x : A) → R x → P x ⊎ Q x)
    → IsTop P f a → IsTop Q f b → IsTop R f (greater a b)
IsTop-join P Q R f None None left right split g h = λ x r. ⊎_elim (g x) (h x) (split x r)
IsTop-join P Q R f None (Some b) left right split g h = IsGreatest-widen right (λ x r. ⊎_elim (λ p. absurd (g x p)) (λ q. q) (split x r)) h
IsTop-join P Q R f (Some a) None left right split g h = IsGreatest-widen left (λ x r. ⊎_elim (λ p. p) (λ q. absurd (h x q)) (split x r)) g
IsTop-join P Q R f (Some a) (Some b) left right split g h = IsGreatest-join left right split g h

-- a whole word that goes on from `w`, and is asked for
abbrev pub IsAsked : (List ℕ → Bool) → ℕ → List ℕ → List ℕ → Type 0
IsAsked asked missing w x = (y : List ℕ) × (IsPath 2 missing y × (x ≡ w ++ y) × (asked x ≡ true))

-- a word that no bit is missing from is whole
whole_is : (w x y : List ℕ) → IsPath 2 0 y → x ≡ w ++ y → x ≡ w
whole_is w x [] h e = e ∙ append-nil w
whole_is w x (b ∷ y) h e = absurd h

-- the top of one whole word
top_whole : (asked : List ℕ → Bool) (score : List ℕ → ℤ) (w : List ℕ) (b : Bool) → asked w ≡ b → IsTop (IsAsked asked 0 w) score (cond b (Some (score w)) None)
top_whole asked score w true e = record {
  reached = (w, (([], (tt, sym (append-nil w), e)), refl));
  bound = λ x h. subst (λ (v : List ℕ). score v ≤ℤ score w) (sym (whole_is w x h.0 h.1.0 h.1.1)) (≤ℤ_refl (score w));
}
top_whole asked score w false e = λ x h. cc (e, h.1.2, ap asked (whole_is w x h.0 h.1.0 h.1.1))

-- a word that goes on by a bit
goes_on : (asked : List ℕ → Bool) (n b : ℕ) (w x : List ℕ) → b < 2 → IsAsked asked n (w ++ b ∷ []) x → IsAsked asked (suc n) w x
goes_on asked n b w x low h = (b ∷ h.0, ((low, h.1.0), h.1.1 ∙ append_assoc w (b ∷ []) h.0, h.1.2))

-- a bit is 0 or 1
bit_is : (b : ℕ) → b < 2 → (b ≡ 0) ⊎ (b ≡ 1)
bit_is zero h = inl refl
bit_is (suc b) h = inr (omega arith)

-- a word goes on by 0 or by 1
branches : (asked : List ℕ → Bool) (n : ℕ) (w x y : List ℕ) → IsPath 2 (suc n) y → x ≡ w ++ y → asked x ≡ true → IsAsked asked n (w ++ 0 ∷ []) x ⊎ IsAsked asked n (w ++ 1 ∷ []) x
branches asked n w x [] h e a = absurd h
branches asked n w x (b ∷ y) h e a =
    ⊎_elim (λ z. inl (y, (h.1, e ∙ ap (λ (k : ℕ). w ++ k ∷ y) z ∙ sym (append_assoc w (0 ∷ []) y), a)))
    (λ z. inr (y, (h.1, e ∙ ap (λ (k : ℕ). w ++ k ∷ y) z ∙ sym (append_assoc w (1 ∷ []) y), a)))
    (bit_is b h.0)

-- the law of the branching definition
pub top-law : (asked : List ℕ → Bool) (score : List ℕ → ℤ) (n : ℕ) (w : List ℕ) → IsTop (IsAsked asked n w) score (top_from asked score n w)
unfolding top_from
top-law asked score zero w = top_whole asked score w (asked w) refl
top-law asked score (suc n) w =
    IsTop-join (IsAsked asked n (w ++ 0 ∷ [])) (IsAsked asked n (w ++ 1 ∷ [])) (IsAsked asked (suc n) w) score (top_from asked score n (w ++ 0 ∷ [])) (top_from asked score n (w ++ 1 ∷ []))
    (λ x h. goes_on asked n 0 w x (omega arith) h) (λ x h. goes_on asked n 1 w x (omega arith) h) (λ x h. branches asked n w x h.0 h.1.0 h.1.1 h.1.2)
    (top-law asked score n (w ++ 0 ∷ [])) (top-law asked score n (w ++ 1 ∷ []))

-- the same things by other words
IsTop-widen : {A : Type 0} (P R : A → Type 0) (f : A → ℤ) (o : Option ℤ) → ((x : A) → P x → R x) → ((x : A) → R x → P x) → IsTop P f o → IsTop R f o
IsTop-widen P R f None there back h = λ x r. h x (back x r)
IsTop-widen P R f (Some z) there back h = IsGreatest-widen there back h

-- from no bit on, the words are all of n bits
pub top-whole : (asked : List ℕ → Bool) (score : List ℕ → ℤ) (n : ℕ)
    → IsTop (λ (x : List ℕ). IsPath 2 n x × (asked x ≡ true)) score (top_from asked score n [])
top-whole asked score n =
    IsTop-widen (IsAsked asked n []) (λ (x : List ℕ). IsPath 2 n x × (asked x ≡ true)) score (top_from asked score n [])
    (λ x h. (subst (λ (v : List ℕ). IsPath 2 n v) (sym h.1.1) h.1.0, h.1.2)) (λ x h. (x, (h.0, refl, h.1))) (top-law asked score n [])

-- a top is the greatest score, where there is one
top_only : {A : Type 0} (P : A → Type 0) (f : A → ℤ) (z : ℤ) (o : Option ℤ) → IsTop P f o → IsGreatest P f z → o ≡ Some z
top_only P f z None h g = absurd (h g.reached.0 g.reached.1.0)
top_only P f z (Some y) h g = ap (λ (v : ℤ). Some v) (IsGreatest-unique h g)

-- so whatever is the greatest of all words that are asked for is the top
pub top-is : (asked : List ℕ → Bool) (score : List ℕ → ℤ) (n : ℕ) (z : ℤ)
    → IsGreatest (λ (x : List ℕ). IsPath 2 n x × (asked x ≡ true)) score z → top_from asked score n [] ≡ Some z
top-is asked score n z g =
    top_only (λ (x : List ℕ). IsPath 2 n x × (asked x ≡ true)) score z (top_from asked score n []) (top-whole asked score n) g

-- there is a top where there is a word
pub some_top : {A : Type 0} (chosen : A → Type 0) (score : A → ℤ) (o : Option ℤ) → IsTop chosen score o → (x : A) → chosen x → (z : ℤ) × ((o ≡ Some z) × IsGreatest chosen score z)
some_top chosen score None h x p = absurd (h x p)
some_top chosen score (Some z) h x p = (z, (refl, h))
