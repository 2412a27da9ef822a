-- Laws of the greatest score.
use Rattle.std.proofs.Common.{◌≡◌, ℕ, ◌+◌, ◌<◌, ◌⊎◌, inl, inr, ⊎_elim, sym, ◌∙◌, subst, arith, ℤ, ◌+ℤ◌, ◌≤ℤ◌, ◌<ℤ◌, refl}
use Rattle.std.specs.Int.{int_max}
use Rattle.std.proofs.lemmas.Int.{ints, clamps, by_lt_z}
use borrow.Author.Count.{below_more}
use Rattle.hpe_base.specs.Greatest.{IsGreatest}
use Rattle.std.specs.Int.Signed.{≤ℤ_refl}

-- the greatest score of a search that has come to place i: a place that is chosen has it, and none below i scores more
pub record IsGreatestBelow (i : ℕ) (chosen : ℕ → Type 0) (score : ℕ → ℤ) (top : ℤ) : Type 0 where
  pub reached : (v : ℕ) × (chosen v × (score v ≡ top))
  pub bound : (v : ℕ) → v < i → chosen v → score v ≤ℤ top

-- the greater of two is at least the first
pub max_left : (a b : ℤ) → a ≤ℤ int_max a b
max_left a b = omega (arith, ints, clamps)

-- and at least the second
pub max_right : (a b : ℤ) → b ≤ℤ int_max a b
max_right a b = omega (arith, ints, clamps)

-- at most a number that is at most a third
pub le_trans : (a b c : ℤ) → a ≤ℤ b → b ≤ℤ c → a ≤ℤ c
le_trans a b c p q = omega (arith, ints)

-- the same added to both
pub plus_mono : (c a b : ℤ) → a ≤ℤ b → (c +ℤ a) ≤ℤ (c +ℤ b)
plus_mono c a b h = omega (arith, ints)

-- two that are at most each other are equal
pub le_antisym : (a b : ℤ) → a ≤ℤ b → b ≤ℤ a → a ≡ b
le_antisym a b p q = omega (arith, ints)

-- the greater of two is one of them
pub max_cases : (a b : ℤ) → (int_max a b ≡ a) ⊎ (int_max a b ≡ b)
max_cases a b = by_lt_z b a (λ h. inl (omega (arith, ints, clamps))) (λ h. inr (omega (arith, ints, clamps)))

-- there is one greatest score at most
pub IsGreatest-unique : {A : Type 0} {chosen : A → Type 0} {score : A → ℤ} {s t : ℤ} → IsGreatest chosen score s → IsGreatest chosen score t → s ≡ t
IsGreatest-unique {A} {chosen} {score} {s} {t} g h =
    let p : s ≤ℤ t = subst (λ (z : ℤ). z ≤ℤ t) g.reached.1.1 (h.bound g.reached.0 g.reached.1.0) in
    let q : t ≤ℤ s = subst (λ (z : ℤ). z ≤ℤ s) h.reached.1.1 (g.bound h.reached.0 h.reached.1.0) in
    le_antisym s t p q

-- from one set of things to another: each thing of either has one of the other with that score
pub IsGreatest-carry : {A B : Type 0} {P : A → Type 0} {f : A → ℤ} {Q : B → Type 0} {g : B → ℤ} {t : ℤ}
    → ((x : A) → P x → (y : B) × (Q y × (g y ≡ f x))) → ((y : B) → Q y → (x : A) × (P x × (f x ≡ g y)))
    → IsGreatest P f t → IsGreatest Q g t
IsGreatest-carry {A} {B} {P} {f} {Q} {g} {t} there back h =
    let z = there h.reached.0 h.reached.1.0 in
    record {
      reached = (z.0, (z.1.0, z.1.1 ∙ h.reached.1.1));
      bound = λ y q. let w = back y q in subst (λ (v : ℤ). v ≤ℤ t) w.1.1 (h.bound w.0 w.1.0);
    }

-- the greater of the greatest of two sets is that of both together
pub IsGreatest-join : {A : Type 0} {P Q R : A → Type 0} {f : A → ℤ} {s t : ℤ}
    → ((x : A) → P x → R x) → ((x : A) → Q x → R x) → ((x : A) → R x → P x ⊎ Q x)
    → IsGreatest P f s → IsGreatest Q f t → IsGreatest R f (int_max s t)
IsGreatest-join {A} {P} {Q} {R} {f} {s} {t} left right split g h = record {
  reached = ⊎_elim (λ e. (g.reached.0, (left _ g.reached.1.0, g.reached.1.1 ∙ sym e))) (λ e. (h.reached.0, (right _ h.reached.1.0, h.reached.1.1 ∙ sym e))) (max_cases s t);
  bound = λ x r. ⊎_elim (λ p. le_trans _ _ _ (g.bound x p) (max_left s t)) (λ q. le_trans _ _ _ (h.bound x q) (max_right s t)) (split x r);
}

-- one more place
pub IsGreatestBelow-take : {i : ℕ} {P : ℕ → Type 0} {f : ℕ → ℤ} {t : ℤ} → P i → IsGreatestBelow i P f t → IsGreatestBelow (i + 1) P f (int_max t (f i))
IsGreatestBelow-take {i} {P} {f} {t} here g = record {
  reached = ⊎_elim (λ e. (g.reached.0, (g.reached.1.0, g.reached.1.1 ∙ sym e))) (λ e. (i, (here, sym e))) (max_cases t (f i));
  bound = below_more (λ (v : ℕ). P v → f v ≤ℤ int_max t (f i)) i (λ v h p. le_trans _ _ _ (g.bound v h p) (max_left t (f i))) (λ _. max_right t (f i));
}

-- one place more that is not chosen
pub IsGreatestBelow-pass : {i : ℕ} {P : ℕ → Type 0} {f : ℕ → ℤ} {t : ℤ} → (P i → ⊥) → IsGreatestBelow i P f t → IsGreatestBelow (i + 1) P f t
IsGreatestBelow-pass {i} {P} {f} {t} here g = record {
  reached = g.reached;
  bound = below_more (λ (v : ℕ). P v → f v ≤ℤ t) i (λ v h p. g.bound v h p) (λ p. absurd (here p));
}

-- a search past all that are chosen
pub IsGreatestBelow-all : {i : ℕ} {P : ℕ → Type 0} {f : ℕ → ℤ} {t : ℤ} → ((v : ℕ) → P v → v < i) → IsGreatestBelow i P f t → IsGreatest P f t
IsGreatestBelow-all {i} {P} {f} {t} within g = record {
  reached = g.reached;
  bound = λ v p. g.bound v (within v p) p;
}

-- the same things by other words
pub IsGreatest-widen : {A : Type 0} {P R : A → Type 0} {f : A → ℤ} {t : ℤ} → ((x : A) → P x → R x) → ((x : A) → R x → P x) → IsGreatest P f t → IsGreatest R f t
IsGreatest-widen there back g = record {
  reached = (g.reached.0, (there _ g.reached.1.0, g.reached.1.1));
  bound = λ x r. g.bound x (back x r);
}

-- what is at most low is not at least y, which is more
too_low : (z low y : ℤ) → z ≤ℤ low → low <ℤ y → y ≤ℤ z → ⊥
too_low z low y h k l = omega (arith, ints)

-- things that score too little to be the greatest may be left out
pub IsGreatest-exclude : {A : Type 0} {P Q : A → Type 0} {f : A → ℤ} {z : ℤ} (low : ℤ) → ((x : A) → P x → Q x ⊎ (f x ≤ℤ low)) → ((x : A) → Q x → P x) → (y : A) → P y → low <ℤ f y → IsGreatest P f z → IsGreatest Q f z
IsGreatest-exclude {A} {P} {Q} {f} {z} low split back y py above g = record {
  reached = ⊎_elim
      (λ q. (g.reached.0, (q, g.reached.1.1)))
      (λ le. absurd (too_low z low (f y) (subst (λ (v : ℤ). v ≤ℤ low) g.reached.1.1 le) above (g.bound y py)))
      (split g.reached.0 g.reached.1.0);
  bound = λ x q. g.bound x (back x q);
}

-- of one place alone its score is the greatest
pub IsGreatest-single : (f : ℕ → ℤ) (w : ℕ) → IsGreatest (λ (v : ℕ). v ≡ w) f (f w)
IsGreatest-single f w = record { reached = (w, (refl, refl)); bound = λ v e. subst (λ (u : ℕ). f u ≤ℤ f w) (sym e) (≤ℤ_refl (f w)) }
