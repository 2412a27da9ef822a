-- The order of words that are read from the last bit to the first.
use Rattle.std.proofs.Common.{◌≡◌, ℕ, ◌<◌, inl, inr, ⊎_elim, ap, refl, arith, List, [], ◌∷◌, ◌++◌, length}
use Rattle.hpe_witness.specs.BestWord.{IsBefore}

-- more bits behind both
pub before-append : (u v ws : List ℕ) → IsBefore u v → IsBefore (u ++ ws) (v ++ ws)
before-append [] v ws h = absurd h
before-append (a ∷ u) [] ws h = absurd h
before-append (a ∷ u) (b ∷ v) ws h = ⊎_elim (λ k. inl (before-append u v ws k)) (λ k. inr (ap (λ (xs : List ℕ). xs ++ ws) k.0, k.1)) h

-- the last bit in which they differ decides
pub before-here : (u v ws : List ℕ) (a b : ℕ) → length u ≡ length v → a < b → IsBefore (u ++ a ∷ ws) (v ++ b ∷ ws)
before-here [] [] ws a b e h = inr (refl, h)
before-here [] (y ∷ v) ws a b e h = absurd (omega arith)
before-here (x ∷ u) [] ws a b e h = absurd (omega arith)
before-here (x ∷ u) (y ∷ v) ws a b e h = inl (before-here u v ws a b (omega arith) h)

head_cut : (x y : ℕ) (u v : List ℕ) → x ∷ u ≡ y ∷ v → (x ≡ y) × (u ≡ v)
head_cut x y u v e = (cc, cc)

-- of equal ends the fronts are equal
pub same-front : (u v ws : List ℕ) → length u ≡ length v → u ++ ws ≡ v ++ ws → u ≡ v
same-front [] [] ws e h = refl
same-front [] (y ∷ v) ws e h = absurd (omega arith)
same-front (x ∷ u) [] ws e h = absurd (omega arith)
same-front (x ∷ u) (y ∷ v) ws e h =
    let w = head_cut x y (u ++ ws) (v ++ ws) h in
    let r : u ≡ v = same-front u v ws (omega arith) w.1 in
    let s : x ≡ y = w.0 in
    cc

pub not-itself : (ws : List ℕ) → IsBefore ws ws → ⊥
not-itself [] h = h
not-itself (a ∷ ws) h = ⊎_elim (λ k. not-itself ws k) (λ k. let z = k.1 in absurd (omega arith)) h

-- and of equal ends the fronts decide
pub before-front : (u v ws : List ℕ) → length u ≡ length v → IsBefore (u ++ ws) (v ++ ws) → IsBefore u v
before-front [] [] ws e h = absurd (not-itself ws h)
before-front [] (y ∷ v) ws e h = absurd (omega arith)
before-front (x ∷ u) [] ws e h = absurd (omega arith)
before-front (x ∷ u) (y ∷ v) ws e h = ⊎_elim (λ k. inl (before-front u v ws (omega arith) k)) (λ k. inr (same-front u v ws (omega arith) k.0, k.1)) h

-- equal first bits don't decide
pub before-rest : (a : ℕ) (u v : List ℕ) → IsBefore (a ∷ u) (a ∷ v) → IsBefore u v
before-rest a u v h = ⊎_elim (λ k. k) (λ k. let z = k.1 in absurd (omega arith)) h
