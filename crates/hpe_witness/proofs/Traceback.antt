-- The path that is traced back is the best, and the first of those when read from its last input to its first.
use Rattle.std.proofs.Common.{◌≡◌, ℕ, zero, suc, ◌+◌, ◌*◌, ◌/◌, ◌%◌, ◌<◌, ◌⊎◌, inl, inr, ⊎_elim, sym, ◌∙◌, ap, ap₂, subst, refl, arith, ℤ, pos, ◌+ℤ◌, ◌≤ℤ◌, List, [], ◌∷◌, ◌++◌, length, add-one}
use Rattle.std.proofs.lemmas.Int.{ints}
use Rattle.hpe_base.specs.Greatest.{IsGreatest}
use Rattle.hpe_base.specs.Trellis.{walk, ends, IsPath, IsEdge}
use Rattle.hpe_base.proofs.Trellis.{Fore, fore_first, fore_step, cut, path-append, ends-append, ends-below, walk-through}
use Rattle.hpe_lane.specs.OuterStage.{outer_next}
use Rattle.hpe_lane.proofs.OuterEdges.{outer-stays}
use Rattle.hpe_trellis.specs.OuterTrellis.{outer_start}
use Rattle.hpe_witness.specs.BestWord.{IsBefore}
use Rattle.hpe_witness.specs.PathMetrics.{metric_after, survivor, traced, begins}
use Rattle.hpe_witness.proofs.Survivors.{metric_after-greatest, metric_after-bound, leads-back, survivor-low, survivor-next, survivor-best, survivor-first}
use Rattle.hpe_witness.proofs.Paths.{path-none}
use Rattle.hpe_witness.proofs.Before.{before-append, before-here}

-- a path with the two inputs before it, by its first state
abbrev pub extended : ℕ → List ℕ → List ℕ
extended p us = (p % 2) ∷ (p / 2) ∷ us

next_half : (x p : ℕ) → p < 4 → x < 2 → (2 * x + p / 2) % 2 ≡ p / 2
next_half x p h k = omega arith

next_input : (x p : ℕ) → p < 4 → x < 2 → (2 * x + p / 2) / 2 ≡ x
next_input x p h k = omega arith

-- its last two inputs are those that the state after it says
pub extended-ends : (t p : ℕ) (us : List ℕ) → p < 4 → IsPath 2 t us → (w : List ℕ) × ((length w ≡ t) × (extended p us ≡ w ++ (ends outer_next p us % 2) ∷ (ends outer_next p us / 2) ∷ []))
extended-ends zero p [] low h = ([], (refl, refl))
extended-ends zero p (u ∷ us) low h = absurd h
extended-ends (suc t) p [] low h = absurd h
extended-ends (suc t) p (u ∷ us) low h =
    let q : ℕ = outer_next p u in
    let r = extended-ends t q us (outer-stays p u low h.0) h.1 in
    let e : (p / 2) ∷ u ∷ us ≡ extended q us = ap₂ (λ (a b : ℕ). a ∷ b ∷ us) (sym (next_half u p low h.0)) (sym (next_input u p low h.0)) in
    ((p % 2) ∷ r.0, (ap suc r.1.0, ap (λ (xs : List ℕ). (p % 2) ∷ xs) (e ∙ r.1.1)))

none_of : (a : ℕ) → a < 2 → (2 * a % 2 ≡ 0) × (2 * a / 2 ≡ a)
none_of a h = (omega arith, omega arith)

one_of : (a : ℕ) → a < 2 → ((2 * a + 1) % 2 ≡ 1) × ((2 * a + 1) / 2 ≡ a)
one_of a h = (omega arith, omega arith)

-- of two paths of one length to the two states of a half, the one with the earlier input 0 comes first
halves_before : (t p r a : ℕ) (us vs : List ℕ) → a < 2 → p < 4 → r < 4 → IsPath 2 t us → IsPath 2 t vs → ends outer_next p us ≡ 2 * a → ends outer_next r vs ≡ 2 * a + 1 → IsBefore (extended p us) (extended r vs)
halves_before t p r a us vs la lp lr hu hv eu ev =
    let x = extended-ends t p us lp hu in
    let y = extended-ends t r vs lr hv in
    let nu = none_of a la in
    let nv = one_of a la in
    let xs : extended p us ≡ x.0 ++ 0 ∷ a ∷ [] = x.1.1 ∙ ap₂ (λ (b d : ℕ). x.0 ++ b ∷ d ∷ []) (ap (λ (k : ℕ). k % 2) eu ∙ nu.0) (ap (λ (k : ℕ). k / 2) eu ∙ nu.1) in
    let ys : extended r vs ≡ y.0 ++ 1 ∷ a ∷ [] = y.1.1 ∙ ap₂ (λ (b d : ℕ). y.0 ++ b ∷ d ∷ []) (ap (λ (k : ℕ). k % 2) ev ∙ nv.0) (ap (λ (k : ℕ). k / 2) ev ∙ nv.1) in
    subst (λ (zs : List ℕ). IsBefore zs (extended r vs)) (sym xs) (subst (λ (zs : List ℕ). IsBefore (x.0 ++ 0 ∷ a ∷ []) zs) (sym ys) (before-here x.0 y.0 (a ∷ []) 0 1 (x.1.0 ∙ sym y.1.0) (omega arith)))

one_end : (next : ℕ → ℕ → ℕ) (p x : ℕ) (us : List ℕ) → ends next p (us ++ x ∷ []) ≡ next (ends next p us) x
one_end next p x us = ends-append next p us (x ∷ [])

append_score : (i w e f z : ℤ) → i +ℤ w ≡ f → f +ℤ e ≡ z → i +ℤ (w +ℤ (e +ℤ pos 0)) ≡ z
append_score i w e f z h k = omega (arith, ints)

-- a run that scores as much as a bound of both its parts is as good in both
front_best : (i w e f z : ℤ) → i +ℤ (w +ℤ (e +ℤ pos 0)) ≡ z → (i +ℤ w) ≤ℤ f → (f +ℤ e) ≤ℤ z → (i +ℤ w ≡ f) × (f +ℤ e ≡ z)
front_best i w e f z h a b = (omega (arith, ints), omega (arith, ints))

module _ (edge : ℕ → ℕ → ℕ → ℤ) (score : ℕ → ℕ → ℤ) (first : (q : ℕ) → score 0 q ≡ outer_start q) (more : (t q : ℕ) → score (suc t) q ≡ metric_after (score t) (edge t) q) where
  abbrev before : ℕ → ℕ → ℕ
  before t q = survivor (score t) (edge t) q

  -- the scores are the greatest of all runs
  pub score-fore : (t q : ℕ) → q < 4 → Fore 2 4 edge outer_next outer_start t q (score t q)
  score-fore zero q low = subst (Fore 2 4 edge outer_next outer_start 0 q) (sym (first q)) (fore_first 2 4 edge outer_next outer_start q low)
  score-fore (suc t) q low =
      subst (λ (k : ℕ). Fore 2 4 edge outer_next outer_start k q (score (suc t) q)) (add-one t)
      (fore_step 2 4 edge outer_next outer_start outer-stays t q (score (suc t) q) (score t) (score-fore t)
      (subst (λ (z : ℤ). IsGreatest (λ (e : ℕ × ℕ). IsEdge 2 4 e × (outer_next e.0 e.1 ≡ q)) (λ e. score t e.0 +ℤ edge t e.0 e.1) z) (sym (more t q)) (metric_after-greatest (score t) (edge t) q low)))

  pub traced-path : (t q : ℕ) → q < 4 → IsPath 2 t (traced before t q)
  traced-path zero q low = tt
  traced-path (suc t) q low =
      subst (λ (k : ℕ). IsPath 2 k (traced before t (before t q) ++ (q / 2) ∷ [])) (add-one t)
      (path-append 2 t 1 (traced before t (before t q)) ((q / 2) ∷ []) (traced-path t (before t q) (survivor-low (score t) (edge t) q)) (omega arith, tt))

  pub begins-low : (t q : ℕ) → q < 4 → begins before t q < 4
  begins-low zero q low = low
  begins-low (suc t) q low = begins-low t (before t q) (survivor-low (score t) (edge t) q)

  pub traced-ends : (t q : ℕ) → q < 4 → ends outer_next (begins before t q) (traced before t q) ≡ q
  traced-ends zero q low = refl
  traced-ends (suc t) q low =
      let p : ℕ = before t q in
      one_end outer_next (begins before t p) (q / 2) (traced before t p)
      ∙ ap (λ (k : ℕ). outer_next k (q / 2)) (traced-ends t p (survivor-low (score t) (edge t) q))
      ∙ survivor-next (score t) (edge t) q low

  -- what the traced path scores is the greatest
  pub traced-score : (t q : ℕ) → q < 4 → outer_start (begins before t q) +ℤ walk edge outer_next 0 (begins before t q) (traced before t q) ≡ score t q
  traced-score zero q low = (let z : (outer_start q +ℤ pos 0) ≡ outer_start q = omega (arith, ints) in z) ∙ sym (first q)
  traced-score (suc t) q low =
      let p : ℕ = before t q in
      let lp : p < 4 = survivor-low (score t) (edge t) q in
      let b : ℕ = begins before t p in
      let us : List ℕ = traced before t p in
      ap (λ (z : ℤ). outer_start b +ℤ z) (walk-through edge outer_next 2 t b (q / 2) us [] (traced-path t p lp))
      ∙ ap (λ (k : ℕ). outer_start b +ℤ (walk edge outer_next 0 b us +ℤ (edge t k (q / 2) +ℤ pos 0))) (traced-ends t p lp)
      ∙ append_score (outer_start b) (walk edge outer_next 0 b us) (edge t p (q / 2)) (score t p) (score (suc t) q) (traced-score t p lp) (survivor-best (score t) (edge t) q ∙ sym (more t q))

  -- the traced path, or another that scores as much and comes after it
  abbrev IsFirst : ℕ → ℕ → ℕ → List ℕ → Type 0
  IsFirst t q p us = (extended (begins before t q) (traced before t q) ≡ extended p us) ⊎ IsBefore (extended (begins before t q) (traced before t q)) (extended p us)

  pub traced-first : (t q p : ℕ) (us : List ℕ) → q < 4 → p < 4 → IsPath 2 t us → ends outer_next p us ≡ q → outer_start p +ℤ walk edge outer_next 0 p us ≡ score t q → IsFirst t q p us
  traced-first zero q p us low lp path end best =
      let e : us ≡ [] = path-none 2 us path in
      let f : p ≡ q = sym (ap (ends outer_next p) e) ∙ end in
      inl (ap₂ extended (sym f) (sym e))
  traced-first (suc t) q p us low lp path end best =
      let c = cut 2 t 0 us (subst (λ (k : ℕ). IsPath 2 k us) (sym (add-one t)) path) in
      let whole : us ≡ c.front ++ c.here ∷ [] = c.whole ∙ ap (λ (vs : List ℕ). c.front ++ c.here ∷ vs) (path-none 2 c.rest c.rest_path) in
      let r : ℕ = ends outer_next p c.front in
      let lr : r < 4 = ends-below 2 4 t outer_next outer-stays p c.front lp c.front_path in
      let goes : outer_next r c.here ≡ q = sym (one_end outer_next p c.here c.front) ∙ ap (ends outer_next p) (sym whole) ∙ end in
      let back = leads-back q r c.here lr c.here_low goes in
      let whole2 : us ≡ c.front ++ (q / 2) ∷ [] = whole ∙ ap (λ (x : ℕ). c.front ++ x ∷ []) back.0 in
      let parts : outer_start p +ℤ (walk edge outer_next 0 p c.front +ℤ (edge t r (q / 2) +ℤ pos 0)) ≡ score (suc t) q =
      ap (λ (z : ℤ). outer_start p +ℤ z) (sym (walk-through edge outer_next 2 t p (q / 2) c.front [] c.front_path))
      ∙ ap (λ (vs : List ℕ). outer_start p +ℤ walk edge outer_next 0 p vs) (sym whole2) ∙ best in
      let fits : (score t r +ℤ edge t r (q / 2)) ≤ℤ score (suc t) q =
      subst (λ (z : ℤ). (score t r +ℤ edge t r (q / 2)) ≤ℤ z) (sym (more t q)) (metric_after-bound (score t) (edge t) q r back.1) in
      let both = front_best (outer_start p) (walk edge outer_next 0 p c.front) (edge t r (q / 2)) (score t r) (score (suc t) q) parts
      ((score-fore t r lr).bound (p, c.front) ((lp, c.front_path), refl)) fits in
      let same : extended p (c.front ++ (q / 2) ∷ []) ≡ extended p us = ap (extended p) (sym whole2) in
      let s : ℕ = before t q in
      let ls : s < 4 = survivor-low (score t) (edge t) q in
      let us2 : List ℕ = traced before t s in
      let b : ℕ = begins before t s in
      ⊎_elim
      (λ e.
      let at : ends outer_next p c.front ≡ s = sym e in
      let best2 : outer_start p +ℤ walk edge outer_next 0 p c.front ≡ score t s = both.0 ∙ ap (score t) at in
      ⊎_elim
      (λ k. inl (ap (λ (xs : List ℕ). xs ++ (q / 2) ∷ []) k ∙ same))
      (λ k. inr (subst (IsBefore (extended b (us2 ++ (q / 2) ∷ []))) same (before-append (extended b us2) (extended p c.front) ((q / 2) ∷ []) k)))
      (traced-first t s p c.front ls lp c.front_path at best2))
      (λ e.
      inr (subst (IsBefore (extended b (us2 ++ (q / 2) ∷ []))) same
      (before-append (extended b us2) (extended p c.front) ((q / 2) ∷ [])
      (halves_before t b p (q % 2) us2 c.front (omega arith) (begins-low t s ls) lp (traced-path t s ls) c.front_path (traced-ends t s ls ∙ e.0) e.1))))
      (survivor-first (score t) (edge t) q r back.1 (both.1 ∙ more t q))
