-- The two states that lead to a state, and which of them leads on more.
use Rattle.std.proofs.Common.{◌≡◌, ℕ, zero, suc, ◌+◌, ◌*◌, ◌/◌, ◌%◌, ◌<◌, ◌⊎◌, inl, inr, ⊎_elim, sym, ◌∙◌, ap, ap₂, subst, refl, arith, Bool, true, false, cond, ℤ, ◌+ℤ◌, ◌≤ℤ◌, ◌<ℤ◌}
use Rattle.std.specs.Prelude.{int_lt}
use Rattle.std.specs.Int.{int_max}
use Rattle.std.proofs.lemmas.Int.{ints, clamps}
use Rattle.hpe_base.specs.Greatest.{IsGreatest}
use Rattle.hpe_base.specs.Trellis.{IsEdge}
use Rattle.hpe_base.proofs.Greatest.{max_left, max_right, max_cases}
use Rattle.hpe_lane.specs.OuterStage.{outer_next}
use Rattle.hpe_witness.specs.PathMetrics.{through, metric_after, survivor}

-- an edge to state q has the input and the half of the states that q says
pub leads-back : (q p x : ℕ) → p < 4 → x < 2 → outer_next p x ≡ q → (x ≡ q / 2) × (p / 2 ≡ q % 2)
leads-back q p x h k e = (omega arith, omega arith)

-- a bit is 0 or 1
pub bit-cases : (b : ℕ) → b < 2 → (b ≡ 0) ⊎ (b ≡ 1)
bit-cases zero h = inl refl
bit-cases (suc b) h = inr (omega arith)

-- a half of the states has two
which_half : (a p : ℕ) → p / 2 ≡ a → (p ≡ 2 * a) ⊎ (p ≡ 2 * a + 1)
which_half a p e = ⊎_elim (λ h. inl (omega arith)) (λ h. inr (omega arith)) (bit-cases (p % 2) (omega arith))

low_none : (q : ℕ) → 2 * (q % 2) < 4
low_none q = omega arith

low_one : (q : ℕ) → 2 * (q % 2) + 1 < 4
low_one q = omega arith

input_low : (q : ℕ) → q < 4 → q / 2 < 2
input_low q h = omega arith

to_none : (q : ℕ) → q < 4 → 2 * (q / 2) + 2 * (q % 2) / 2 ≡ q
to_none q h = omega arith

to_one : (q : ℕ) → q < 4 → 2 * (q / 2) + (2 * (q % 2) + 1) / 2 ≡ q
to_one q h = omega arith

-- what a comparison tells
pub lt_true : (f g : ℤ) → int_lt f g ≡ true → f <ℤ g
lt_true f g h = grind (arith, ints)

pub lt_false : (f g : ℤ) → int_lt f g ≡ false → g ≤ℤ f
lt_false f g h = grind (arith, ints)

choice_cases : (f g : ℤ) (x y : ℕ) (b : Bool) → int_lt f g ≡ b → ((cond b y x ≡ x) × (g ≤ℤ f)) ⊎ ((cond b y x ≡ y) × (f <ℤ g))
choice_cases f g x y true e = inr (refl, lt_true f g e)
choice_cases f g x y false e = inl (refl, lt_false f g e)

max_first : (f g : ℤ) → g ≤ℤ f → f ≡ int_max f g
max_first f g h = omega (arith, ints, clamps)

max_second : (f g : ℤ) → f <ℤ g → g ≡ int_max f g
max_second f g h = omega (arith, ints, clamps)

both_orders : (f g : ℤ) → f <ℤ g → g ≤ℤ f → ⊥
both_orders f g h k = omega (arith, ints)

below_greatest : (f g z : ℤ) → f <ℤ g → g ≡ z → f ≡ z → ⊥
below_greatest f g z h e k = omega (arith, ints)

module _ (metric : ℕ → ℤ) (edge : ℕ → ℕ → ℤ) (q : ℕ) where
  -- what each of the two leads on
  abbrev none : ℤ
  none = through metric edge (2 * (q % 2)) q

  abbrev one : ℤ
  one = through metric edge (2 * (q % 2) + 1) q

  -- neither leads on more than the metric after the step
  pub metric_after-bound : (p : ℕ) → p / 2 ≡ q % 2 → through metric edge p q ≤ℤ metric_after metric edge q
  metric_after-bound p e = ⊎_elim
      (λ s. subst (λ (k : ℕ). through metric edge k q ≤ℤ metric_after metric edge q) (sym s) (max_left none one))
      (λ s. subst (λ (k : ℕ). through metric edge k q ≤ℤ metric_after metric edge q) (sym s) (max_right none one))
      (which_half (q % 2) p e)

  -- which is the greatest of the edges to a state
  pub metric_after-greatest : q < 4 → IsGreatest (λ (e : ℕ × ℕ). IsEdge 2 4 e × (outer_next e.0 e.1 ≡ q)) (λ e. metric e.0 +ℤ edge e.0 e.1) (metric_after metric edge q)
  metric_after-greatest low = record {
    reached = ⊎_elim
        (λ m. ((2 * (q % 2), q / 2), (((low_none q, input_low q low), to_none q low), sym m)))
        (λ m. ((2 * (q % 2) + 1, q / 2), (((low_one q, input_low q low), to_one q low), sym m)))
        (max_cases none one);
    bound = λ e p.
        let w = leads-back q e.0 e.1 p.0.0 p.0.1 p.1 in
        subst (λ (x : ℕ). (metric e.0 +ℤ edge e.0 x) ≤ℤ metric_after metric edge q) (sym w.0) (metric_after-bound e.0 w.1);
  }

  -- the survivor is the one with the earlier input 0 where it leads on no less, or else the other
  survivor_cases : ((survivor metric edge q ≡ 2 * (q % 2)) × (one ≤ℤ none)) ⊎ ((survivor metric edge q ≡ 2 * (q % 2) + 1) × (none <ℤ one))
  survivor_cases = choice_cases none one (2 * (q % 2)) (2 * (q % 2) + 1) (int_lt none one) refl

  pub survivor-low : survivor metric edge q < 4
  survivor-low = ⊎_elim (λ h. subst (λ (k : ℕ). k < 4) (sym h.0) (low_none q)) (λ h. subst (λ (k : ℕ). k < 4) (sym h.0) (low_one q)) survivor_cases

  pub survivor-next : q < 4 → outer_next (survivor metric edge q) (q / 2) ≡ q
  survivor-next low = ⊎_elim (λ h. ap (λ (k : ℕ). outer_next k (q / 2)) h.0 ∙ to_none q low) (λ h. ap (λ (k : ℕ). outer_next k (q / 2)) h.0 ∙ to_one q low) survivor_cases

  -- it leads on the most
  pub survivor-best : through metric edge (survivor metric edge q) q ≡ metric_after metric edge q
  survivor-best = ⊎_elim
      (λ h. ap (λ (k : ℕ). through metric edge k q) h.0 ∙ max_first none one h.1)
      (λ h. ap (λ (k : ℕ). through metric edge k q) h.0 ∙ max_second none one h.1)
      survivor_cases

  -- which of the two it is
  pub survivor-is-one : none <ℤ one → 2 * (q % 2) + 1 ≡ survivor metric edge q
  survivor-is-one h = ⊎_elim (λ k. absurd (both_orders none one h k.1)) (λ k. sym k.0) survivor_cases

  pub survivor-is-none : one ≤ℤ none → 2 * (q % 2) ≡ survivor metric edge q
  survivor-is-none h = ⊎_elim (λ k. sym k.0) (λ k. absurd (both_orders none one k.1 h)) survivor_cases

  -- a state that leads on as much is the survivor itself, or has the earlier input 1 where the survivor has 0
  pub survivor-first : (p : ℕ) → p / 2 ≡ q % 2 → through metric edge p q ≡ metric_after metric edge q
      → (survivor metric edge q ≡ p) ⊎ ((survivor metric edge q ≡ 2 * (q % 2)) × (p ≡ 2 * (q % 2) + 1))
  survivor-first p half best = ⊎_elim
      (λ h. ⊎_elim (λ e. inl (h.0 ∙ sym e)) (λ e. inr (h.0, e)) (which_half (q % 2) p half))
      (λ h. ⊎_elim
      (λ e. absurd (below_greatest none one (metric_after metric edge q) h.1
      (ap (λ (k : ℕ). through metric edge k q) (sym h.0) ∙ survivor-best) (ap (λ (k : ℕ). through metric edge k q) (sym e) ∙ best)))
      (λ e. inl (h.0 ∙ sym e))
      (which_half (q % 2) p half))
      survivor_cases

-- metrics and edges that are equal where it matters have the same survivor
pub survivor-same : (metric other : ℕ → ℤ) (edge edge2 : ℕ → ℕ → ℤ) (q : ℕ) → ((p : ℕ) → p < 4 → metric p ≡ other p) → ((p x : ℕ) → edge p x ≡ edge2 p x)
    → survivor metric edge q ≡ survivor other edge2 q
survivor-same metric other edge edge2 q same h =
    let leads : (p : ℕ) → p < 4 → through metric edge p q ≡ through other edge2 p q = λ p low. ap₂ (λ (y z : ℤ). y +ℤ z) (same p low) (h p (q / 2)) in
    ap₂ (λ (y z : ℤ). cond (int_lt y z) (2 * (q % 2) + 1) (2 * (q % 2))) (leads (2 * (q % 2)) (low_none q)) (leads (2 * (q % 2) + 1) (low_one q))
