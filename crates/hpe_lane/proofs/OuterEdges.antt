-- The greatest of few edges.
use Rattle.std.proofs.Common.{◌≡◌, ℕ, zero, suc, ◌+◌, ◌*◌, ◌/◌, ◌%◌, ◌<◌, ◌⊎◌, inl, inr, ⊎_elim, sym, ◌∙◌, ap, ap₂, subst, refl, arith, ℤ, pos, ◌+ℤ◌, ◌-ℤ◌, ◌≤ℤ◌, List, [], ◌∷◌, get_or}
use Rattle.std.specs.Int.{int_max}
use Rattle.std.proofs.lemmas.Int.{ints, clamps}
use Rattle.hpe_base.specs.Greatest.{IsGreatest, IsSoft}
use Rattle.hpe_base.specs.Trellis.{IsEdge}
use Rattle.hpe_base.proofs.Greatest.{max_left, max_right, max_cases, le_trans, IsGreatest-carry}
use Rattle.hpe_base.specs.Sizes.{number_at, Within, AllWithin}
use Rattle.hpe_lane.specs.OuterStage.{edge_outputs, outer_next, edge_sum, soft_bit}
use Rattle.hpe_lane.specs.OuterSums.{best_sum}
use Rattle.hpe_lane.proofs.ChosenSums.{chosen-within}

-- the next state is one of four
pub outer-stays : (p x : ℕ) → p < 4 → x < 2 → outer_next p x < 4
outer-stays p x h k = omega arith

-- what holds of each of four places
pub at_four : (P : ℕ → Type 0) → P 0 → P 1 → P 2 → P 3 → (q : ℕ) → q < 4 → P q
at_four P a b c d zero h = a
at_four P a b c d (suc zero) h = b
at_four P a b c d (suc (suc zero)) h = c
at_four P a b c d (suc (suc (suc zero))) h = d
at_four P a b c d (suc (suc (suc (suc q)))) h = absurd (omega arith)

-- an input is 0 or 1
two_cases : (x : ℕ) → x < 2 → (x ≡ 0) ⊎ (x ≡ 1)
two_cases zero h = inl refl
two_cases (suc x) h = inr (omega arith)

-- three numbers as a list
three_within : (a b c : ℤ) → Within 16383 a → Within 16383 b → Within 16383 c → AllWithin 16383 (a ∷ b ∷ c ∷ [])
three_within a b c ha hb hc zero = ha
three_within a b c ha hb hc (suc zero) = hb
three_within a b c ha hb hc (suc (suc zero)) = hc
three_within a b c ha hb hc (suc (suc (suc i))) = (omega (arith, ints), omega (arith, ints))

-- the greater of two things' scores
two_greatest : {A : Type 0} {P : A → Type 0} {f : A → ℤ} (a b : A) (z : ℤ) → P a → P b → ((e : A) → P e → (e ≡ a) ⊎ (e ≡ b)) → z ≡ int_max (f a) (f b) → IsGreatest P f z
two_greatest {A} {P} {f} a b z pa pb split e = record {
  reached = ⊎_elim (λ m. (a, (pa, sym m ∙ sym e))) (λ m. (b, (pb, sym m ∙ sym e))) (max_cases (f a) (f b));
  bound = λ x p. subst (λ (y : ℤ). f x ≤ℤ y) (sym e)
      (⊎_elim (λ s. subst (λ (y : A). f y ≤ℤ int_max (f a) (f b)) (sym s) (max_left (f a) (f b))) (λ s. subst (λ (y : A). f y ≤ℤ int_max (f a) (f b)) (sym s) (max_right (f a) (f b))) (split x p));
}

-- an edge to state q has the input and the half of the states that q says
leads_back : (q p x : ℕ) → p < 4 → x < 2 → 2 * x + p / 2 ≡ q → (x ≡ q / 2) × (p / 2 ≡ q % 2)
leads_back q p x h k e = (omega arith, omega arith)

-- a half of the states has two
which_half : (a p : ℕ) → p / 2 ≡ a → (p ≡ 2 * a) ⊎ (p ≡ 2 * a + 1)
which_half a p e = ⊎_elim (λ h. inl (omega arith)) (λ h. inr (omega arith)) (two_cases (p % 2) (omega arith))

-- a pair by its parts
pair_is : (e : ℕ × ℕ) (c d : ℕ) → e.0 ≡ c → e.1 ≡ d → (let w : ℕ × ℕ = (c, d) in e ≡ w)
pair_is e c d f g = ap₂ (λ (x y : ℕ). let w : ℕ × ℕ = (x, y) in w) f g

-- the two edges to state q
leads_to : (a q : ℕ) → q < 4 → a < 2 → (2 * (q % 2) + a < 4) × (q / 2 < 2) × (2 * (q / 2) + (2 * (q % 2) + a) / 2 ≡ q)
leads_to a q h k = (omega arith, omega arith, omega arith)

-- the greater of the two edges to a state
pub forward_top : (row l : List ℤ) (q : ℕ) (z : ℤ) → q < 4
    → z ≡ int_max (number_at row (2 * (q % 2)) +ℤ edge_sum l (2 * (q % 2)) (q / 2)) (number_at row (2 * (q % 2) + 1) +ℤ edge_sum l (2 * (q % 2) + 1) (q / 2))
    → IsGreatest (λ (e : ℕ × ℕ). IsEdge 2 4 e × (outer_next e.0 e.1 ≡ q)) (λ e. number_at row e.0 +ℤ edge_sum l e.0 e.1) z
forward_top row l q z h e =
    let a = leads_to 0 q h (omega arith) in
    let b = leads_to 1 q h (omega arith) in
    let low : 2 * (q % 2) < 4 = omega arith in
    let to : 2 * (q / 2) + 2 * (q % 2) / 2 ≡ q = omega arith in
    two_greatest (2 * (q % 2), q / 2) (2 * (q % 2) + 1, q / 2) z ((low, a.1), to) ((b.0, b.1), b.2)
    (λ x p.
    let w = leads_back q x.0 x.1 p.0.0 p.0.1 p.1 in
    ⊎_elim (λ s. inl (pair_is x (2 * (q % 2)) (q / 2) s w.0)) (λ s. inr (pair_is x (2 * (q % 2) + 1) (q / 2) s w.0)) (which_half (q % 2) x.0 w.1)) e

-- three numbers add up to no more than three times their size
pub edge_sum_within : (l : List ℤ) (p x : ℕ) → AllWithin 16383 l → Within 49149 (edge_sum l p x)
edge_sum_within l p x h = chosen-within (number_at l 0 ∷ number_at l 1 ∷ number_at l 2 ∷ []) (edge_outputs p x) (three_within (number_at l 0) (number_at l 1) (number_at l 2) (h 0) (h 1) (h 2))

-- an edge and what is scored after it
pub after_within : (a b : ℤ) → Within 49149 a → Within 600000000 b → Within 600049149 (a +ℤ b)
after_within a b h k = (let p = h.0 in let q = k.0 in omega (arith, ints), let p = h.1 in let q = k.1 in omega (arith, ints))

-- the greater of the two inputs of a state
pub back_top : (l back : List ℤ) (p : ℕ) (z a b : ℤ) → a ≡ edge_sum l p 0 +ℤ number_at back (outer_next p 0) → b ≡ edge_sum l p 1 +ℤ number_at back (outer_next p 1) → z ≡ int_max a b
    → IsGreatest (λ (x : ℕ). x < 2) (λ x. edge_sum l p x +ℤ number_at back (outer_next p x)) z
back_top l back p z a b ea eb e =
    two_greatest 0 1 z (omega arith) (omega arith) two_cases (e ∙ ap₂ int_max ea eb)

-- none of four sums is above the greatest
four_bound : (f g : ℕ → ℤ) (p : ℕ) → p < 4 → (f p +ℤ g p) ≤ℤ best_sum f g
four_bound f g = at_four (λ p. (f p +ℤ g p) ≤ℤ best_sum f g)
    (le_trans _ _ _ (max_left (f 0 +ℤ g 0) (f 1 +ℤ g 1)) (max_left (int_max (f 0 +ℤ g 0) (f 1 +ℤ g 1)) (int_max (f 2 +ℤ g 2) (f 3 +ℤ g 3))))
    (le_trans _ _ _ (max_right (f 0 +ℤ g 0) (f 1 +ℤ g 1)) (max_left (int_max (f 0 +ℤ g 0) (f 1 +ℤ g 1)) (int_max (f 2 +ℤ g 2) (f 3 +ℤ g 3))))
    (le_trans _ _ _ (max_left (f 2 +ℤ g 2) (f 3 +ℤ g 3)) (max_right (int_max (f 0 +ℤ g 0) (f 1 +ℤ g 1)) (int_max (f 2 +ℤ g 2) (f 3 +ℤ g 3))))
    (le_trans _ _ _ (max_right (f 2 +ℤ g 2) (f 3 +ℤ g 3)) (max_right (int_max (f 0 +ℤ g 0) (f 1 +ℤ g 1)) (int_max (f 2 +ℤ g 2) (f 3 +ℤ g 3))))

-- the greatest of four sums is the greatest over the states
four_greatest : (f g : ℕ → ℤ) → IsGreatest (λ (p : ℕ). p < 4) (λ p. f p +ℤ g p) (best_sum f g)
four_greatest f g = record {
  reached = ⊎_elim
      (λ e. ⊎_elim (λ m. (0, (omega arith, sym m ∙ sym e))) (λ m. (1, (omega arith, sym m ∙ sym e))) (max_cases (f 0 +ℤ g 0) (f 1 +ℤ g 1)))
      (λ e. ⊎_elim (λ m. (2, (omega arith, sym m ∙ sym e))) (λ m. (3, (omega arith, sym m ∙ sym e))) (max_cases (f 2 +ℤ g 2) (f 3 +ℤ g 3)))
      (max_cases (int_max (f 0 +ℤ g 0) (f 1 +ℤ g 1)) (int_max (f 2 +ℤ g 2) (f 3 +ℤ g 3)));
  bound = four_bound f g;
}

-- the input with which the edge from state `p` has soft bit `k` equal to `b`
abbrev pub pick : ℕ → ℕ → ℕ → ℕ
pick k b p = get_or (b ∷ ((b + p % 2) % 2) ∷ ((b + p / 2 + p % 2) % 2) ∷ ((b + p / 2 + p % 2) % 2) ∷ []) k 0

pick_low : (b p : ℕ) → b < 2 → (k : ℕ) → k < 4 → pick k b p < 2
pick_low b p h = at_four (λ k. pick k b p < 2) h (omega arith) (omega arith) (omega arith)

pick_bit : (b p : ℕ) → b < 2 → p < 4 → (k : ℕ) → k < 4 → soft_bit k p (pick k b p) ≡ b
pick_bit b p h l = at_four (λ k. soft_bit k p (pick k b p) ≡ b) refl (omega arith) (omega arith) (omega arith)

pick_only : (b p x : ℕ) → b < 2 → p < 4 → x < 2 → (k : ℕ) → k < 4 → soft_bit k p x ≡ b → pick k b p ≡ x
pick_only b p x h l m = at_four (λ k. soft_bit k p x ≡ b → pick k b p ≡ x) (λ e. sym e) (λ e. omega arith) (λ e. omega arith) (λ e. omega arith)

-- the greatest of the edges whose soft bit `k` is `b`
class_top : (f : ℕ → ℤ) (g : ℕ → ℕ → ℤ) (k b : ℕ) → k < 4 → b < 2
    → IsGreatest (λ (e : ℕ × ℕ). IsEdge 2 4 e × (soft_bit k e.0 e.1 ≡ b)) (λ e. f e.0 +ℤ g e.0 e.1) (best_sum f (λ p. g p (pick k b p)))
class_top f g k b h l = IsGreatest-carry
    (λ p q. ((p, pick k b p), (((q, pick_low b p l k h), pick_bit b p l q k h), refl)))
    (λ e p. (e.0, (p.0.0, ap (λ (x : ℕ). f e.0 +ℤ g e.0 x) (pick_only b e.0 e.1 l p.0.0 p.0.1 k h p.1))))
    (four_greatest f (λ p. g p (pick k b p)))

-- the greatest of equal sums
pub best_same : (f g h : ℕ → ℤ) → ((p : ℕ) → p < 4 → g p ≡ h p) → best_sum f g ≡ best_sum f h
best_same f g h e =
    ap₂ int_max (ap₂ (λ (x y : ℤ). int_max (f 0 +ℤ x) (f 1 +ℤ y)) (e 0 (omega arith)) (e 1 (omega arith))) (ap₂ (λ (x y : ℤ). int_max (f 2 +ℤ x) (f 3 +ℤ y)) (e 2 (omega arith)) (e 3 (omega arith)))

-- the soft value of a bit of an edge, from the greatest sums with it 1 and with it 0
pub class_soft : (f : ℕ → ℤ) (g : ℕ → ℕ → ℤ) (k : ℕ) (z : ℤ) → k < 4 → z ≡ best_sum f (λ p. g p (pick k 1 p)) -ℤ best_sum f (λ p. g p (pick k 0 p))
    → IsSoft (IsEdge 2 4) (λ (e : ℕ × ℕ). soft_bit k e.0 e.1) (λ e. f e.0 +ℤ g e.0 e.1) z
class_soft f g k z h e = record {
  one = best_sum f (λ p. g p (pick k 1 p));
  zero = best_sum f (λ p. g p (pick k 0 p));
  with_one = class_top f g k 1 h (omega arith);
  with_zero = class_top f g k 0 h (omega arith);
  value = e;
}

-- two greatest numbers are no farther apart than the numbers
shifted : (a b c d : ℤ) (n : ℕ) → a ≤ℤ (c +ℤ pos n) → b ≤ℤ (d +ℤ pos n) → int_max a b ≤ℤ (int_max c d +ℤ pos n)
shifted a b c d n h k = omega (arith, ints, clamps)

-- two sums with one summand in common
apart : (f x y : ℤ) → Within 600049149 x → Within 600049149 y → (f +ℤ x) ≤ℤ ((f +ℤ y) +ℤ pos 1200098298)
apart f x y h k = let a = h.0 in let b = k.1 in omega (arith, ints)

-- nor are the greatest of four
pub best_shifted : (f g h : ℕ → ℤ) → ((p : ℕ) → p < 4 → Within 600049149 (g p)) → ((p : ℕ) → p < 4 → Within 600049149 (h p)) → best_sum f g ≤ℤ (best_sum f h +ℤ pos 1200098298)
best_shifted f g h wg wh =
    let s = λ (p : ℕ) (l : p < 4). apart (f p) (g p) (h p) (wg p l) (wh p l) in
    shifted (int_max (f 0 +ℤ g 0) (f 1 +ℤ g 1)) (int_max (f 2 +ℤ g 2) (f 3 +ℤ g 3)) (int_max (f 0 +ℤ h 0) (f 1 +ℤ h 1)) (int_max (f 2 +ℤ h 2) (f 3 +ℤ h 3)) 1200098298
    (shifted (f 0 +ℤ g 0) (f 1 +ℤ g 1) (f 0 +ℤ h 0) (f 1 +ℤ h 1) 1200098298 (s 0 (omega arith)) (s 1 (omega arith)))
    (shifted (f 2 +ℤ g 2) (f 3 +ℤ g 3) (f 2 +ℤ h 2) (f 3 +ℤ h 3) 1200098298 (s 2 (omega arith)) (s 3 (omega arith)))
