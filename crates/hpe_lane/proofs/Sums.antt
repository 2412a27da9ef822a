-- Sums of scores that fit, and rows as the greatest of their edges.
use Rattle.std.proofs.Common.{◌≡◌, lit≤, ℕ, zero, suc, ◌*◌, ◌%◌, ◌<◌, ◌≤◌, ◌⊎◌, inl, inr, ⊎_elim, sym, ◌∙◌, ap, ap₂, subst, arith, rules, ℤ, ◌+ℤ◌, ◌-ℤ◌, ◌≤ℤ◌, List, [], ◌∷◌, length, set, bit_and, w32, to_z, of_z, FitsSigned}
use Rattle.std.specs.Prelude.{count_ones}
use Rattle.std.specs.Int.{int_max}
use Rattle.std.specs.Int.Count.{ones-le, ones-ones}
use Rattle.std.proofs.lemmas.Bool.{cases_lt}
use Rattle.std.proofs.lemmas.Nat.Bits.{and_pow, bit_at_lowest}
use Rattle.std.proofs.lemmas.Int.{ints, clamps, to_z-of_z}
use Rattle.hpe_base.specs.Greatest.{IsGreatest}
use Rattle.hpe_base.specs.Trellis.{IsEdge}
use Rattle.hpe_base.proofs.Greatest.{max_left, max_right, max_cases, le_trans, plus_mono, IsGreatest-join}
use Rattle.hpe_base.specs.Sizes.{number_at, Within}
use Rattle.hpe_lane.specs.Edges.{HasParity, edge_of}
use Rattle.hpe_lane.proofs.Sizes.{wider}

pub fits : (z : ℤ) → Within 2000000000 z → FitsSigned w32 z
fits z h = search (rules, ints)

pub fits_sum : (a b : ℤ) → Within 1700000000 a → Within 147447 b → FitsSigned w32 (to_z w32 (of_z w32 a) +ℤ to_z w32 (of_z w32 b))
fits_sum a b h k =
    let p : FitsSigned w32 a = search (rules, ints) in
    let q : FitsSigned w32 b = search (rules, ints) in
    search (rules, ints)

pub IsGreatest-within : {A : Type 0} {P : A → Type 0} {f : A → ℤ} {t : ℤ} (most : ℕ) → ((x : A) → Within most (f x)) → IsGreatest P f t → Within most t
IsGreatest-within most h g = subst (λ (z : ℤ). Within most z) g.reached.1.1 (h g.reached.0)

ones_bit : (b : ℕ) → b < 2 → count_ones (b * 1) % 2 ≡ b
ones_bit zero h = let z : count_ones 0 ≤ 0 = ones-le 0 0 (omega arith) in omega arith
ones_bit (suc zero) h = let z : count_ones 1 ≡ 1 = ones-ones 1 in omega arith
ones_bit (suc (suc b)) h = absurd (omega arith)

-- under the mask 1 the parity is that of the number itself
pub parity_of_one : (v : ℕ) → count_ones (bit_and v 1) % 2 ≡ v % 2
parity_of_one v =
    let e : bit_and v 1 ≡ v % 2 * 1 = and_pow v 0 ∙ ap (λ (b : ℕ). b * 1) (bit_at_lowest v) in
    ap (λ (n : ℕ). count_ones n % 2) e ∙ ones_bit (v % 2) (omega arith)

-- an edge that ends in `b`
abbrev pub EndsIn : ℕ → ℕ → ℕ × ℕ → Type 0
EndsIn n b e = IsEdge n 2 e × (e.1 % 2 ≡ b)

forward_bound : (row from0 from1 : List ℤ) (n b : ℕ) (e0 e1 : ℤ)
    → IsGreatest (HasParity n 1 b) (number_at from0) e0 → IsGreatest (HasParity n 1 b) (number_at from1) e1
    → (s v : ℕ) → s < 2 → v < n → v % 2 ≡ b → (number_at row s +ℤ edge_of from0 from1 s v) ≤ℤ int_max (number_at row 0 +ℤ e0) (number_at row 1 +ℤ e1)
forward_bound row from0 from1 n b e0 e1 g h zero v low below ends =
    le_trans _ _ _ (plus_mono (number_at row 0) (number_at from0 v) e0 (g.bound v (below, parity_of_one v ∙ ends))) (max_left (number_at row 0 +ℤ e0) (number_at row 1 +ℤ e1))
forward_bound row from0 from1 n b e0 e1 g h (suc zero) v low below ends =
    le_trans _ _ _ (plus_mono (number_at row 1) (number_at from1 v) e1 (h.bound v (below, parity_of_one v ∙ ends))) (max_right (number_at row 0 +ℤ e0) (number_at row 1 +ℤ e1))
forward_bound row from0 from1 n b e0 e1 g h (suc (suc s)) v low below ends = absurd (omega arith)

-- the forward row at `b`, from the best edge of each state
pub forward_top : (row from0 from1 : List ℤ) (n b : ℕ) (e0 e1 : ℤ)
    → IsGreatest (HasParity n 1 b) (number_at from0) e0 → IsGreatest (HasParity n 1 b) (number_at from1) e1
    → IsGreatest (EndsIn n b) (λ e. number_at row e.0 +ℤ edge_of from0 from1 e.0 e.1) (int_max (number_at row 0 +ℤ e0) (number_at row 1 +ℤ e1))
forward_top row from0 from1 n b e0 e1 g h = record {
  reached = ⊎_elim
      (λ m. ((0, g.reached.0), (((omega arith, g.reached.1.0.0), sym (parity_of_one g.reached.0) ∙ g.reached.1.0.1), ap (λ (z : ℤ). number_at row 0 +ℤ z) g.reached.1.1 ∙ sym m)))
      (λ m. ((1, h.reached.0), (((omega arith, h.reached.1.0.0), sym (parity_of_one h.reached.0) ∙ h.reached.1.0.1), ap (λ (z : ℤ). number_at row 1 +ℤ z) h.reached.1.1 ∙ sym m)))
      (max_cases (number_at row 0 +ℤ e0) (number_at row 1 +ℤ e1));
  bound = λ e p. forward_bound row from0 from1 n b e0 e1 g h e.0 e.1 p.0.0 p.0.1 p.1;
}

-- both places of a pair
pub at_pair : (x y : ℤ) (P : ℕ → ℤ → Type 0) → P 0 x → P 1 y → (b : ℕ) → b < 2 → P b (number_at (x ∷ y ∷ []) b)
at_pair x y P p q zero h = p
at_pair x y P p q (suc zero) h = q
at_pair x y P p q (suc (suc b)) h = absurd (omega arith)

sum_is : (a b : ℤ) → Within 1700000000 a → Within 147447 b → to_z w32 (of_z w32 (to_z w32 (of_z w32 a) +ℤ to_z w32 (of_z w32 b))) ≡ a +ℤ b
sum_is a b h k = omega (arith, ints)

max_fits : (x y : ℤ) → Within 2000000000 x → Within 2000000000 y → to_z w32 (of_z w32 (int_max x y)) ≡ int_max x y
max_fits x y h k = omega (arith, ints, clamps)

within_sum : (a b : ℤ) → Within 1700000000 a → Within 147447 b → Within 2000000000 (a +ℤ b)
within_sum a b h k = (omega (arith, ints), omega (arith, ints))

-- the greater of two sums, as the code has it
pub max_of_sums : (a b c d r : ℤ) → Within 1700000000 a → Within 147447 b → Within 1700000000 c → Within 147447 d
    → r ≡ int_max (to_z w32 (of_z w32 (to_z w32 (of_z w32 a) +ℤ to_z w32 (of_z w32 b)))) (to_z w32 (of_z w32 (to_z w32 (of_z w32 c) +ℤ to_z w32 (of_z w32 d))))
    → to_z w32 (of_z w32 r) ≡ int_max (a +ℤ b) (c +ℤ d)
max_of_sums a b c d r ha hb hc hd e =
    let f : r ≡ int_max (a +ℤ b) (c +ℤ d) = e ∙ ap₂ int_max (sum_is a b ha hb) (sum_is c d hc hd) in
    ap (λ (z : ℤ). to_z w32 (of_z w32 z)) f ∙ max_fits (a +ℤ b) (c +ℤ d) (within_sum a b ha hb) (within_sum c d hc hd)

-- the difference of two scores that lie near each other
pub fits_difference : (x y : ℤ) → Within 1200294894 (x -ℤ y) → to_z w32 (of_z w32 x) ≡ x → to_z w32 (of_z w32 y) ≡ y → FitsSigned w32 (to_z w32 (of_z w32 x) -ℤ to_z w32 (of_z w32 y))
fits_difference x y h ex ey = subst (FitsSigned w32) (sym (ap₂ (λ (a b : ℤ). a -ℤ b) ex ey)) (fits (x -ℤ y) (wide (x -ℤ y) h))
  where
    wide : (z : ℤ) → Within 1200294894 z → Within 2000000000 z
    wide z h = (let a = h.0 in omega (arith, ints), let a = h.1 in omega (arith, ints))

pub difference_is : (x y : ℤ) → Within 1200294894 (x -ℤ y) → to_z w32 (of_z w32 x) ≡ x → to_z w32 (of_z w32 y) ≡ y → to_z w32 (of_z w32 (to_z w32 (of_z w32 x) -ℤ to_z w32 (of_z w32 y))) ≡ x -ℤ y
difference_is x y h ex ey =
    to_z-of_z w32 (to_z w32 (of_z w32 x) -ℤ to_z w32 (of_z w32 y)) (fits_difference x y h ex ey) ∙ ap₂ (λ (a b : ℤ). a -ℤ b) ex ey

-- a forward row is within what sums take
pub row_wide : (row : List ℤ) → ((s : ℕ) → s < 2 → Within 1100000000 (number_at row s)) → (s : ℕ) → s < 2 → Within 1700000000 (number_at row s)
row_wide row h s l = let w = h s l in wider 1100000000 1700000000 (number_at row s) (lit≤ tt) w

-- all places of a list of four that are written one after another
pub at_four : (xs : List ℤ) (x y z w : ℤ) (P : ℕ → ℤ → Type 0) → length xs ≡ 4 → P 0 x → P 1 y → P 2 z → P 3 w
    → (i : ℕ) → i < 4 → P i (number_at (set (set (set (set xs 0 x) 1 y) 2 z) 3 w) i)
at_four [] x y z w P e p q r s i h = absurd (omega arith)
at_four (a ∷ []) x y z w P e p q r s i h = absurd (omega arith)
at_four (a ∷ b ∷ []) x y z w P e p q r s i h = absurd (omega arith)
at_four (a ∷ b ∷ c ∷ []) x y z w P e p q r s i h = absurd (omega arith)
at_four (a ∷ b ∷ c ∷ d ∷ xs) x y z w P e p q r s zero h = p
at_four (a ∷ b ∷ c ∷ d ∷ xs) x y z w P e p q r s (suc zero) h = q
at_four (a ∷ b ∷ c ∷ d ∷ xs) x y z w P e p q r s (suc (suc zero)) h = r
at_four (a ∷ b ∷ c ∷ d ∷ xs) x y z w P e p q r s (suc (suc (suc zero))) h = s
at_four (a ∷ b ∷ c ∷ d ∷ xs) x y z w P e p q r s (suc (suc (suc (suc i)))) h = absurd (omega arith)

-- and so is a backward row
pub back_wide : (row : List ℤ) → ((s : ℕ) → s < 2 → Within 600000000 (number_at row s)) → (s : ℕ) → s < 2 → Within 1700000000 (number_at row s)
back_wide row h s l = let w = h s l in wider 600000000 1700000000 (number_at row s) (lit≤ tt) w

plus_swap : (x y : ℤ) → x +ℤ y ≡ y +ℤ x
plus_swap x y = omega (arith, ints)

even_or_odd : (k : ℕ) → (k % 2 ≡ 0) ⊎ (k % 2 ≡ 1)
even_or_odd k = ⊎_elim (λ (h : k % 2 < 1). inl (omega arith)) (λ (h : 1 ≤ k % 2). inr (omega arith)) (cases_lt (k % 2) 1)

-- the greatest of a state's edges with what comes after them, from its best edges to each state
pub after_top : (edge : ℕ → ℤ) (back : List ℤ) (n : ℕ) (e o : ℤ) → IsGreatest (HasParity n 1 0) edge e → IsGreatest (HasParity n 1 1) edge o
    → IsGreatest (λ (v : ℕ). v < n) (λ v. edge v +ℤ number_at back (v % 2)) (int_max (number_at back 0 +ℤ e) (number_at back 1 +ℤ o))
after_top edge back n e o g h =
    IsGreatest-join (λ v p. p.0) (λ v p. p.0)
    (λ v p. ⊎_elim (λ b. inl (p, parity_of_one v ∙ b)) (λ b. inr (p, parity_of_one v ∙ b)) (even_or_odd v))
    (with_back 0 e g) (with_back 1 o h)
  where
    with_back : (b : ℕ) (z : ℤ) → IsGreatest (HasParity n 1 b) edge z → IsGreatest (HasParity n 1 b) (λ v. edge v +ℤ number_at back (v % 2)) (number_at back b +ℤ z)
    with_back b z g = record {
      reached = (g.reached.0, (g.reached.1.0, same g.reached.0 g.reached.1.0.1 ∙ ap (λ (x : ℤ). number_at back b +ℤ x) g.reached.1.1));
      bound = λ v p. subst (λ (x : ℤ). x ≤ℤ (number_at back b +ℤ z)) (sym (same v p.1)) (plus_mono (number_at back b) (edge v) z (g.bound v p));
    }
      where
        same : (v : ℕ) → count_ones (bit_and v 1) % 2 ≡ b → edge v +ℤ number_at back (v % 2) ≡ number_at back b +ℤ edge v
        same v e = ap (λ (k : ℕ). edge v +ℤ number_at back k) (sym (parity_of_one v) ∙ e) ∙ plus_swap (edge v) (number_at back b)

-- the sum of a forward and a backward row's numbers, as the code has it
abbrev pub sum32 : ℤ → ℤ → ℤ
sum32 a b = to_z w32 (of_z w32 (to_z w32 (of_z w32 a) +ℤ to_z w32 (of_z w32 b)))

pub around_is : (a b : ℤ) → Within 1100000000 a → Within 600000000 b → sum32 a b ≡ a +ℤ b
around_is a b h k = omega (arith, ints)

pub around_within : (a b : ℤ) → Within 1100000000 a → Within 600000000 b → Within 1700000000 (sum32 a b)
around_within a b h k = subst (Within 1700000000) (sym (around_is a b h k)) (within a b h k)
  where
    within : (a b : ℤ) → Within 1100000000 a → Within 600000000 b → Within 1700000000 (a +ℤ b)
    within a b h k = (omega (arith, ints), omega (arith, ints))
