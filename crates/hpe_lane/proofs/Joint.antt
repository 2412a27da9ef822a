-- The list that joins the edges of both states.
use Rattle.std.proofs.Common.{◌≡◌, ℕ, zero, suc, ◌+◌, ◌-◌, ◌%◌, ◌^◌, ◌<◌, ◌≤◌, ⊎_elim, sym, ◌∙◌, ap, ap₂, subst, arith, ℤ, pos, ◌+ℤ◌, ◌≤ℤ◌, List, [], ◌∷◌}
use Rattle.std.specs.Int.{int_max}
use Rattle.std.proofs.Math.Nat.{two-pow-succ, mod-lt}
use Rattle.std.proofs.lemmas.Int.{ints}
use Rattle.hpe_base.specs.Sizes.{number_at, Within, AllWithin}
use Rattle.hpe_base.specs.Greatest.{IsGreatest, IsSoft}
use Rattle.hpe_base.specs.Trellis.{IsEdge}
use Rattle.hpe_base.proofs.Greatest.{max_left, max_right, max_cases}
use Rattle.hpe_lane.specs.Edges.{edge_of, input_bit}
use Rattle.hpe_lane.specs.Near.{Near}
use Rattle.hpe_lane.specs.Parts.{joint_edge}
use Rattle.hpe_lane.proofs.Sums.{sum32, around_is, around_within, at_pair}
use Rattle.hpe_lane.proofs.Folding.{soft_edge}

-- a power of two from the second on has fours
pub in_fours : (m : ℕ) → 2 ≤ m → 2 ^ m % 4 ≡ 0
in_fours zero h = absurd (omega arith)
in_fours (suc zero) h = absurd (omega arith)
in_fours (suc (suc k)) h =
    let a : 2 ^ suc (suc k) ≡ 2 ^ suc k + 2 ^ suc k = two-pow-succ (suc k) in let b : 2 ^ suc k ≡ 2 ^ k + 2 ^ k = two-pow-succ k in omega arith

last_turned : (m v : ℕ) → 1 ≤ m → v < 2 ^ m → (2 ^ m - 1 - v) % 2 ≡ 1 - v % 2
last_turned zero v h below = absurd (omega arith)
last_turned (suc k) v h below = let a : 2 ^ suc k ≡ 2 ^ k + 2 ^ k = two-pow-succ k in omega arith

around_edge : (f b e : ℤ) → (f +ℤ b) +ℤ e ≡ f +ℤ (e +ℤ b)
around_edge f b e = omega (arith, ints)

close_sum : (f e b g c : ℤ) → Within 147447 e → Within 600000000 b → Within 147447 g → Within 600000000 c → (f +ℤ (e +ℤ b)) ≤ℤ ((f +ℤ (g +ℤ c)) +ℤ pos 1200294894)
close_sum f e b g c he hb hg hc = omega (arith, ints)

more_apart : (x y z : ℤ) (n : ℕ) → x ≤ℤ (y +ℤ pos n) → y ≤ℤ z → x ≤ℤ (z +ℤ pos n)
more_apart x y z n h k = omega (arith, ints)

-- what stands around an edge of each state, as the code has it
abbrev pub around_zero : List ℤ → List ℤ → List ℤ
around_zero fore back = sum32 (number_at fore 0) (number_at back 0) ∷ sum32 (number_at fore 0) (number_at back 1) ∷ []

abbrev pub around_one : List ℤ → List ℤ → List ℤ
around_one fore back = sum32 (number_at fore 1) (number_at back 1) ∷ sum32 (number_at fore 1) (number_at back 0) ∷ []

module _ (fore back : List ℤ) (hf : (s : ℕ) → s < 2 → Within 1100000000 (number_at fore s)) (hb : (s : ℕ) → s < 2 → Within 600000000 (number_at back s)) where
  around_zero_is : (s : ℕ) → s < 2 → number_at (around_zero fore back) s ≡ number_at fore 0 +ℤ number_at back s
  around_zero_is = at_pair (sum32 (number_at fore 0) (number_at back 0)) (sum32 (number_at fore 0) (number_at back 1)) (λ (s : ℕ) (z : ℤ). z ≡ number_at fore 0 +ℤ number_at back s)
      (around_is (number_at fore 0) (number_at back 0) (hf 0 (omega arith)) (hb 0 (omega arith)))
      (around_is (number_at fore 0) (number_at back 1) (hf 0 (omega arith)) (hb 1 (omega arith)))

  around_one_is : (s : ℕ) → s < 2 → number_at (around_one fore back) s ≡ number_at fore 1 +ℤ number_at back (1 - s)
  around_one_is = at_pair (sum32 (number_at fore 1) (number_at back 1)) (sum32 (number_at fore 1) (number_at back 0)) (λ (s : ℕ) (z : ℤ). z ≡ number_at fore 1 +ℤ number_at back (1 - s))
      (around_is (number_at fore 1) (number_at back 1) (hf 1 (omega arith)) (hb 1 (omega arith)))
      (around_is (number_at fore 1) (number_at back 0) (hf 1 (omega arith)) (hb 0 (omega arith)))

  pub around_zero_within : (s : ℕ) → s < 2 → Within 1700000000 (number_at (around_zero fore back) s)
  around_zero_within = at_pair (sum32 (number_at fore 0) (number_at back 0)) (sum32 (number_at fore 0) (number_at back 1)) (λ (s : ℕ) (z : ℤ). Within 1700000000 z)
      (around_within (number_at fore 0) (number_at back 0) (hf 0 (omega arith)) (hb 0 (omega arith)))
      (around_within (number_at fore 0) (number_at back 1) (hf 0 (omega arith)) (hb 1 (omega arith)))

  pub around_one_within : (s : ℕ) → s < 2 → Within 1700000000 (number_at (around_one fore back) s)
  around_one_within = at_pair (sum32 (number_at fore 1) (number_at back 1)) (sum32 (number_at fore 1) (number_at back 0)) (λ (s : ℕ) (z : ℤ). Within 1700000000 z)
      (around_within (number_at fore 1) (number_at back 1) (hf 1 (omega arith)) (hb 1 (omega arith)))
      (around_within (number_at fore 1) (number_at back 0) (hf 1 (omega arith)) (hb 0 (omega arith)))

-- the edges of two lists are within the size of both
pub edges_within : (from0 from1 : List ℤ) → AllWithin 147447 from0 → AllWithin 147447 from1 → (s v : ℕ) → s < 2 → Within 147447 (edge_of from0 from1 s v)
edges_within from0 from1 f g zero v h = f v
edges_within from0 from1 f g (suc zero) v h = g v
edges_within from0 from1 f g (suc (suc s)) v h = absurd (omega arith)

-- a list that joins the edges of both states, `edge s v` from state s
module _ (m : ℕ) (some : 1 ≤ m) (fore back joint : List ℤ) (edge : ℕ → ℕ → ℤ)
    (hf : (s : ℕ) → s < 2 → Within 1100000000 (number_at fore s)) (hb : (s : ℕ) → s < 2 → Within 600000000 (number_at back s))
    (joins : (v : ℕ) → v < 2 ^ m → number_at joint v ≡ joint_edge (2 ^ m) edge (around_zero fore back) (around_one fore back) v) where
  abbrev score : ℕ × ℕ → ℤ
  score e = number_at fore e.0 +ℤ (edge e.0 e.1 +ℤ number_at back (e.1 % 2))

  joint_is : (v : ℕ) → v < 2 ^ m → number_at joint v ≡ int_max (score (0, v)) (score (1, 2 ^ m - 1 - v))
  joint_is v h =
      joins v h
      ∙ ap₂ (λ (x y : ℤ). int_max x y)
      (ap (λ (x : ℤ). x +ℤ edge 0 v) (around_zero_is fore back hf hb (v % 2) (mod-lt v (omega arith))) ∙ around_edge (number_at fore 0) (number_at back (v % 2)) (edge 0 v))
      (ap (λ (x : ℤ). x +ℤ edge 1 (2 ^ m - 1 - v)) (around_one_is fore back hf hb (v % 2) (mod-lt v (omega arith)))
      ∙ ap (λ (k : ℕ). (number_at fore 1 +ℤ number_at back k) +ℤ edge 1 (2 ^ m - 1 - v)) (sym (last_turned m v some h))
      ∙ around_edge (number_at fore 1) (number_at back ((2 ^ m - 1 - v) % 2)) (edge 1 (2 ^ m - 1 - v)))

  pub soft_joint : (i : ℕ) (z : ℤ) → i < m → IsSoft (λ (v : ℕ). v < 2 ^ m) (input_bit m i 0) (number_at joint) z
      → IsSoft (IsEdge (2 ^ m) 2) (λ (e : ℕ × ℕ). input_bit m i e.0 e.1) (λ e. number_at fore e.0 +ℤ (edge e.0 e.1 +ℤ number_at back (e.1 % 2))) z
  soft_joint i z li g = soft_edge m score joint joint_is i z li g

  pub joint_near : ((s v : ℕ) → s < 2 → Within 147447 (edge s v)) → Near 1200294894 (2 ^ m) joint
  joint_near small = λ v w h l.
      let a : ℕ = 2 ^ m - 1 - v in
      let b : ℕ = 2 ^ m - 1 - w in
      let top : int_max (score (0, w)) (score (1, b)) ≡ number_at joint w = sym (joint_is w l) in
      ⊎_elim
      (λ e. subst (λ (x : ℤ). x ≤ℤ (number_at joint w +ℤ pos 1200294894)) (sym (joint_is v h ∙ e))
      (more_apart _ _ _ 1200294894
      (close_sum (number_at fore 0) (edge 0 v) (number_at back (v % 2)) (edge 0 w) (number_at back (w % 2)) (small 0 v (omega arith)) (hb (v % 2) (mod-lt v (omega arith))) (small 0 w (omega arith)) (hb (w % 2) (mod-lt w (omega arith))))
      (subst (λ (x : ℤ). score (0, w) ≤ℤ x) top (max_left (score (0, w)) (score (1, b))))))
      (λ e. subst (λ (x : ℤ). x ≤ℤ (number_at joint w +ℤ pos 1200294894)) (sym (joint_is v h ∙ e))
      (more_apart _ _ _ 1200294894
      (close_sum (number_at fore 1) (edge 1 a) (number_at back (a % 2)) (edge 1 b) (number_at back (b % 2)) (small 1 a (omega arith)) (hb (a % 2) (mod-lt a (omega arith))) (small 1 b (omega arith)) (hb (b % 2) (mod-lt b (omega arith))))
      (subst (λ (x : ℤ). score (1, b) ≤ℤ x) top (max_right (score (0, w)) (score (1, b))))))
      (max_cases (score (0, v)) (score (1, a)))

-- the backward row, state by state
pub row_pair : (from0 from1 back : List ℤ) (n : ℕ) (x y : ℤ) → IsGreatest (λ (v : ℕ). v < n) (λ v. number_at from0 v +ℤ number_at back (v % 2)) x
    → IsGreatest (λ (v : ℕ). v < n) (λ v. number_at from1 v +ℤ number_at back (v % 2)) y
    → (s : ℕ) → s < 2 → IsGreatest (λ (v : ℕ). v < n) (λ v. edge_of from0 from1 s v +ℤ number_at back (v % 2)) (number_at (x ∷ y ∷ []) s)
row_pair from0 from1 back n x y g h zero low = g
row_pair from0 from1 back n x y g h (suc zero) low = h
row_pair from0 from1 back n x y g h (suc (suc s)) low = absurd (omega arith)
