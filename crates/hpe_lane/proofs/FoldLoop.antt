-- One turn of the folding of a list, of which the first 2 ^ (m - i) numbers count after i turns.
use Rattle.std.proofs.Common.{◌≡◌, ◌≢◌, ℕ, suc, ◌+◌, ◌-◌, ◌/◌, ◌%◌, ◌^◌, ◌<◌, ◌≤◌, ⊎_elim, sym, ◌∙◌, ap, ap₂, subst, arith, ℤ, pos, ◌+ℤ◌, ◌≤ℤ◌, List, length, take, ◌++◌, set, get_or-set_same, get_or-set_other}
use Rattle.std.specs.Int.{int_max}
use Rattle.std.proofs.lemmas.Bool.{cases_lt}
use Rattle.std.proofs.lemmas.List.{length-take-le, get_or-take}
use Rattle.std.proofs.Math.Nat.{two-pow-succ}
use Rattle.std.proofs.Math.Pow.{pow_pos, pow_mono}
use Rattle.std.proofs.Math.ListN.{get_or-append}
use Rattle.hpe_base.specs.Sizes.{number_at}
use Rattle.hpe_base.specs.Greatest.{IsSoft}
use Rattle.hpe_lane.specs.Edges.{input_bit}
use Rattle.hpe_lane.specs.Near.{Near}
use Rattle.hpe_lane.proofs.Soft.{IsSoft-score}
use Rattle.hpe_lane.specs.Folds.{Folded}
use Rattle.hpe_lane.proofs.Folding.{Folded-first, Folded-more, soft_start, near_now}

pub first_turn : (m : ℕ) (start : List ℤ) → Folded m 0 (m - 0) start start
first_turn m start = let e : m ≡ m - 0 = omega arith in subst (λ (k : ℕ). Folded m 0 k start start) e (Folded-first m start)

module _ (m i size : ℕ) (start now : List ℤ) (lt : i < m) (counts : size ≡ 2 ^ (m - i)) (long : length now ≡ 2 ^ m) (so_far : Folded m i (m - i) start now) where
  abbrev left : ℕ
  left = m - (i + 1)

  one_more : m - i ≡ suc left
  one_more = omega arith

  size_is : size ≡ 2 ^ suc left
  size_is = counts ∙ ap (λ (k : ℕ). 2 ^ k) one_more

  pub size_within : size ≤ length now
  size_within = let p : 2 ^ (m - i) ≤ 2 ^ m = pow_mono {i = m - i} {j = m} (omega arith) in omega arith

  pub part_long : length (take size now) ≡ size
  part_long = length-take-le size now size_within

  folded : Folded m i (suc left) start now
  folded = subst (λ (k : ℕ). Folded m i k start now) one_more so_far

  two_halves : size ≡ 2 ^ left + 2 ^ left
  two_halves = size_is ∙ two-pow-succ left

  pub part_some : 2 ≤ length (take size now)
  part_some = let h = two_halves in let l = part_long in let p : 0 < 2 ^ left = pow_pos left in omega arith

  pub part_even : length (take size now) % 2 ≡ 0
  part_even = let h = two_halves in let l = part_long in omega arith

  pub next_size : size / 2 ≡ 2 ^ left
  next_size = let h = two_halves in omega arith

  in_part : (v : ℕ) → v < size → number_at (take size now) v ≡ number_at now v
  in_part v h = get_or-take size now v (pos 0) h

  pub part_near : (most : ℕ) → Near most (length start) start → length start ≡ 2 ^ m → Near most (length (take size now)) (take size now)
  part_near most near all = λ v w h l.
      let a : v < size = subst (λ (n : ℕ). v < n) part_long h in
      let b : w < size = subst (λ (n : ℕ). w < n) part_long l in
      let n = near_now m i left start now folded most (subst (λ (n : ℕ). Near most n start) all near) v w (subst (λ (n : ℕ). v < n) size_is a) (subst (λ (n : ℕ). w < n) size_is b) in
      subst (λ (z : ℤ). z ≤ℤ (number_at (take size now) w +ℤ pos most)) (sym (in_part v a))
      (subst (λ (z : ℤ). number_at now v ≤ℤ (z +ℤ pos most)) (sym (in_part w b)) n)

  half_is : length (take size now) / 2 ≡ 2 ^ left
  half_is = ap (λ (n : ℕ). n / 2) part_long ∙ next_size

  pub turn_folded : (new rest : List ℤ) → length new ≡ length (take size now)
      → ((v : ℕ) → v < length (take size now) / 2 → number_at new v ≡ int_max (number_at (take size now) v) (number_at (take size now) (length (take size now) - 1 - v)))
      → Folded m (i + 1) left start (new ++ rest)
  turn_folded new rest kept is = Folded-more m i left start now (new ++ rest) folded
      (λ v h.
      let two = two_halves in
      let l = part_long in
      let a : v < size = omega arith in
      let b : size - 1 - v < size = omega arith in
      let c : v < length new = omega arith in
      get_or-append new rest (pos 0) v c ∙ is v (subst (λ (n : ℕ). v < n) (sym half_is) h)
      ∙ ap₂ (λ (x y : ℤ). int_max x y) (in_part v a)
      (ap (λ (n : ℕ). number_at (take size now) (n - 1 - v)) part_long ∙ in_part (size - 1 - v) b ∙ ap (λ (n : ℕ). number_at now (n - 1 - v)) size_is))

  -- the part's soft value, said of the list that it was folded from
  soft_part : (z : ℤ) → IsSoft (λ (v : ℕ). v < length (take size now)) (λ v. v / (length (take size now) / 2)) (number_at (take size now)) z
      → IsSoft (λ (v : ℕ). v < 2 ^ m) (input_bit m i 0) (number_at start) z
  soft_part z g =
      soft_start m i left start now folded z
      (same_scores (2 ^ suc left) (2 ^ left) (take size now) now z (λ v h. in_part v (subst (λ (n : ℕ). v < n) (sym size_is) h))
      (subst (λ (n : ℕ). IsSoft (λ (v : ℕ). v < 2 ^ suc left) (λ v. v / n) (number_at (take size now)) z) half_is
      (subst (λ (n : ℕ). IsSoft (λ (v : ℕ). v < n) (λ v. v / (length (take size now) / 2)) (number_at (take size now)) z) (part_long ∙ size_is) g)))
    where
      same_scores : (n h : ℕ) (xs ys : List ℤ) (z : ℤ) → ((v : ℕ) → v < n → number_at xs v ≡ number_at ys v) → IsSoft (λ (v : ℕ). v < n) (λ v. v / h) (number_at xs) z → IsSoft (λ (v : ℕ). v < n) (λ v. v / h) (number_at ys) z
      same_scores n h xs ys z e g = IsSoft-score (λ v p. sym (e v p)) g

  pub turn_soft : (out : List ℤ) (z : ℤ) → i < length out
      → ((j : ℕ) → j < i → IsSoft (λ (v : ℕ). v < 2 ^ m) (input_bit m j 0) (number_at start) (number_at out j))
      → IsSoft (λ (v : ℕ). v < length (take size now)) (λ v. v / (length (take size now) / 2)) (number_at (take size now)) z
      → (j : ℕ) → j < i + 1 → IsSoft (λ (v : ℕ). v < 2 ^ m) (input_bit m j 0) (number_at start) (number_at (set out i z) j)
  turn_soft out z all before here j h =
      ⊎_elim
      (λ (p : j < i). let ne : j ≢ i = omega arith in
      subst (IsSoft (λ (v : ℕ). v < 2 ^ m) (input_bit m j 0) (number_at start)) (sym (get_or-set_other out i j z (pos 0) ne)) (before j p))
      (λ (p : i ≤ j). let same : i ≡ j = omega arith in
      subst (λ (n : ℕ). IsSoft (λ (v : ℕ). v < 2 ^ m) (input_bit m n 0) (number_at start) (number_at (set out i z) n)) same
      (subst (IsSoft (λ (v : ℕ). v < 2 ^ m) (input_bit m i 0) (number_at start)) (sym (get_or-set_same out i z (pos 0) all)) (soft_part z here)))
      (cases_lt j i)
