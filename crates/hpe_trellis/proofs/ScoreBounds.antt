-- How large the scores of free words are.
use Rattle.std.proofs.Common.{◌≡◌, ℕ, suc, ◌+◌, ◌*◌, ◌≤◌, sym, ap, ◌∙◌, subst, arith, ℤ, pos, ◌+ℤ◌, ◌-ℤ◌, ◌<ℤ◌, List, [], ◌∷◌, length, Bool, true, false, cond}
use Rattle.std.specs.Prelude.{nat_eq}
use Rattle.std.proofs.Math.ListN.{length-append}
use Rattle.std.proofs.lemmas.Int.{ints}
use Rattle.hpe_base.specs.ConvolutionalCode.{code_bits}
use Rattle.hpe_base.specs.PathScores.{chosen_sum}
use Rattle.hpe_base.specs.Sizes.{Within, AllWithin}
use Rattle.hpe_base.specs.Termination.{terminated}
use Rattle.hpe_lane.proofs.ChosenSums.{chosen-within}
use Rattle.hpe_lane.proofs.Sizes.{wider}
use Rattle.hpe_trellis.specs.OuterTrellis.{outer_start}
use Rattle.hpe_trellis.specs.Laws.{AreOfCode, IsFree, OuterScoresAreBounded}

one_apart : (b c : Bool) (z : ℤ) → Within 16383 z → Within 16383 (cond b z (pos 0) -ℤ cond c z (pos 0))
one_apart true true z h = (let a = h.0 in omega (arith, ints), let a = h.1 in omega (arith, ints))
one_apart true false z h = (let a = h.0 in omega (arith, ints), let a = h.1 in omega (arith, ints))
one_apart false true z h = (let a = h.1 in omega (arith, ints), let a = h.0 in omega (arith, ints))
one_apart false false z h = (let a = h.0 in omega (arith, ints), let a = h.1 in omega (arith, ints))

more_apart : (n : ℕ) (x y s t : ℤ) → Within 16383 (x -ℤ y) → Within (n * 16383) (s -ℤ t) → Within (suc n * 16383) ((x +ℤ s) -ℤ (y +ℤ t))
more_apart n x y s t h k = (let a = h.0 in let b = k.0 in omega (arith, ints), let a = h.1 in let b = k.1 in omega (arith, ints))

-- two choices of n numbers differ by n times their size at most: each number is in one, in both or in none
pub chosen-apart : (l : List ℤ) (xs ys : List ℕ) → length xs ≡ length l → length ys ≡ length l → AllWithin 16383 l → Within (length l * 16383) (chosen_sum l xs -ℤ chosen_sum l ys)
chosen-apart [] xs ys ex ey f = (omega (arith, ints), omega (arith, ints))
chosen-apart (z ∷ l) [] ys ex ey f = absurd (omega arith)
chosen-apart (z ∷ l) (x ∷ xs) [] ex ey f = absurd (omega arith)
chosen-apart (z ∷ l) (x ∷ xs) (y ∷ ys) ex ey f =
    more_apart (length l) (cond (nat_eq x 1) z (pos 0)) (cond (nat_eq y 1) z (pos 0)) (chosen_sum l xs) (chosen_sum l ys)
    (one_apart (nat_eq x 1) (nat_eq y 1) z (f 0))
    (chosen-apart l xs ys (omega arith) (omega arith) (λ i. f (suc i)))

codeword_size : (n : ℕ) → n ≤ 15120 → n * 16383 ≤ 247710960
codeword_size n h = omega arith

start_below : (c : ℤ) → Within 247710960 c → (outer_start 1 +ℤ pos 247710960) <ℤ c
start_below c k = let a = k.1 in omega (arith, ints)

module _ (columns : List (List Bool)) (n : ℕ) (l : List ℤ) (given : AreOfCode columns n l) where
  kept_long : (u : List ℕ) → IsFree n u → length (code_bits columns (terminated u)) ≡ length l
  kept_long u free = sym (given.long (terminated u) (length-append u (0 ∷ 0 ∷ []) ∙ ap (λ (k : ℕ). k + 2) free.long))

  score_size : (u : List ℕ) → IsFree n u → Within 247710960 (chosen_sum l (code_bits columns (terminated u)))
  score_size u free =
      let kept : List ℕ = code_bits columns (terminated u) in
      wider (length l * 16383) 247710960 (chosen_sum l kept) (codeword_size (length l) given.short)
      (subst (λ (k : ℕ). Within (k * 16383) (chosen_sum l kept)) (kept_long u free) (chosen-within l kept given.within))

  scores_apart : (u v : List ℕ) → IsFree n u → IsFree n v → Within 247710960 (chosen_sum l (code_bits columns (terminated u)) -ℤ chosen_sum l (code_bits columns (terminated v)))
  scores_apart u v one other =
      let a : List ℕ = code_bits columns (terminated u) in
      let b : List ℕ = code_bits columns (terminated v) in
      wider (length l * 16383) 247710960 (chosen_sum l a -ℤ chosen_sum l b) (codeword_size (length l) given.short)
      (chosen-apart l a b (kept_long u one) (kept_long v other) given.within)

-- the law
pub outer_scores_are_bounded : OuterScoresAreBounded
outer_scores_are_bounded columns n l given = record {
  size = score_size columns n l given;
  apart = scores_apart columns n l given;
  reachable = λ u free. start_below (chosen_sum l (code_bits columns (terminated u))) (score_size columns n l given u free);
}
