-- Sums of the numbers whose bit is 1.
use Rattle.std.proofs.Common.{ℕ, suc, ◌*◌, arith, ℤ, pos, ◌+ℤ◌, List, [], ◌∷◌, length, Bool, true, false, cond}
use Rattle.std.specs.Prelude.{nat_eq}
use Rattle.std.proofs.lemmas.Int.{ints}
use Rattle.hpe_base.specs.Sizes.{Within, AllWithin}
use Rattle.hpe_base.specs.PathScores.{chosen_sum}
use Rattle.hpe_lane.proofs.Sizes.{zero_within}

grow : (n : ℕ) (x z : ℤ) → Within 16383 x → Within (n * 16383) z → Within (suc n * 16383) (x +ℤ z)
grow n x z h k = (omega (arith, ints), omega (arith, ints))

cond_within : (b : Bool) (z : ℤ) → Within 16383 z → Within 16383 (cond b z (pos 0))
cond_within true z h = h
cond_within false z h = zero_within 16383

-- the sum of n numbers at most is within n times their size
pub chosen-within : (l : List ℤ) (ks : List ℕ) → AllWithin 16383 l → Within (length ks * 16383) (chosen_sum l ks)
chosen-within [] ks f = zero_within (length ks * 16383)
chosen-within (z ∷ l) [] f = zero_within (0 * 16383)
chosen-within (z ∷ l) (b ∷ ks) f = grow (length ks) (cond (nat_eq b 1) z (pos 0)) (chosen_sum l ks) (cond_within (nat_eq b 1) z (f 0)) (chosen-within l ks (λ i. f (suc i)))
