-- The clamped difference of two machine numbers, of which one is brought near the other before.
use Rattle.std.proofs.Common.{◌≡◌, ◌<◌, ℤ, pos, ◌+ℤ◌, ◌-ℤ◌, ◌∙◌, ap, ap₂, arith, w32, to_z, of_z, FitsSigned}
use Rattle.std.specs.Int.{int_min, int_max}
use Rattle.std.proofs.lemmas.Int.{ints, clamps}
use lib.Signed.{mag}
use Rattle.hpe_base.specs.Sizes.{Within}
use Rattle.hpe_base.specs.SoftValues.{clamped}
use Rattle.hpe_base.proofs.Scaling.{clamped_within}

-- what an i32 holds
abbrev pub held : ℤ → ℤ
held x = to_z w32 (of_z w32 x)

-- a number that fits stands in an i32 as it is
pub held_fits : (x : ℤ) → mag x < 2147483648 → held x ≡ x
held_fits x h = omega (arith, ints, h)

-- and so do small ones
pub held_small : (x : ℤ) → Within 32766 x → held x ≡ x
held_small x w = omega (arith, ints, w)

pub fits_small : (x : ℤ) → Within 16383 x → FitsSigned w32 x
fits_small x w = omega (arith, ints, w)

wider : (x : ℤ) → Within 16383 x → Within 32766 x
wider x w = omega (arith, ints, w)

sum_within : (x : ℤ) → Within 16383 x → Within 32766 (x +ℤ pos 16383)
sum_within x w = omega (arith, ints, w)

difference_within : (x : ℤ) → Within 16383 x → Within 32766 (x -ℤ pos 16383)
difference_within x w = omega (arith, ints, w)

-- the difference of a number that was brought near another is clamped
near_clamped : (s g : ℤ) → int_max (int_min s (g +ℤ pos 16383)) (g -ℤ pos 16383) -ℤ g ≡ clamped (s -ℤ g)
near_clamped s g = omega (arith, ints, clamps)

-- the same of what i32s hold
pub held_gain : (s g most low near : ℤ) → held s ≡ s → Within 16383 g → most ≡ pos 16383 → mag low < 2147483648 → mag near < 2147483648
    → low ≡ int_min (held s) (held (held g +ℤ held most)) → near ≡ int_max (held low) (held (held g -ℤ held most)) → held near -ℤ held g ≡ clamped (s -ℤ g)
held_gain s g most low near es wg em ml mn el en =
    let eg : held g ≡ g = held_small g (wider g wg) in
    let e : held most ≡ pos 16383 = ap held em in
    let above : held (held g +ℤ held most) ≡ g +ℤ pos 16383 = ap₂ (λ (x y : ℤ). held (x +ℤ y)) eg e ∙ held_small (g +ℤ pos 16383) (sum_within g wg) in
    let below : held (held g -ℤ held most) ≡ g -ℤ pos 16383 = ap₂ (λ (x y : ℤ). held (x -ℤ y)) eg e ∙ held_small (g -ℤ pos 16383) (difference_within g wg) in
    let low_is : held low ≡ int_min s (g +ℤ pos 16383) = held_fits low ml ∙ el ∙ ap₂ int_min es above in
    let near_is : held near ≡ int_max (int_min s (g +ℤ pos 16383)) (g -ℤ pos 16383) = held_fits near mn ∙ en ∙ ap₂ int_max low_is below in
    ap₂ (λ (x y : ℤ). x -ℤ y) near_is eg ∙ near_clamped s g

-- a clamped number stands in an i32 as it is
pub held_clamped : (v : ℤ) → held (clamped v) ≡ clamped v
held_clamped v = held_small (clamped v) (wider (clamped v) (clamped_within v))
