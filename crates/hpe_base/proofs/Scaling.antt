-- Scaled numbers.
use Rattle.std.proofs.Common.{◌≡◌, ◌≤◌, ◌*◌, ℕ, ℤ, pos, negsuc, ◌-ℤ◌, suc, ap, ◌∙◌, arith, zero, List, [], ◌∷◌, length, sym, subst, replicate, ◌<◌}
use Rattle.std.specs.Int.{div_ceil}
use Rattle.std.proofs.lemmas.Int.{ints, clamps}
use Rattle.std.proofs.Math.Nat.{mul-le-mul_left}
use Rattle.hpe_base.specs.Sizes.{Within, number_at, AllWithin}
use Rattle.hpe_base.specs.SoftValues.{scaled, clamped}
use Rattle.hpe_base.specs.Lists.{tabulate}
use Rattle.hpe_base.proofs.Tabulated.{length-tabulate, get_or-tabulate}

-- eight eighths of a number are the number
eight_eighths : (n : ℕ) → div_ceil (n * 8) 8 ≡ n
eight_eighths n = grind arith

-- eight eighths of a number are the number
pub scaled-eight : (v : ℤ) → scaled 8 v ≡ v
scaled-eight (pos n) = ap pos (eight_eighths n)
scaled-eight (negsuc n) = let e : pos 0 -ℤ pos (suc n) ≡ negsuc n = omega (arith, ints) in ap (λ k. pos 0 -ℤ pos k) (eight_eighths (suc n)) ∙ e

-- up to eight eighths of a size are at most the size
pub eighths-le : (n s : ℕ) → s ≤ 8 → div_ceil (n * s) 8 ≤ n
eighths-le n s h =
    let few : n * s ≤ n * 8 = mul-le-mul_left n h in
    omega arith

-- and not 0 where the size isn't
pub eighths-pos : (n s : ℕ) → 1 ≤ s → 1 ≤ n → 1 ≤ div_ceil (n * s) 8
eighths-pos n s h some =
    let many : n * 1 ≤ n * s = mul-le-mul_left n h in
    omega arith

-- eighths of a number are within its bounds
pub scaled-within : (s most : ℕ) (v : ℤ) → s ≤ 8 → Within most v → Within most (scaled s v)
scaled-within s most (pos n) h w = let few : div_ceil (n * s) 8 ≤ n = eighths-le n s h in (omega (arith, ints), omega (arith, ints))
scaled-within s most (negsuc n) h w = let few : div_ceil (suc n * s) 8 ≤ suc n = eighths-le (suc n) s h in (omega (arith, ints), omega (arith, ints))

-- a clamped number is within the clamp
pub clamped_within : (v : ℤ) → Within 16383 (clamped v)
clamped_within v = (omega (arith, ints, clamps), omega (arith, ints, clamps))

-- a list whose places are within bounds
pub within_places : (xs : List ℤ) → ((i : ℕ) → i < length xs → Within 16383 (number_at xs i)) → AllWithin 16383 xs
within_places [] f i = (omega (arith, ints), omega (arith, ints))
within_places (x ∷ xs) f zero = f 0 (omega arith)
within_places (x ∷ xs) f (suc i) = within_places xs (λ k h. f (suc k) (omega arith)) i

-- a list whose places are given by numbers that were clamped and scaled
pub scaled_places : (s n : ℕ) (v : ℕ → ℤ) → s ≤ 8 → AllWithin 16383 (tabulate n (λ i. scaled s (clamped (v i))))
scaled_places s n v few =
    within_places (tabulate n (λ i. scaled s (clamped (v i)))) (λ i h.
    let below : i < n = omega (arith, length-tabulate n (λ i. scaled s (clamped (v i)))) in
    subst (Within 16383) (sym (get_or-tabulate n (λ i. scaled s (clamped (v i))) i (pos 0) below)) (scaled-within s 16383 (clamped (v i)) few (clamped_within (v i))))

-- zeros are within the clamp
pub zeros_within : (n : ℕ) → AllWithin 16383 (replicate n (pos 0))
zeros_within zero i = (omega (arith, ints), omega (arith, ints))
zeros_within (suc n) zero = (omega (arith, ints), omega (arith, ints))
zeros_within (suc n) (suc i) = zeros_within n i
