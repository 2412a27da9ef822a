-- Soft values: how much more the best word scores in which a bit is 1 than the best in which it is 0.
use Rattle.std.specs.Prelude.{ℕ, suc, ◌*◌, ℤ, pos, negsuc, ◌-ℤ◌, List, Bool, Some, None}
use Rattle.std.specs.declared.option.Option.{Option}
use Rattle.std.specs.Int.{int_max, int_min, div_ceil}
use Rattle.hpe_base.specs.Parameters.{Parameters, clamp, information_bits}
use Rattle.hpe_base.specs.Sizes.{number_at}
use Rattle.hpe_base.specs.GreatestScores.{inner_top, information_top, code_top}
use Rattle.hpe_base.specs.declared.profile.Order.{Order}

-- the difference of two greatest scores, of which neither is nothing
abbrev pub difference : Option ℤ → Option ℤ → ℤ
difference None b = pos 0
difference (Some a) None = pos 0
difference (Some a) (Some b) = a -ℤ b

-- the soft value of bit j of the words of the inner code
unfoldable pub inner_soft_value : Order → List ℕ → List ℤ → ℕ → ℤ
inner_soft_value o counts l j = difference (inner_top o counts l j 1) (inner_top o counts l j 0)

-- the soft value of information bit j of the outer code with n information bits
unfoldable pub information_soft_value : List (List Bool) → List ℤ → ℕ → ℕ → ℤ
information_soft_value columns l n j = difference (information_top columns l n j 1) (information_top columns l n j 0)

-- the soft value of its code bit i
unfoldable pub code_soft_value : List (List Bool) → List ℤ → ℕ → ℕ → ℤ
code_soft_value columns l n i = difference (code_top columns l n i 1) (code_top columns l n i 0)

-- clamped to -16,383..=16,383
abbrev pub clamped : ℤ → ℤ
clamped v = int_max (pos 0 -ℤ pos clamp) (int_min v (pos clamp))

-- s eighths of a number, rounded away from zero
abbrev pub scaled : ℕ → ℤ → ℤ
scaled s (pos n) = pos (div_ceil (n * s) 8)
scaled s (negsuc n) = pos 0 -ℤ pos (div_ceil (suc n * s) 8)

-- the extrinsic values: what a soft value adds to the a-priori number of its bit, clamped and then scaled
unfoldable pub inner_extrinsic : Parameters → List ℕ → List ℤ → ℕ → ℤ
inner_extrinsic p counts l j = scaled p.scale (clamped (inner_soft_value p.order counts l j -ℤ number_at l j))

unfoldable pub code_extrinsic : Parameters → List ℤ → ℕ → ℤ
code_extrinsic p l i = scaled p.scale (clamped (code_soft_value p.columns l (information_bits p.rate) i -ℤ number_at l i))
