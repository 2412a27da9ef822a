use Rattle.std.proofs.Common.{rules, ◌≡◌, ◌-ℤ◌, ℤ, FitsSigned, w32, subst, sym, ap, ◌∙◌}
use Rattle.hpe_base.specs.SoftValues.{clamped}
use Rattle.hpe_base.proofs.Scaling.{clamped_within}
use Rattle.hpe_turn.proofs.Clamping.{held, fits_small, held_gain, held_clamped}
use Rattle.hpe_turn.proofs.extrinsic.gain.Goals as goal

difference_is : (c : goal.After-max-near) → held c.max-near.result -ℤ held c.args.given ≡ clamped (c.args.soft -ℤ c.args.given)
difference_is c =
    let whole : held c.args.soft ≡ c.args.soft = search rules in
    held_gain c.args.soft c.args.given c.from-most.result c.min.result c.max-near.result whole c.requires c.from-most.ensures
    c.min.type_inv c.max-near.type_inv c.min.ensures.value c.max-near.ensures.value

pub overflow_sub-result : goal.overflow_sub-result
overflow_sub-result c =
    let v : ℤ = c.args.soft -ℤ c.args.given in
    subst (λ (z : ℤ). FitsSigned w32 z) (sym (difference_is c)) (fits_small (clamped v) (clamped_within v))

pub returns : goal.returns
returns c = ap held (difference_is c) ∙ held_clamped (c.args.soft -ℤ c.args.given)
