use Rattle.std.proofs.Common.{rules, refl, ap₂, arith, ◌≡◌, ℕ, ℤ, ◌*◌, ◌/◌, ◌-◌, ◌+ℤ◌, length, take, ◌∙◌, ap, to_z, of_z, w32}
use Rattle.std.proofs.lemmas.List.{places}
use Rattle.hpe_base.specs.Sizes.{number_at}
use Rattle.hpe_lane.proofs.Blocks.{mirrored_whole, take_long}
use Rattle.hpe_lane.proofs.gray.mirror.Goals as goal

pub loop-k-preserved : goal.loop-k-preserved
loop-k-preserved c = search (rules, places)

pub returns : goal.returns
returns c =
    let n : ℕ = length c.args.low.now in
    let w : ℕ = n / 8 * 8 in
    let e : to_z w32 (of_z w32 c.args.x) ≡ c.args.x = search rules in
    let t : length (take (n - w) c.args.low.now) ≡ n - w = take_long (n - w) c.args.low.now (omega arith) in
    mirrored_whole c.args.low.now c.loop-k.high c.mirror.new.high n w _ c.args.x refl (omega arith) (omega arith) (omega arith)
    (λ j h. c.loop-k.invariant j (omega arith) ∙ ap (λ (z : ℤ). z +ℤ number_at c.args.low.now (n - 1 - j)) e)
    (λ i h. c.mirror.ensures i (omega arith) ∙ ap₂ (λ (z : ℤ) (m : ℕ). z +ℤ number_at (take (n - w) c.args.low.now) (m - 1 - i)) e t)
