use Rattle.std.proofs.Common.{rules, arith, ◌≡◌, ◌≢◌, ◌<◌, ◌-ℤ◌, ℕ, ℤ, pos, List, length, set, ap₂, ◌∙◌, get_or-set_same, get_or-set_other}
use borrow.Author.Count.{below_more}
use Rattle.hpe_base.specs.Sizes.{number_at}
use Rattle.hpe_base.specs.SoftValues.{clamped}
use Rattle.hpe_turn.proofs.Clamping.{held, held_fits}
use Rattle.hpe_turn.proofs.extrinsic.take_gains.Goals as goal

pub loop-j-preserved : goal.loop-j-preserved
loop-j-preserved c =
    let j : ℕ = c.loop-j.j in
    let soft : List ℤ = c.loop-j.soft in
    let old : List ℤ = c.args.soft.now in
    let given : List ℤ = c.args.given.now in
    let v : ℤ = held c.gain.result in
    let a : held (number_at soft j) ≡ number_at soft j = search rules in
    let b : held (number_at given j) ≡ number_at given j = search rules in
    let room : j < length soft = omega arith in
    let here : v ≡ clamped (number_at old j -ℤ number_at given j) =
    held_fits c.gain.result c.gain.type_inv ∙ c.gain.ensures ∙ ap₂ (λ (x y : ℤ). clamped (x -ℤ y)) (a ∙ c.loop-j.invariant.rest j (omega arith)) b in
    record {
      done = below_more (λ (k : ℕ). number_at (set soft j v) k ≡ clamped (number_at old k -ℤ number_at given k)) j
          (λ k h. let ne : k ≢ j = omega arith in get_or-set_other soft j k v (pos 0) ne ∙ c.loop-j.invariant.done k h)
          (get_or-set_same soft j v (pos 0) room ∙ here);
      rest = λ k h. let ne : k ≢ j = omega arith in get_or-set_other soft j k v (pos 0) ne ∙ c.loop-j.invariant.rest k (omega arith);
    }
