use Rattle.std.proofs.Common.{arith, rules, ◌≡◌, ℕ, ℤ, ◌+◌, ◌*◌, ◌/◌, ◌-◌, ◌<◌, List, length, take, drop, sym, ◌∙◌, ap, subst, pos}
use Rattle.std.specs.Int.{int_max}
use Rattle.std.proofs.lemmas.List.{places, get_or-take}
use Rattle.hpe_base.specs.Sizes.{number_at}
use Rattle.hpe_base.specs.Greatest.{IsGreatest}
use Rattle.hpe_lane.proofs.EndBests.{InLane8, lane_first, lane_more}
use Rattle.hpe_lane.proofs.ends.best_of_lanes.Goals as goal

pub loop-k-init : goal.loop-k-init
loop-k-init c = λ i h.
    let xs : List ℤ = c.args.scores.now in
    subst (IsGreatest (InLane8 1 i) (number_at xs)) (get_or-take 8 xs i (pos 0) h ∙ sym (c.first_eight-best.ensures i h)) (lane_first xs i h)

block_place : (xs : List ℤ) (k i : ℕ) → i < 8 → number_at (take (8 * k + 8 - 8 * k) (drop (8 * k) xs)) i ≡ number_at xs (8 * k + i)
block_place xs k i h = search (rules, places)

pub loop-k-preserved : goal.loop-k-preserved
loop-k-preserved c = λ i h.
    let xs : List ℤ = c.args.scores.now in
    let k : ℕ = c.loop-k.k in
    let e : number_at c.greater_eight.new.best i ≡ int_max (number_at c.loop-k.best i) (number_at xs (8 * k + i)) =
    c.greater_eight.ensures i h ∙ ap (λ (z : ℤ). int_max (number_at c.loop-k.best i) z) (block_place xs k i h) in
    subst (IsGreatest (InLane8 (k + 1) i) (number_at xs)) (sym e) (lane_more (number_at xs) k i (number_at c.loop-k.best i) h (c.loop-k.invariant i h))

pub returns : goal.returns
returns c = λ i h.
    let e : c.loop-k.k ≡ length c.args.scores.now / 8 = omega (arith, c.loop-k.auto.k-end, c.loop-k-test.false) in
    subst (λ (k : ℕ). IsGreatest (InLane8 k i) (number_at c.args.scores.now) (number_at c.loop-k.best i)) e (c.loop-k.invariant i h)
