use Rattle.std.proofs.Common.{arith, ◌≡◌, ℕ, ℤ, ◌+◌, ◌*◌, ◌/◌, length, sym, ◌∙◌, ap, subst}
use Rattle.std.specs.Int.{int_max}
use Rattle.hpe_base.specs.Sizes.{number_at}
use Rattle.hpe_base.specs.Greatest.{IsGreatest}
use Rattle.hpe_lane.specs.Parts.{part_edge}
use Rattle.hpe_lane.proofs.BestEdges.{first_lane}
use Rattle.hpe_lane.proofs.EndBests.{InLane8, lane_more}
use Rattle.hpe_lane.proofs.best.best_of_half.Goals as goal

pub loop-k-init : goal.loop-k-init
loop-k-init c = λ i h. first_lane (λ (v : ℕ). part_edge c.args.parts.counts.now c.args.parts.blocks.now c.args.parts.eight.now (8 * c.args.first + v)) i _ h (c.edges_of_block-best.ensures i h)

shifted : (first k i : ℕ) → 8 * (first + k) + i ≡ 8 * first + (8 * k + i)
shifted first k i = omega arith

pub loop-k-preserved : goal.loop-k-preserved
loop-k-preserved c = λ i h.
    let edge : ℕ → ℤ = part_edge c.args.parts.counts.now c.args.parts.blocks.now c.args.parts.eight.now in
    let first : ℕ = c.args.first in
    let k : ℕ = c.loop-k.k in
    let f : ℕ → ℤ = λ v. edge (8 * first + v) in
    let e : number_at c.greater_eight.new.best i ≡ int_max (number_at c.loop-k.best i) (f (8 * k + i)) =
    c.greater_eight.ensures i h ∙ ap (λ (z : ℤ). int_max (number_at c.loop-k.best i) z) (c.edges_of_block-edges.ensures i h ∙ ap edge (shifted first k i)) in
    subst (IsGreatest (InLane8 (k + 1) i) f) (sym e) (lane_more f k i (number_at c.loop-k.best i) h (c.loop-k.invariant i h))

pub returns : goal.returns
returns c = λ i h.
    let edge : ℕ → ℤ = part_edge c.args.parts.counts.now c.args.parts.blocks.now c.args.parts.eight.now in
    let f : ℕ → ℤ = λ v. edge (8 * c.args.first + v) in
    let e : c.loop-k.k ≡ length c.args.parts.blocks.now / 2 = omega (arith, c.loop-k.auto.k-end, c.loop-k-test.false) in
    subst (λ (k : ℕ). IsGreatest (InLane8 k i) f (number_at c.loop-k.best i)) e (c.loop-k.invariant i h)
