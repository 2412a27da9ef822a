use Rattle.std.proofs.Common.{arith, ℕ, ◌+◌, List, ℤ, length, sym, subst}
use Rattle.hpe_base.specs.Sizes.{number_at}
use Rattle.hpe_lane.specs.Lanes.{IsBest}
use Rattle.hpe_lane.proofs.LaneBests.{InLane, lane-pass, lanes-raised, best-of-lanes, whole_blocks}
use Rattle.hpe_lane.proofs.parity.best_of_blocks.Goals as goal
use Rattle.hpe_lane.proofs.parity.best_of_blocks.Goals.{then-v-mask-eq0, else-v-mask-eq0}

pub loop-j-preserved : goal.loop-j-preserved
loop-j-preserved c =
    let xs : List ℤ = c.args.scores.now in
    let mask : ℕ = c.args.mask in
    let j : ℕ = c.loop-j.j in
    record {
      even = λ i h. elim c.if-v-mask-eq0.branch [
        | then-v-mask-eq0 w ↦
            subst (λ (ys : List ℤ). IsBest (InLane mask 0 i (j + 1)) (number_at xs) (number_at ys i)) (sym w.even-is)
            (lanes-raised mask 0 j xs c.loop-j.even w.greater_eight.new.best w.if-v-mask-eq0.true c.loop-j.invariant.even w.greater_eight.ensures i h)
        | else-v-mask-eq0 w ↦
            subst (λ (ys : List ℤ). IsBest (InLane mask 0 i (j + 1)) (number_at xs) (number_at ys i)) (sym w.even-is)
            (lane-pass mask 0 i j (number_at xs) (number_at c.loop-j.even i) w.if-v-mask-eq0.false (c.loop-j.invariant.even i h))
      ];
      odd = λ i h. elim c.if-v-mask-eq0.branch [
        | then-v-mask-eq0 w ↦
            subst (λ (ys : List ℤ). IsBest (InLane mask 1 i (j + 1)) (number_at xs) (number_at ys i)) (sym w.odd-is)
            (lane-pass mask 1 i j (number_at xs) (number_at c.loop-j.odd i) (λ e. omega (arith, e, w.if-v-mask-eq0.true)) (c.loop-j.invariant.odd i h))
        | else-v-mask-eq0 w ↦
            subst (λ (ys : List ℤ). IsBest (InLane mask 1 i (j + 1)) (number_at xs) (number_at ys i)) (sym w.odd-is)
            (lanes-raised mask 1 j xs c.loop-j.odd w.greater_eight-else-v-mask-eq0.new.best (omega (arith, w.if-v-mask-eq0.false)) c.loop-j.invariant.odd w.greater_eight-else-v-mask-eq0.ensures i h)
      ];
    }

pub returns-clause-even : goal.returns-clause-even
returns-clause-even c =
    let xs : List ℤ = c.args.scores.now in
    whole_blocks c.args.mask 0 c.loop-j.j (length xs) (number_at xs) (number_at c.best_of_lanes.result 0) (omega arith) (omega arith)
    (best-of-lanes c.args.mask 0 c.loop-j.j (number_at xs) c.loop-j.even c.loop-j.odd (omega arith) c.loop-j.invariant.even c.loop-j.invariant.odd (number_at c.best_of_lanes.result 0) c.best_of_lanes.ensures.even)

pub returns-clause-odd : goal.returns-clause-odd
returns-clause-odd c =
    let xs : List ℤ = c.args.scores.now in
    whole_blocks c.args.mask 1 c.loop-j.j (length xs) (number_at xs) (number_at c.best_of_lanes.result 1) (omega arith) (omega arith)
    (best-of-lanes c.args.mask 1 c.loop-j.j (number_at xs) c.loop-j.odd c.loop-j.even (omega arith) c.loop-j.invariant.odd c.loop-j.invariant.even (number_at c.best_of_lanes.result 1) c.best_of_lanes.ensures.odd)
