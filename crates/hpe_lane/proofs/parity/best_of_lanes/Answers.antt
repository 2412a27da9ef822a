use Rattle.std.proofs.Common.{rules, ◌≡◌, ℕ, ◌<◌, List, ℤ, pos, get_or, to_z, w32}
use Rattle.std.specs.Int.{int_max}
use Rattle.hpe_lane.proofs.LaneBests.{lane-even, lane-odd}
use Rattle.hpe_lane.proofs.parity.best_of_lanes.Goals as goal
use Rattle.hpe_lane.proofs.parity.best_of_lanes.Goals.{then-i-mask-eq0, else-i-mask-eq0}

pub loop-i-preserved : goal.loop-i-preserved
loop-i-preserved c =
    let xs : List ℤ = c.args.even.now in
    let ys : List ℤ = c.args.odd.now in
    let mask : ℕ = c.args.mask in
    let i : ℕ = c.loop-i.i in
    let low : i < 8 = c.loop-i-test.true in
    record {
      even = elim c.if-i-mask-eq0.branch [
        | then-i-mask-eq0 w ↦
            let e : to_z w32 c.if-i-mask-eq0.first-bits ≡ int_max (to_z w32 c.loop-i.first-bits) (get_or xs i (pos 0)) = search rules in
            lane-even mask i xs ys _ _ low w.if-i-mask-eq0.true e c.loop-i.invariant.even
        | else-i-mask-eq0 w ↦
            let e : to_z w32 c.if-i-mask-eq0.first-bits ≡ int_max (to_z w32 c.loop-i.first-bits) (get_or ys i (pos 0)) = search rules in
            lane-odd mask i xs ys _ _ low w.if-i-mask-eq0.false e c.loop-i.invariant.even
      ];
      odd = elim c.if-i-mask-eq0.branch [
        | then-i-mask-eq0 w ↦
            let e : to_z w32 c.if-i-mask-eq0.second-bits ≡ int_max (to_z w32 c.loop-i.second-bits) (get_or ys i (pos 0)) = search rules in
            lane-even mask i ys xs _ _ low w.if-i-mask-eq0.true e c.loop-i.invariant.odd
        | else-i-mask-eq0 w ↦
            let e : to_z w32 c.if-i-mask-eq0.second-bits ≡ int_max (to_z w32 c.loop-i.second-bits) (get_or xs i (pos 0)) = search rules in
            lane-odd mask i ys xs _ _ low w.if-i-mask-eq0.false e c.loop-i.invariant.odd
      ];
    }
