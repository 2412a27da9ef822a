use Rattle.std.proofs.Common.{arith, rules, ◌≡◌, ℕ, ℤ, ◌+◌, ◌*◌, ◌/◌, ◌%◌, ◌<◌, List, length, sym, ◌∙◌, subst, pos, get_or, to_z, w32}
use Rattle.std.specs.Int.{int_max}
use Rattle.hpe_base.specs.Sizes.{number_at}
use Rattle.hpe_base.specs.Greatest.{IsGreatest}
use Rattle.hpe_lane.proofs.OneLane.{ends_of}
use Rattle.hpe_lane.proofs.EndBests.{IsEnd, ends_join, end_take, end_pass, end_parity}
use Rattle.hpe_lane.proofs.ends.best_ends.Goals as goal
use Rattle.hpe_lane.proofs.ends.best_ends.Goals.{then-v-eq0, else-v-eq0}

eights : (n : ℕ) → 8 * (n / 8) ≡ n / 8 * 8
eights n = omega arith

started : (xs lanes best : List ℤ) (b : ℕ) (z : ℤ) → b < 2 → ((i : ℕ) → i < 8 → IsGreatest (λ (v : ℕ). (v < 8 * (length xs / 8)) × (v % 8 ≡ i)) (number_at xs) (number_at lanes i))
    → number_at best b ≡ ends_of lanes b → z ≡ number_at best b → IsGreatest (IsEnd (length xs / 8 * 8) b) (number_at xs) z
started xs lanes best b z h each e ez =
    subst (λ (n : ℕ). IsGreatest (IsEnd n b) (number_at xs) z) (eights (length xs))
    (subst (IsGreatest (IsEnd (8 * (length xs / 8)) b) (number_at xs)) (sym (ez ∙ e)) (ends_join (number_at xs) (length xs / 8) lanes b h each))

pub loop-v-init : goal.loop-v-init
loop-v-init c =
    let xs : List ℤ = c.args.scores.now in
    let best : List ℤ = c.ends_of_eight-best.result in
    record {
      even = started xs c.best_of_lanes-lanes.result best 0 _ (omega arith) c.best_of_lanes-lanes.ensures (c.ends_of_eight-best.ensures 0 (omega arith)) (search rules);
      odd = started xs c.best_of_lanes-lanes.result best 1 _ (omega arith) c.best_of_lanes-lanes.ensures (c.ends_of_eight-best.ensures 1 (omega arith)) (search rules);
    }

pub loop-v-preserved : goal.loop-v-preserved
loop-v-preserved c =
    let xs : List ℤ = c.args.scores.now in
    let v : ℕ = c.loop-v.v in
    record {
      even = elim c.if-v-eq0.branch [
        | then-v-eq0 w ↦
            let e : to_z w32 c.if-v-eq0.even-bits ≡ int_max (to_z w32 c.loop-v.even-bits) (get_or xs v (pos 0)) = search rules in
            subst (IsGreatest (IsEnd (v + 1) 0) (number_at xs)) (sym e) (end_take (number_at xs) v 0 (to_z w32 c.loop-v.even-bits) w.if-v-eq0.true c.loop-v.invariant.even)
        | else-v-eq0 w ↦
            subst (IsGreatest (IsEnd (v + 1) 0) (number_at xs)) (sym w.even-is) (end_pass (number_at xs) v 0 _ w.if-v-eq0.false c.loop-v.invariant.even)
      ];
      odd = elim c.if-v-eq0.branch [
        | then-v-eq0 w ↦
            subst (IsGreatest (IsEnd (v + 1) 1) (number_at xs)) (sym w.odd-is) (end_pass (number_at xs) v 1 _ (λ q. omega (arith, q, w.if-v-eq0.true)) c.loop-v.invariant.odd)
        | else-v-eq0 w ↦
            let e : to_z w32 c.if-v-eq0.odd-bits ≡ int_max (to_z w32 c.loop-v.odd-bits) (get_or xs v (pos 0)) = search rules in
            subst (IsGreatest (IsEnd (v + 1) 1) (number_at xs)) (sym e) (end_take (number_at xs) v 1 (to_z w32 c.loop-v.odd-bits) (omega (arith, w.if-v-eq0.false)) c.loop-v.invariant.odd)
      ];
    }

pub returns : goal.returns
returns c =
    let xs : List ℤ = c.args.scores.now in
    let e : c.loop-v.v ≡ length xs = omega (arith, c.loop-v.auto.v-end, c.loop-v-test.false) in
    record {
      even = end_parity (number_at xs) (length xs) 0 _ (subst (λ (n : ℕ). IsGreatest (IsEnd n 0) (number_at xs) (to_z w32 c.loop-v.even-bits)) e c.loop-v.invariant.even);
      odd = end_parity (number_at xs) (length xs) 1 _ (subst (λ (n : ℕ). IsGreatest (IsEnd n 1) (number_at xs) (to_z w32 c.loop-v.odd-bits)) e c.loop-v.invariant.odd);
    }
