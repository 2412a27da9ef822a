use Rattle.std.specs.Prelude.{count_ones}
use Rattle.std.specs.Int.Count.{count_trailing_zeros}
use Rattle.std.specs.Int.Bits.{and_zero_l}
use Rattle.std.proofs.Common.{rules, arith, ℕ, ◌≡◌, ◌≤◌, ◌+◌, ◌*◌, ◌%◌, ◌^◌, List, ℤ, pos, get_or, length, sym, ◌∙◌, ap, refl, subst, to_z, of_z, w32}
use Rattle.std.specs.Int.{int_max}
use Rattle.hpe_base.specs.Sizes.{number_at}
use Rattle.hpe_base.proofs.Greatest.{IsGreatestBelow, IsGreatestBelow-take, IsGreatestBelow-pass, IsGreatestBelow-all}
use Rattle.hpe_lane.specs.Edges.{HasParity}
use Rattle.hpe_lane.proofs.Parities.{lowest_set, ones_zero}
use Rattle.hpe_lane.proofs.plain.best_by_parity.Goals as goal
use Rattle.hpe_lane.proofs.plain.best_by_parity.Goals.{then-v-mask-eq0, else-v-mask-eq0}

-- before the first place, one that is chosen
IsGreatestBelow-one : {P : ℕ → Type 0} {f : ℕ → ℤ} (w : ℕ) → P w → IsGreatestBelow 0 P f (f w)
IsGreatestBelow-one w here = record { reached = (w, (here, refl)); bound = λ v h p. absurd (omega (arith, h)) }

pub bounds-scores-first_odd : goal.bounds-scores-first_odd
bounds-scores-first_odd c = (lowest_set c.args.mask _ c.requires.low c.requires.high (omega arith)).0

pub loop-v-init : goal.loop-v-init
loop-v-init c =
    let xs : List ℤ = c.args.scores.now in
    let n : ℕ = length xs in
    let mask : ℕ = c.args.mask in
    let w : ℕ = 1 * 2 ^ count_trailing_zeros 32 mask % 18446744073709551616 in
    let first : HasParity n mask 0 0 = (omega arith, ap (λ (k : ℕ). count_ones k % 2) (and_zero_l mask) ∙ ap (λ (k : ℕ). k % 2) ones_zero) in
    let first_odd : HasParity n mask 1 w = lowest_set mask n c.requires.low c.requires.high (omega arith) in
    let e : to_z w32 (of_z w32 (get_or xs 0 (pos 0))) ≡ number_at xs 0 = search rules in
    let o : to_z w32 (of_z w32 (get_or xs w (pos 0))) ≡ number_at xs w = search rules in
    record {
      even = subst (λ (t : ℤ). IsGreatestBelow 0 (HasParity n mask 0) (number_at xs) t) (sym e) (IsGreatestBelow-one 0 first);
      odd = subst (λ (t : ℤ). IsGreatestBelow 0 (HasParity n mask 1) (number_at xs) t) (sym o) (IsGreatestBelow-one w first_odd);
    }

pub loop-v-preserved : goal.loop-v-preserved
loop-v-preserved c =
    let xs : List ℤ = c.args.scores.now in
    let n : ℕ = length xs in
    let v : ℕ = c.loop-v.v in
    let P = λ (b : ℕ). HasParity n c.args.mask b in
    record {
      even = elim c.if-v-mask-eq0.branch [
        | then-v-mask-eq0 w ↦
            let e : to_z w32 c.if-v-mask-eq0.even-bits ≡ int_max (to_z w32 c.loop-v.even-bits) (get_or xs v (pos 0)) = search rules in
            subst (λ (t : ℤ). IsGreatestBelow (v + 1) (P 0) (number_at xs) t) (sym e) (IsGreatestBelow-take (c.loop-v-test.true, w.if-v-mask-eq0.true) c.loop-v.invariant.even)
        | else-v-mask-eq0 w ↦
            subst (λ (t : ℤ). IsGreatestBelow (v + 1) (P 0) (number_at xs) t) (sym w.even-is) (IsGreatestBelow-pass (λ q. w.if-v-mask-eq0.false q.1) c.loop-v.invariant.even)
      ];
      odd = elim c.if-v-mask-eq0.branch [
        | then-v-mask-eq0 w ↦
            subst (λ (t : ℤ). IsGreatestBelow (v + 1) (P 1) (number_at xs) t) (sym w.odd-is) (IsGreatestBelow-pass (λ q. omega (arith, q.1)) c.loop-v.invariant.odd)
        | else-v-mask-eq0 w ↦
            let e : to_z w32 c.if-v-mask-eq0.odd-bits ≡ int_max (to_z w32 c.loop-v.odd-bits) (get_or xs v (pos 0)) = search rules in
            subst (λ (t : ℤ). IsGreatestBelow (v + 1) (P 1) (number_at xs) t) (sym e) (IsGreatestBelow-take (c.loop-v-test.true, omega arith) c.loop-v.invariant.odd)
      ];
    }

pub returns : goal.returns
returns c =
    let n : ℕ = length c.args.scores.now in
    let done : n ≤ c.loop-v.v = c.loop-v-test.false in
    record {
      even = IsGreatestBelow-all (λ v p. omega (arith, p.0)) c.loop-v.invariant.even;
      odd = IsGreatestBelow-all (λ v p. omega (arith, p.0)) c.loop-v.invariant.odd;
    }
