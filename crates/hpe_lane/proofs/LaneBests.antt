-- The greatest scores by parity, found in lanes.
use Rattle.std.proofs.Common.{◌≡◌, ℕ, zero, suc, ◌+◌, ◌-◌, ◌*◌, ◌/◌, ◌%◌, ◌^◌, ◌<◌, ◌≤◌, ◌⊎◌, inl, inr, ⊎_elim, sym, ◌∙◌, ap, ap₂, subst, refl, arith, ℤ, negsuc, ◌≤ℤ◌, List, bit_and, add-zero, take, drop, pos, get_or, to_z, of_z, w32}
use Rattle.std.proofs.lemmas.List.{get_or-take, get_or-drop}
use Rattle.std.specs.Prelude.{count_ones, if◌then◌else◌, ◌==◌}
use Rattle.std.specs.Int.{int_max}
use Rattle.std.specs.Int.Count.{ones_cat}
use Rattle.std.specs.Int.Bits.{and_zero_l, and_le_l}
use Rattle.std.proofs.lemmas.Bool.{cases_lt}
use Rattle.std.proofs.lemmas.Int.{ints, clamps}
use Rattle.std.proofs.lemmas.Nat.{and_block, and_comm}
use Rattle.std.proofs.Math.Nat.{mod-lt}
use Rattle.hpe_base.specs.Sizes.{number_at}
use Rattle.hpe_base.specs.Greatest.{IsGreatest}
use Rattle.hpe_base.proofs.Greatest.{IsGreatestBelow, IsGreatestBelow-take, max_left, max_right, max_cases, le_trans}
use Rattle.hpe_lane.specs.Edges.{HasParity}
use Rattle.hpe_lane.specs.Lanes.{IsBest, lane_of}
use Rattle.hpe_lane.proofs.Parities.{ones_zero}

pub IsBest-widen : {P Q : ℕ → Type 0} {f : ℕ → ℤ} {t : ℤ} → ((v : ℕ) → P v → Q v) → ((v : ℕ) → Q v → P v) → IsBest P f t → IsBest Q f t
IsBest-widen there back g = record {
  reached = ⊎_elim (λ e. inl e) (λ r. inr (r.0, (there r.0 r.1.0, r.1.1))) g.reached;
  bound = λ v q. g.bound v (back v q);
}

-- one place more
pub IsBest-take : {P Q : ℕ → Type 0} {f : ℕ → ℤ} {t : ℤ} (w : ℕ) → Q w → ((v : ℕ) → P v → Q v) → ((v : ℕ) → Q v → P v ⊎ (v ≡ w)) → IsBest P f t → IsBest Q f (int_max t (f w))
IsBest-take {P} {Q} {f} {t} w here there split g = record {
  reached = ⊎_elim
      (λ e. ⊎_elim (λ l. inl (e ∙ l)) (λ r. inr (r.0, (there r.0 r.1.0, r.1.1 ∙ sym e))) g.reached)
      (λ e. inr (w, (here, sym e)))
      (max_cases t (f w));
  bound = λ v q. ⊎_elim
      (λ p. le_trans _ _ _ (g.bound v p) (max_left t (f w)))
      (λ e. subst (λ (u : ℕ). f u ≤ℤ int_max t (f w)) (sym e) (max_right t (f w)))
      (split v q);
}

-- ---- the parity of a place is that of its block and that of its lane together

eights : (v : ℕ) → v ≡ v / 8 * 2 ^ 3 + v % 8
eights v = omega arith

block_first : (v : ℕ) → v / 8 * 8 ≡ v / 8 * 2 ^ 3 + 0
block_first v = omega arith

lane_first : (i : ℕ) → i ≡ 0 * 2 ^ 3 + i
lane_first i = omega arith

ones_of_block : (v mask : ℕ) → count_ones (bit_and (v / 8 * 8) mask) ≡ count_ones (bit_and (v / 8) (mask / 8))
ones_of_block v mask =
    ap count_ones
    (ap (λ (n : ℕ). bit_and n mask) (block_first v) ∙ ap (bit_and (v / 8 * 2 ^ 3 + 0)) (eights mask)
    ∙ and_block 3 (v / 8) (mask / 8) 0 (mask % 8) (omega arith) (omega arith) ∙ ap (λ (n : ℕ). bit_and (v / 8) (mask / 8) * 2 ^ 3 + n) (and_zero_l (mask % 8)))
    ∙ ones_cat 3 (bit_and (v / 8) (mask / 8)) 0 (omega arith)
    ∙ ap (λ (n : ℕ). count_ones (bit_and (v / 8) (mask / 8)) + n) ones_zero
    ∙ add-zero (count_ones (bit_and (v / 8) (mask / 8)))

and_low : (a b : ℕ) → b < 8 → bit_and a b < 8
and_low a b h = let l : bit_and b a ≤ b = and_le_l b a in let e : bit_and a b ≡ bit_and b a = and_comm a b in omega arith

ones_of_lane : (i mask : ℕ) → i < 8 → count_ones (bit_and i mask) ≡ count_ones (bit_and i (mask % 8))
ones_of_lane i mask h =
    ap count_ones
    (ap (λ (n : ℕ). bit_and n mask) (lane_first i) ∙ ap (bit_and (0 * 2 ^ 3 + i)) (eights mask)
    ∙ and_block 3 0 (mask / 8) i (mask % 8) h (omega arith) ∙ ap (λ (n : ℕ). n * 2 ^ 3 + bit_and i (mask % 8)) (and_zero_l (mask / 8)) ∙ sym (lane_first (bit_and i (mask % 8))))

-- the bits under the mask, in the block and in the lane
ones_split : (v mask : ℕ) → count_ones (bit_and v mask) ≡ count_ones (bit_and (v / 8 * 8) mask) + count_ones (bit_and (v % 8) mask)
ones_split v mask =
    let lane : v % 8 < 8 = omega arith in
    ap count_ones (ap (λ (n : ℕ). bit_and n mask) (eights v) ∙ ap (bit_and (v / 8 * 2 ^ 3 + v % 8)) (eights mask) ∙ and_block 3 (v / 8) (mask / 8) (v % 8) (mask % 8) lane (omega arith))
    ∙ ones_cat 3 (bit_and (v / 8) (mask / 8)) (bit_and (v % 8) (mask % 8)) (and_low (v % 8) (mask % 8) (omega arith))
    ∙ ap₂ (λ (a b : ℕ). a + b) (sym (ones_of_block v mask)) (sym (ones_of_lane (v % 8) mask lane))

-- the parity of the bits under the mask
abbrev pub parity : ℕ → ℕ → ℕ
parity mask v = count_ones (bit_and v mask) % 2

sum_parity : (a b c : ℕ) → a ≡ b + c → a % 2 ≡ (b % 2 + c % 2) % 2
sum_parity a b c h = omega arith

parity_split : (v mask : ℕ) → parity mask v ≡ (parity mask (v / 8 * 8) + parity mask (v % 8)) % 2
parity_split v mask = sum_parity (count_ones (bit_and v mask)) (count_ones (bit_and (v / 8 * 8) mask)) (count_ones (bit_and (v % 8) mask)) (ones_split v mask)

-- a place of lane i in the first j blocks, where the block's parity is p
abbrev pub InLane : ℕ → ℕ → ℕ → ℕ → ℕ → Type 0
InLane mask p i j v = (v < j * 8) × ((v % 8 ≡ i) × (parity mask (v / 8 * 8) ≡ p))

block_of : (i j : ℕ) → i < 8 → (j * 8 + i) / 8 * 8 ≡ j * 8
block_of i j h = omega arith

-- a block more, of the lane's parity
pub lane-take : (mask p i j : ℕ) (f : ℕ → ℤ) (t : ℤ) → i < 8 → parity mask (j * 8) ≡ p → IsBest (InLane mask p i j) f t → IsBest (InLane mask p i (j + 1)) f (int_max t (f (j * 8 + i)))
lane-take mask p i j f t low e g =
    IsBest-take (j * 8 + i) (omega arith, (omega arith, ap (parity mask) (block_of i j low) ∙ e))
    (λ v q. (omega (arith, q.0), q.1))
    (λ v q. ⊎_elim (λ (h : v < j * 8). inl (h, q.1)) (λ (h : j * 8 ≤ v). inr (omega (arith, q.0, q.1.0))) (cases_lt v (j * 8)))
    g

same_block : (v j : ℕ) → v < (j + 1) * 8 → j * 8 ≤ v → v / 8 * 8 ≡ j * 8
same_block v j h l = omega arith

-- a block more, of the other parity
pub lane-pass : (mask p i j : ℕ) (f : ℕ → ℤ) (t : ℤ) → (parity mask (j * 8) ≡ p → ⊥) → IsBest (InLane mask p i j) f t → IsBest (InLane mask p i (j + 1)) f t
lane-pass mask p i j f t other g = IsBest-widen
    (λ v q. (omega (arith, q.0), q.1))
    (λ v q. ⊎_elim (λ (h : v < j * 8). (h, q.1)) (λ (h : j * 8 ≤ v). absurd (other (ap (parity mask) (sym (same_block v j q.0 h)) ∙ q.1.1))) (cases_lt v (j * 8)))
    g

block_value : (xs : List ℤ) (v i : ℕ) → i < 8 → number_at (take (v + 8 - v) (drop v xs)) i ≡ number_at xs (v + i)
block_value xs v i h = let e : i < v + 8 - v = omega arith in get_or-take (v + 8 - v) (drop v xs) i (pos 0) e ∙ get_or-drop v xs i (pos 0)

-- the lanes that a block raises
pub lanes-raised : (mask p j : ℕ) (xs old new : List ℤ) → parity mask (j * 8) ≡ p → ((i : ℕ) → i < 8 → IsBest (InLane mask p i j) (number_at xs) (number_at old i))
    → ((i : ℕ) → i < 8 → number_at new i ≡ int_max (number_at old i) (number_at (take (j * 8 + 8 - j * 8) (drop (j * 8) xs)) i))
    → (i : ℕ) → i < 8 → IsBest (InLane mask p i (j + 1)) (number_at xs) (number_at new i)
lanes-raised mask p j xs old new e before raised i h =
    subst (IsBest (InLane mask p i (j + 1)) (number_at xs)) (sym (raised i h ∙ ap (λ (z : ℤ). int_max (number_at old i) z) (block_value xs (j * 8) i h)))
    (lane-take mask p i j (number_at xs) (number_at old i) h e (before i h))

other_parity : (b p q r : ℕ) → b < 2 → q < 2 → r ≡ (p + q) % 2 → p ≡ (b + q) % 2 → r ≡ b
other_parity b p q r h k e f = omega arith

own_parity : (b p q r : ℕ) → p < 2 → q < 2 → r ≡ (p + q) % 2 → r ≡ b → p ≡ (b + q) % 2
own_parity b p q r h k e f = omega arith

-- the lanes of the list of one parity and of the list of the other
module _ (mask b j : ℕ) (f : ℕ → ℤ) (same other : List ℤ) (low : b < 2)
    (own : (i : ℕ) → i < 8 → IsBest (InLane mask b i j) f (number_at same i)) (rest : (i : ℕ) → i < 8 → IsBest (InLane mask (1 - b) i j) f (number_at other i)) where
  picked : (i q : ℕ) → i < 8 → q < 2 → IsBest (InLane mask ((b + q) % 2) i j) f (if q == 0 then number_at same i else number_at other i)
  picked i zero h k = let e : b ≡ (b + 0) % 2 = omega arith in subst (λ (p : ℕ). IsBest (InLane mask p i j) f (number_at same i)) e (own i h)
  picked i (suc zero) h k = let e : 1 - b ≡ (b + 1) % 2 = omega arith in subst (λ (p : ℕ). IsBest (InLane mask p i j) f (number_at other i)) e (rest i h)
  picked i (suc (suc q)) h k = absurd (omega arith)

  pub best-of-lanes : (z : ℤ) → IsGreatest (λ (i : ℕ). i < 8) (lane_of same other mask) z → IsBest (λ (v : ℕ). (v < j * 8) × (parity mask v ≡ b)) f z
  best-of-lanes z g =
      let i : ℕ = g.reached.0 in
      let at = picked i (parity mask i) g.reached.1.0 (mod-lt (count_ones (bit_and i mask)) (omega arith)) in
      record {
        reached = ⊎_elim
            (λ e. inl (sym g.reached.1.1 ∙ e))
            (λ r. inr (
              r.0,
              (
                (
                  r.1.0.0,
                  other_parity b (parity mask (r.0 / 8 * 8)) (parity mask i) (parity mask r.0) low (mod-lt (count_ones (bit_and i mask)) (omega arith))
                      (parity_split r.0 mask ∙ ap (λ (n : ℕ). (parity mask (r.0 / 8 * 8) + parity mask n) % 2) r.1.0.1.0) r.1.0.1.1,
                ),
                r.1.1 ∙ g.reached.1.1,
              ),
            ))
            at.reached;
        bound = λ v q.
            let lane : v % 8 < 8 = omega arith in
            let own_lane = picked (v % 8) (parity mask (v % 8)) lane (mod-lt (count_ones (bit_and (v % 8) mask)) (omega arith)) in
            le_trans _ _ _
            (own_lane.bound v (q.0, (refl, own_parity b (parity mask (v / 8 * 8)) (parity mask (v % 8)) (parity mask v) (mod-lt (count_ones (bit_and (v / 8 * 8) mask)) (omega arith)) (mod-lt (count_ones (bit_and (v % 8) mask)) (omega arith)) (parity_split v mask) q.1)))
            (g.bound (v % 8) lane);
      }

-- a lane more
lane_is : (q : ℕ) (x y : ℤ) → q ≡ 0 → (if q == 0 then x else y) ≡ x
lane_is zero x y e = refl
lane_is (suc q) x y e = absurd (omega arith)

lane_is_other : (q : ℕ) (x y : ℤ) → q < 2 → (q ≡ 0 → ⊥) → (if q == 0 then x else y) ≡ y
lane_is_other zero x y h e = absurd (e refl)
lane_is_other (suc zero) x y h e = refl
lane_is_other (suc (suc q)) x y h e = absurd (omega arith)

pub lane-even : (mask i : ℕ) (same other : List ℤ) (old new : ℤ) → i < 8 → parity mask i ≡ 0 → new ≡ int_max old (get_or same i (pos 0))
    → IsGreatestBelow i (λ (v : ℕ). v < 8) (lane_of same other mask) old → IsGreatestBelow (i + 1) (λ (v : ℕ). v < 8) (lane_of same other mask) new
lane-even mask i same other old new low e is g =
    subst (IsGreatestBelow (i + 1) (λ (v : ℕ). v < 8) (lane_of same other mask))
    (ap (λ (z : ℤ). int_max old z) (lane_is (parity mask i) (number_at same i) (number_at other i) e) ∙ sym is) (IsGreatestBelow-take low g)

pub lane-odd : (mask i : ℕ) (same other : List ℤ) (old new : ℤ) → i < 8 → (parity mask i ≡ 0 → ⊥) → new ≡ int_max old (get_or other i (pos 0))
    → IsGreatestBelow i (λ (v : ℕ). v < 8) (lane_of same other mask) old → IsGreatestBelow (i + 1) (λ (v : ℕ). v < 8) (lane_of same other mask) new
lane-odd mask i same other old new low e is g =
    subst (IsGreatestBelow (i + 1) (λ (v : ℕ). v < 8) (lane_of same other mask))
    (ap (λ (z : ℤ). int_max old z) (lane_is_other (parity mask i) (number_at same i) (number_at other i) (mod-lt (count_ones (bit_and i mask)) (omega arith)) e) ∙ sym is) (IsGreatestBelow-take low g)

-- all whole blocks
pub whole_blocks : (mask b j n : ℕ) (f : ℕ → ℤ) (z : ℤ) → j ≤ n / 8 → n / 8 ≤ j → IsBest (λ (v : ℕ). (v < j * 8) × (parity mask v ≡ b)) f z → IsBest (λ (v : ℕ). (v < n / 8 * 8) × (parity mask v ≡ b)) f z
whole_blocks mask b j n f z h k g = let e : j ≡ n / 8 = omega arith in subst (λ (q : ℕ). IsBest (λ (v : ℕ). (v < q * 8) × (parity mask v ≡ b)) f z) e g

-- the search goes on from the whole blocks, and from a place that is chosen
pub from-blocks : (mask b n w : ℕ) (xs : List ℤ) (t z : ℤ) → HasParity n mask b w → z ≡ int_max t (get_or xs w (pos 0)) → negsuc 2147483647 ≤ℤ number_at xs w
    → IsBest (λ (v : ℕ). (v < n / 8 * 8) × (parity mask v ≡ b)) (number_at xs) t → IsGreatestBelow (n / 8 * 8) (HasParity n mask b) (number_at xs) z
from-blocks mask b n w xs t z here is low g = record {
  reached = ⊎_elim
      (λ e. ⊎_elim (λ l. (w, (here, squeeze t (number_at xs w) z e l low is)))
      (λ r. (r.0, ((omega (arith, r.1.0.0), r.1.0.1), r.1.1 ∙ sym e ∙ sym is)))
      g.reached)
      (λ e. (w, (here, sym e ∙ sym is)))
      (max_cases t (number_at xs w));
  bound = λ v h p. subst (λ (y : ℤ). number_at xs v ≤ℤ y) (sym is) (le_trans _ _ _ (g.bound v (h, p.1)) (max_left t (number_at xs w)));
}
  where
    squeeze : (t x z : ℤ) → int_max t x ≡ t → t ≡ negsuc 2147483647 → negsuc 2147483647 ≤ℤ x → z ≡ int_max t x → x ≡ z
    squeeze t x z e l h is = omega (arith, ints, clamps)

-- a number of 32 bits is no less than the least of them
pub no_less : (z : ℤ) → to_z w32 (of_z w32 z) ≡ z → negsuc 2147483647 ≤ℤ z
no_less z e = subst (λ (x : ℤ). negsuc 2147483647 ≤ℤ x) e (low z)
  where
    low : (z : ℤ) → negsuc 2147483647 ≤ℤ to_z w32 (of_z w32 z)
    low z = omega (arith, ints)
