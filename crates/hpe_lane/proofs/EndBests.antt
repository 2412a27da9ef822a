-- The greatest scores of the even places and of the odd ones, by lanes of eight.
use Rattle.std.proofs.Common.{◌≡◌, ◌≢◌, ℕ, ◌+◌, ◌*◌, ◌%◌, ◌<◌, ◌≤◌, ◌⊎◌, inl, inr, ⊎_elim, sym, ◌∙◌, ap, subst, arith, ℤ, pos, List, take}
use Rattle.std.specs.Int.{int_max}
use Rattle.std.proofs.lemmas.Bool.{cases_lt}
use Rattle.std.proofs.lemmas.List.{get_or-take}
use Rattle.hpe_base.specs.Sizes.{number_at}
use Rattle.hpe_base.specs.Greatest.{IsGreatest}
use Rattle.hpe_base.proofs.Greatest.{IsGreatest-join, IsGreatest-widen, IsGreatest-single}
use Rattle.hpe_lane.specs.Edges.{HasParity}
use Rattle.hpe_lane.proofs.Sums.{parity_of_one}
use Rattle.hpe_lane.proofs.OneLane.{ends_of}

-- the places of lane i in the first k blocks
abbrev pub InLane8 : ℕ → ℕ → ℕ → Type 0
InLane8 k i v = (v < 8 * k) × (v % 8 ≡ i)

-- the even places below n, or the odd ones
abbrev pub IsEnd : ℕ → ℕ → ℕ → Type 0
IsEnd n b v = (v < n) × (v % 2 ≡ b)

pub lane_first : (xs : List ℤ) (i : ℕ) → i < 8 → IsGreatest (InLane8 1 i) (number_at xs) (number_at (take 8 xs) i)
lane_first xs i h =
    subst (IsGreatest (InLane8 1 i) (number_at xs)) (sym (get_or-take 8 xs i (pos 0) h))
    (IsGreatest-widen (λ v e. (omega arith, omega arith)) (λ v p. omega (arith, p.0, p.1)) (IsGreatest-single (number_at xs) i))

pub lane_more : (f : ℕ → ℤ) (k i : ℕ) (z : ℤ) → i < 8 → IsGreatest (InLane8 k i) f z → IsGreatest (InLane8 (k + 1) i) f (int_max z (f (8 * k + i)))
lane_more f k i z h g =
    IsGreatest-join (λ v p. (omega (arith, p.0), p.1)) (λ v e. (omega arith, omega arith))
    (λ v p. ⊎_elim (λ (a : v < 8 * k). inl (a, p.1)) (λ (b : 8 * k ≤ v). inr (omega (arith, p.0, p.1))) (cases_lt v (8 * k)))
    g (IsGreatest-single f (8 * k + i))

fours : (v b : ℕ) → b < 4 → v % 4 ≡ b → (v % 8 ≡ b) ⊎ (v % 8 ≡ 4 + b)
fours v b h e = ⊎_elim (λ (a : v % 8 < 4). inl (omega arith)) (λ (a : 4 ≤ v % 8). inr (omega arith)) (cases_lt (v % 8) 4)

twos : (v b : ℕ) → b < 2 → v % 2 ≡ b → (v % 4 ≡ b) ⊎ (v % 4 ≡ 2 + b)
twos v b h e = ⊎_elim (λ (a : v % 4 < 2). inl (omega arith)) (λ (a : 2 ≤ v % 4). inr (omega arith)) (cases_lt (v % 4) 2)

four_lanes : (f : ℕ → ℤ) (n b : ℕ) (x y : ℤ) → b < 4 → IsGreatest (λ (v : ℕ). (v < n) × (v % 8 ≡ b)) f x → IsGreatest (λ (v : ℕ). (v < n) × (v % 8 ≡ 4 + b)) f y
    → IsGreatest (λ (v : ℕ). (v < n) × (v % 4 ≡ b)) f (int_max x y)
four_lanes f n b x y h g k =
    IsGreatest-join (λ v p. (p.0, omega (arith, p.1))) (λ v p. (p.0, omega (arith, p.1))) (λ v p. ⊎_elim (λ e. inl (p.0, e)) (λ e. inr (p.0, e)) (fours v b h p.1)) g k

two_lanes : (f : ℕ → ℤ) (n b : ℕ) (x y : ℤ) → b < 2 → IsGreatest (λ (v : ℕ). (v < n) × (v % 4 ≡ b)) f x → IsGreatest (λ (v : ℕ). (v < n) × (v % 4 ≡ 2 + b)) f y
    → IsGreatest (IsEnd n b) f (int_max x y)
two_lanes f n b x y h g k =
    IsGreatest-join (λ v p. (p.0, omega (arith, p.1))) (λ v p. (p.0, omega (arith, p.1))) (λ v p. ⊎_elim (λ e. inl (p.0, e)) (λ e. inr (p.0, e)) (twos v b h p.1)) g k

shifted_lane : (b : ℕ) → 4 + (2 + b) ≡ 6 + b
shifted_lane b = omega arith

-- from the lanes to their even and odd ones
pub ends_join : (f : ℕ → ℤ) (k : ℕ) (best : List ℤ) (b : ℕ) → b < 2 → ((i : ℕ) → i < 8 → IsGreatest (InLane8 k i) f (number_at best i)) → IsGreatest (IsEnd (8 * k) b) f (ends_of best b)
ends_join f k best b h lanes =
    two_lanes f (8 * k) b _ _ h
    (four_lanes f (8 * k) b _ _ (omega arith) (lanes b (omega arith)) (lanes (4 + b) (omega arith)))
    (four_lanes f (8 * k) (2 + b) _ _ (omega arith) (lanes (2 + b) (omega arith))
    (subst (λ (i : ℕ). IsGreatest (λ (v : ℕ). (v < 8 * k) × (v % 8 ≡ i)) f (number_at best (6 + b))) (sym (shifted_lane b)) (lanes (6 + b) (omega arith))))

-- one place more, which is such an end, and which is not
pub end_take : (f : ℕ → ℤ) (v b : ℕ) (z : ℤ) → v % 2 ≡ b → IsGreatest (IsEnd v b) f z → IsGreatest (IsEnd (v + 1) b) f (int_max z (f v))
end_take f v b z e g =
    IsGreatest-join (λ w p. (omega (arith, p.0), p.1)) (λ w q. (omega arith, ap (λ (n : ℕ). n % 2) q ∙ e))
    (λ w p. ⊎_elim (λ (a : w < v). inl (a, p.1)) (λ (a : v ≤ w). inr (omega (arith, p.0))) (cases_lt w v))
    g (IsGreatest-single f v)

pub end_pass : (f : ℕ → ℤ) (v b : ℕ) (z : ℤ) → v % 2 ≢ b → IsGreatest (IsEnd v b) f z → IsGreatest (IsEnd (v + 1) b) f z
end_pass f v b z ne g =
    IsGreatest-widen (λ w p. (omega (arith, p.0), p.1))
    (λ w p. ⊎_elim (λ (a : w < v). (a, p.1)) (λ (a : v ≤ w). let same : w ≡ v = omega (arith, p.0) in absurd (ne (ap (λ (n : ℕ). n % 2) (sym same) ∙ p.1))) (cases_lt w v))
    g

-- by the parity of the place, as the mask 1 tells it
pub end_parity : (f : ℕ → ℤ) (n b : ℕ) (z : ℤ) → IsGreatest (IsEnd n b) f z → IsGreatest (HasParity n 1 b) f z
end_parity f n b z g = IsGreatest-widen (λ v p. (p.0, parity_of_one v ∙ p.1)) (λ v p. (p.0, sym (parity_of_one v) ∙ p.1)) g

-- the greatest of both is that of all places
pub both_ends : (f : ℕ → ℤ) (n : ℕ) (x y : ℤ) → IsGreatest (HasParity n 1 0) f x → IsGreatest (HasParity n 1 1) f y → IsGreatest (λ (v : ℕ). v < n) f (int_max x y)
both_ends f n x y g h =
    IsGreatest-join (λ v p. p.0) (λ v p. p.0)
    (λ v p. ⊎_elim (λ (a : v % 2 < 1). inl (p, parity_of_one v ∙ low v a)) (λ (a : 1 ≤ v % 2). inr (p, parity_of_one v ∙ high v a)) (cases_lt (v % 2) 1))
    g h
  where
    low : (v : ℕ) → v % 2 < 1 → v % 2 ≡ 0
    low v a = omega arith

    high : (v : ℕ) → 1 ≤ v % 2 → v % 2 ≡ 1
    high v a = omega arith
