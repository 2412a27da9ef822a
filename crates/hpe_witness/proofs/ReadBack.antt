-- What is read place by place is the list that its places say.
use Rattle.std.proofs.Common.{◌≡◌, ◌≢◌, ◌<◌, ◌≤◌, ◌+◌, ℕ, ℤ, w32, List, length, get_or, set, get_or-set_same, get_or-set_other, ⊎_elim, subst, ◌∙◌, arith, sym}
use Rattle.std.proofs.lemmas.Bool.{cases_lt}
use Rattle.std.proofs.lemmas.List.{get_or_default}
use Rattle.std.proofs.lemmas.Int.{to_z-of_z}
use lib.Signed.{mag}
use mir.Val.{SFits}
use Rattle.hpe_lane.proofs.OuterFits.{kept_z}
use Rattle.hpe_base.specs.Bits.{AreBits}

-- one place more is written
pub place-more : {X : Type 0} (f : ℕ → X) (d x : X) (xs : List X) (t : ℕ) → t < length xs → ((k : ℕ) → k < t → get_or xs k d ≡ f k) → x ≡ f t → (k : ℕ) → k < t + 1 → get_or (set xs t x) k d ≡ f k
place-more f d x xs t room before here k lt =
    ⊎_elim
    (λ (h : k < t). let ne : k ≢ t = omega arith in get_or-set_other xs t k x d ne ∙ before k h)
    (λ (h : t ≤ k). let e : t ≡ k = omega arith in subst (λ (j : ℕ). get_or (set xs t x) j d ≡ f j) e (get_or-set_same xs t x d room ∙ here))
    (cases_lt k t)

-- a list of bits, by its places
pub bits-by-place : (f : ℕ → ℕ) (xs : List ℕ) → ((k : ℕ) → k < length xs → get_or xs k 0 ≡ f k) → ((k : ℕ) → f k < 2) → AreBits xs
bits-by-place f xs h low = λ k d lt. subst (λ (b : ℕ). b < 2) (sym (get_or_default xs k d 0 lt ∙ h k lt)) (low k)

-- a number that fits is kept
pub kept_fits : (z : ℤ) → mag z < 2147483648 → kept_z z ≡ z
kept_fits z h = let f : SFits w32 z = record { sfits = h } in to_z-of_z w32 z f
