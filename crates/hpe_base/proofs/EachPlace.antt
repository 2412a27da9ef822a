-- Lemmas on tests of every place.
use Rattle.std.proofs.Common.{◌≡◌, ◌<◌, ℕ, Bool, true, false, arith, ap, ◌∙◌, get_or, zero-add}
use Rattle.std.specs.List.{list_all, range_with_len}
use Rattle.std.proofs.lemmas.List.Sums.{list_all-from_AllPass}
use Rattle.std.proofs.lemmas.List.Folds.{list_all_at}
use Rattle.std.proofs.lemmas.List.FromFn.{get_or-range_with_len, length-range_with_len}

-- a test that holds at each place holds of all
pub list_all-range_with_len : (p : ℕ → Bool) (n : ℕ) → ((k : ℕ) → k < n → p k ≡ true) → list_all p (range_with_len 0 n) ≡ true
list_all-range_with_len p n h = list_all-from_AllPass p (range_with_len 0 n) (λ k d b.
    let below : k < n = omega (arith, length-range_with_len 0 n) in
    let e : get_or (range_with_len 0 n) k d ≡ k = get_or-range_with_len 0 n k d below ∙ zero-add k in
    ap p e ∙ h k below)

-- a test that fails at a place fails of all
pub list_all_not-range_with_len : (p : ℕ → Bool) (n k : ℕ) → k < n → p k ≡ false → list_all p (range_with_len 0 n) ≡ false
list_all_not-range_with_len p n k b h =
    let e : get_or (range_with_len 0 n) k 0 ≡ k = get_or-range_with_len 0 n k 0 b ∙ zero-add k in
    list_all_at p (range_with_len 0 n) k 0 (omega (arith, length-range_with_len 0 n)) (ap p e ∙ h)
