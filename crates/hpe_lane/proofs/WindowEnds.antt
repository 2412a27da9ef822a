-- Where the windows of a sweep begin and end, and lists of rows that grow.
use Rattle.std.proofs.Common.{◌≡◌, ◌≢◌, ℕ, ◌+◌, ◌*◌, ◌<◌, ◌≤◌, ⊎_elim, ℤ, List, [], length, get_or, set, get_or-set_same, get_or-set_other, arith, sym, subst}
use Rattle.std.proofs.lemmas.Bool.{cases_lt}
use Rattle.hpe_lane.specs.Windows.{windows, windows_end}

-- a window begins where those before it end
pub window_start : (n w : ℕ) → w < windows n → windows_end n w ≡ 64 * w
window_start n w h = omega arith

-- before the first there is no stage
pub no_window : (n : ℕ) → windows_end n 0 ≡ 0
no_window n = omega arith

-- a list of rows with one more
pub rows-set : (P : ℕ → List ℤ → Type 0) (i : ℕ) (rows : List (List ℤ)) (row : List ℤ) → i < length rows → ((j : ℕ) → j < i → P j (get_or rows j [])) → P i row
    → (j : ℕ) → j < i + 1 → P j (get_or (set rows i row) j [])
rows-set P i rows row room before here j h =
    ⊎_elim
    (λ (p : j < i). let ne : j ≢ i = omega arith in subst (P j) (sym (get_or-set_other rows i j row [] ne)) (before j p))
    (λ (p : i ≤ j). let same : i ≡ j = omega arith in
    subst (λ (k : ℕ). P k (get_or (set rows i row) k [])) same
    (subst (P i) (sym (get_or-set_same rows i row [] room)) here))
    (cases_lt j i)
