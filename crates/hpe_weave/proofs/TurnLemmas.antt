-- Lemmas on turns.
use Rattle.std.proofs.Common.{◌≡◌, ◌≢◌, ◌<◌, ◌≤◌, ◌+◌, ◌*◌, ◌/◌, ◌%◌, ℕ, List, [], ◌∷◌, ◌++◌, length, get_or, refl, ap, sym, ◌∙◌, arith, zero, suc, inl, inr, add-one}
use Rattle.std.proofs.lemmas.Bool.{cases_eq, cases_order}
use Rattle.std.proofs.lemmas.Bool.Decides.{nat_tests}
use Rattle.std.proofs.lemmas.Nat.{div-add-mod', mod-mul-add, mul-le, mod_below}
use Rattle.std.proofs.lemmas.List.{length_push, get_or_append_left, get_or_push}
use Rattle.hpe_base.specs.Lists.{tabulate}
use Rattle.hpe_base.proofs.Tabulated.{tabulate-more, tabulate-same}
use Rattle.hpe_weave.specs.Turns.{turns, on_row}

-- the turns place by place
turns-none : (rows i : ℕ) → turns rows zero i ≡ 0
unfolding turns
turns-none rows i = refl

turns-same_suc : (rows c i : ℕ) → c % rows ≢ i → turns rows (suc c) i ≡ turns rows c i
unfolding turns
turns-same_suc rows c i h = grind (arith, nat_tests)

turns-more_suc : (rows c i : ℕ) → c % rows ≡ i → turns rows (suc c) i ≡ turns rows c i + 1
unfolding turns
turns-more_suc rows c i h = grind (arith, nat_tests)

-- a push on another row
pub turns-same : (rows c i : ℕ) → c % rows ≢ i → turns rows (c + 1) i ≡ turns rows c i
turns-same rows c i h = rw (add-one c) (turns-same_suc rows c i h)

-- a push on the row
pub turns-more : (rows c i : ℕ) → c % rows ≡ i → turns rows (c + 1) i ≡ turns rows c i + 1
turns-more rows c i h = rw (add-one c) (turns-more_suc rows c i h)

-- t * rows is within one row of q * rows: they are the same
near : (rows t q : ℕ) → q * rows ≤ t * rows → t * rows < q * rows + rows → t ≡ q
near rows t q lo hi = elim (cases_order t q) [
  | inl same ↦ same
  | inr (inl less) ↦ absurd (omega (arith, mul-le (t + 1) rows q rows (omega arith) (omega arith)))
  | inr (inr more) ↦ absurd (omega (arith, mul-le (q + 1) rows t rows (omega arith) (omega arith)))
]

-- one turn further
pub next-row : (t rows : ℕ) → (t + 1) * rows ≡ t * rows + rows
next-row t rows = grind arith

-- the first place of row i that isn't below c is that of turn t
pub record IsNext (rows c i t : ℕ) : Type 0 where
  pub reached : c ≤ t * rows + i
  pub soon : t * rows + i < c + rows

-- the turns so far lead to the first place that is not yet reached
pub is_next-turns : (rows c i : ℕ) → i < rows → IsNext rows c i (turns rows c i)
is_next-turns rows zero i h = rw (turns-none rows i) (record { reached = omega arith; soon = omega arith })
is_next-turns rows (suc c) i h =
    let n : IsNext rows c i (turns rows c i) = is_next-turns rows c i h in
    let e : c / rows * rows + c % rows ≡ c = div-add-mod' c rows in
    elim (cases_eq (c % rows) i) [
      | inl same ↦
          let t : turns rows c i ≡ c / rows = near rows (turns rows c i) (c / rows) (omega arith) (omega arith) in
          let place : turns rows c i * rows + i ≡ c = rw t (omega arith) in
          let step : (turns rows c i + 1) * rows ≡ turns rows c i * rows + rows = next-row (turns rows c i) rows in
          rw (turns-more_suc rows c i same) (record { reached = omega arith; soon = omega arith })
      | inr other ↦
          let away : c ≢ turns rows c i * rows + i = λ q. other (ap (λ (k : ℕ). k % rows) q ∙ mod-mul-add (turns rows c i) rows i h) in
          rw (turns-same_suc rows c i other) (record { reached = omega arith; soon = omega arith })
    ]

-- on the row of place c the turns are the quotient
pub turns-now : (rows c : ℕ) → 0 < rows → turns rows c (c % rows) * rows + c % rows ≡ c
turns-now rows c pos =
    let n : IsNext rows c (c % rows) (turns rows c (c % rows)) = is_next-turns rows c (c % rows) (mod_below c rows pos) in
    let e : c / rows * rows + c % rows ≡ c = div-add-mod' c rows in
    let s : turns rows c (c % rows) ≡ c / rows = near rows (turns rows c (c % rows)) (c / rows) (omega arith) (omega arith) in
    rw s e

-- each turn so far has its place among the first c
pub turn_below : (rows c i j : ℕ) → i < rows → j < turns rows c i → j * rows + i < c
turn_below rows c i j h b =
    let n : IsNext rows c i (turns rows c i) = is_next-turns rows c i h in
    omega (arith, mul-le (j + 1) rows (turns rows c i) rows (omega arith) (omega arith))

-- the values of another row stay
pub on_row-same : (rows : ℕ) (s : List ℕ) (x i : ℕ) → i < rows → length s % rows ≢ i → on_row rows (s ++ x ∷ []) i ≡ on_row rows s i
on_row-same rows s x i h ne =
    ap (λ (n : ℕ). tabulate n (λ j. get_or (s ++ x ∷ []) (j * rows + i) 0)) (ap (λ (n : ℕ). turns rows n i) (length_push s x) ∙ turns-same rows (length s) i ne)
    ∙ tabulate-same (turns rows (length s) i) (λ j. get_or (s ++ x ∷ []) (j * rows + i) 0) (λ j. get_or s (j * rows + i) 0)
    (λ j b. get_or_append_left s (x ∷ []) 0 (j * rows + i) (turn_below rows (length s) i j h b))

-- the values of the row of a push gain the one that is pushed
pub on_row-more : (rows : ℕ) (s : List ℕ) (x i : ℕ) → i < rows → length s % rows ≡ i → on_row rows (s ++ x ∷ []) i ≡ on_row rows s i ++ x ∷ []
on_row-more rows s x i h e =
    let t = turns rows (length s) i in
    let f = λ (j : ℕ). get_or (s ++ x ∷ []) (j * rows + i) 0 in
    let place : turns rows (length s) i * rows + i ≡ length s = rw (← e) (turns-now rows (length s) (omega arith)) in
    let last : get_or (s ++ x ∷ []) (t * rows + i) 0 ≡ x = get_or_push s x 0 (t * rows + i) (sym place) in
    ap (λ (n : ℕ). tabulate n f) (ap (λ (n : ℕ). turns rows n i) (length_push s x) ∙ turns-more rows (length s) i e)
    ∙ tabulate-more t f
    ∙ ap (λ (v : ℕ). tabulate t f ++ v ∷ []) last
    ∙ ap (λ (l : List ℕ). l ++ x ∷ []) (tabulate-same t f (λ j. get_or s (j * rows + i) 0)
    (λ j b. get_or_append_left s (x ∷ []) 0 (j * rows + i) (turn_below rows (length s) i j h b)))
