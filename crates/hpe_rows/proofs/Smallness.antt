-- The sums of rows are cut.
use Rattle.std.proofs.Common.{Bool, true, false, ◌≡◌, ◌+◌, ◌-◌, ◌≤◌, ◌++◌, [], ◌∷◌, ℕ, List, All, IsTrue, length, subst, arith, rules, refl}
use Rattle.std.proofs.lemmas.List.{get_or_push, length_push}
use Rattle.hpe_base.specs.Parameters.{Parameters, IsValid, clamp}
use Rattle.hpe_rows.specs.Rows.{rows_of, placed_rows, row_if}
use Rattle.hpe_base.proofs.Tabulated.{All-tabulate}
use Rattle.hpe_base.proofs.Channels.{deinterleaved_all}
use Rattle.hpe_base.proofs.SymbolSums.{sums-small}

rows-small : (p : Parameters) (seen : List ℕ) → All (λ row. All (λ s. s ≤ clamp) row) (rows_of p seen)
unfolding rows_of
rows-small p seen = All-tabulate (λ row. All (λ s. s ≤ clamp) row) _ _ (λ t. sums-small p seen _)

-- a row that has come
pub row-small : (p : Parameters) (seen more row : List ℕ) (came : Bool) → IsValid p → placed_rows p more ≡ placed_rows p seen ++ row_if came row → IsTrue came → All (λ s. s ≤ clamp) row
row-small p seen more row false v e t = absurd (search rules)
row-small p seen more row true v e t =
    let all : All (λ r. All (λ s. s ≤ clamp) r) (placed_rows p seen ++ row ∷ []) =
    subst (λ (rs : List (List ℕ)). All (λ r. All (λ s. s ≤ clamp) r) rs) e (deinterleaved_all p (λ r. All (λ s. s ≤ clamp) r) (rows_of p more) v.range.rows_low (rows-small p more)) in
    let long : length (placed_rows p seen ++ row ∷ []) ≡ length (placed_rows p seen) + 1 = length_push (placed_rows p seen) row in
    subst (λ (r : List ℕ). All (λ s. s ≤ clamp) r) (get_or_push (placed_rows p seen) row [] (length (placed_rows p seen)) refl) (all (length (placed_rows p seen)) [] (omega arith))
