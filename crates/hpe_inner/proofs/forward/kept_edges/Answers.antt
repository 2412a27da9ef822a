use Rattle.std.proofs.Common.{◌≡◌, ℕ, zero, suc, ◌<◌, ℤ, List, [], ◌∷◌, get_or, pos, arith, rules, to_z, of_z, w32}
use Rattle.hpe_base.specs.Sizes.{number_at}
use Rattle.hpe_inner.proofs.forward.kept_edges.Goals as goal

four_places : (xs : List ℤ) (x y z w : ℤ) → x ≡ number_at xs 0 → y ≡ number_at xs 1 → z ≡ number_at xs 2 → w ≡ number_at xs 3 → (i : ℕ) → i < 4 → number_at (x ∷ y ∷ z ∷ w ∷ []) i ≡ number_at xs i
four_places xs x y z w a b c d zero h = a
four_places xs x y z w a b c d (suc zero) h = b
four_places xs x y z w a b c d (suc (suc zero)) h = c
four_places xs x y z w a b c d (suc (suc (suc zero))) h = d
four_places xs x y z w a b c d (suc (suc (suc (suc i)))) h = absurd (omega arith)

pub returns : goal.returns
returns c =
    let xs : List ℤ = c.args.places.now in
    let x : to_z w32 (of_z w32 (get_or xs 0 (pos 0))) ≡ number_at xs 0 = search rules in
    let y : to_z w32 (of_z w32 (get_or xs 1 (pos 0))) ≡ number_at xs 1 = search rules in
    let z : to_z w32 (of_z w32 (get_or xs 2 (pos 0))) ≡ number_at xs 2 = search rules in
    let w : to_z w32 (of_z w32 (get_or xs 3 (pos 0))) ≡ number_at xs 3 = search rules in
    four_places xs _ _ _ _ x y z w
