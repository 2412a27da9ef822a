-- The check of equal lists answers the same.
use Rattle.std.proofs.Common.{◌≡◌, ℕ, ℤ, List, Bool, subst}
use Rattle.std.specs.declared.result.Result.{Result}
use Rattle.hpe_witness.specs.declared.check.PathFault.{PathFault}
use Rattle.hpe_witness.specs.PathCheck.{IsPathAnswer}

pub answer-same : (a columns : List (List Bool)) (b l : List ℤ) (d u : List ℕ) (e rows : List (List ℤ)) (r : Result ℤ PathFault) → a ≡ columns → b ≡ l → d ≡ u → e ≡ rows → IsPathAnswer a b d e r → IsPathAnswer columns l u rows r
answer-same a columns b l d u e rows r p q s t h =
    subst (λ x. IsPathAnswer x l u rows r) p (subst (λ x. IsPathAnswer a x u rows r) q (subst (λ x. IsPathAnswer a b x rows r) s (subst (λ x. IsPathAnswer a b d x r) t h)))
