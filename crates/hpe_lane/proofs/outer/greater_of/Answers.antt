use Rattle.std.proofs.Common.{arith, ◌≡◌, List, ◌∷◌, [], ℤ}
use Rattle.std.specs.Int.{int_max}
use Rattle.hpe_base.specs.Sizes.{number_at}
use Rattle.hpe_lane.proofs.OuterFits.{kept_z, greater_clean}
use Rattle.hpe_lane.proofs.OuterEdges.{at_four}
use Rattle.hpe_lane.proofs.outer.greater_of.Goals as goal

pub returns : goal.returns
returns c =
    let a : List ℤ = c.args.zero in
    let b : List ℤ = c.args.one in
    at_four (λ p. number_at (kept_z c.max.result ∷ kept_z c.max-2.result ∷ kept_z c.max-3.result ∷ kept_z c.max-4.result ∷ []) p ≡ int_max (number_at a p) (number_at b p))
    (greater_clean (number_at a 0) (number_at b 0) c.max.result (c.requires.zero 0 (omega arith)) (c.requires.one 0 (omega arith)) c.max.ensures.value)
    (greater_clean (number_at a 1) (number_at b 1) c.max-2.result (c.requires.zero 1 (omega arith)) (c.requires.one 1 (omega arith)) c.max-2.ensures.value)
    (greater_clean (number_at a 2) (number_at b 2) c.max-3.result (c.requires.zero 2 (omega arith)) (c.requires.one 2 (omega arith)) c.max-3.ensures.value)
    (greater_clean (number_at a 3) (number_at b 3) c.max-4.result (c.requires.zero 3 (omega arith)) (c.requires.one 3 (omega arith)) c.max-4.ensures.value)
