use Rattle.std.proofs.Common.{ap₂, ◌∙◌, ◌+◌, ◌*◌, ◌%◌, ℤ, ◌+ℤ◌}
use Rattle.std.specs.Int.{int_max}
use Rattle.hpe_base.specs.Sizes.{number_at}
use Rattle.hpe_lane.proofs.outer.forward_row.Goals as goal

pub returns : goal.returns
returns c = λ q h.
    c.forward_eight.ensures q h
    ∙ ap₂ (λ (x y : ℤ). int_max (number_at c.args.row (2 * (q % 2)) +ℤ x) (number_at c.args.row (2 * (q % 2) + 1) +ℤ y)) (c.edges_to-edges.ensures.even q h) (c.edges_to-edges.ensures.odd q h)
