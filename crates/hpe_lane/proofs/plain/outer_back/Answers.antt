use Rattle.std.proofs.Common.{arith, ℤ, ◌+ℤ◌, sym, ap}
use Rattle.hpe_base.specs.Sizes.{number_at}
use Rattle.hpe_lane.proofs.OuterFits.{after_edge, afters_within}
use Rattle.hpe_lane.proofs.OuterEdges.{back_top}
use Rattle.hpe_lane.proofs.Soft.{IsSoft-score}
use Rattle.hpe_lane.proofs.plain.outer_back.Goals as goal

pub greater_of-row-requires-clause-zero : goal.greater_of-row-requires-clause-zero
greater_of-row-requires-clause-zero g c = afters_within c.args.l c.args.back c.afters.result.0 0 (omega arith) c.requires.l c.requires.back c.afters.ensures.zero

pub greater_of-row-requires-clause-one : goal.greater_of-row-requires-clause-one
greater_of-row-requires-clause-one g c = afters_within c.args.l c.args.back c.afters.result.1 1 (omega arith) c.requires.l c.requires.back c.afters.ensures.one

pub soft_values-soft-requires-clause-zero : goal.soft_values-soft-requires-clause-zero
soft_values-soft-requires-clause-zero g c = afters_within c.args.l c.args.back c.afters.result.0 0 (omega arith) c.requires.l c.requires.back c.afters.ensures.zero

pub soft_values-soft-requires-clause-one : goal.soft_values-soft-requires-clause-one
soft_values-soft-requires-clause-one g c = afters_within c.args.l c.args.back c.afters.result.1 1 (omega arith) c.requires.l c.requires.back c.afters.ensures.one

pub returns-clause-row : goal.returns-clause-row
returns-clause-row g c = λ p h.
    back_top c.args.l c.args.back p (number_at c.greater_of-row.result p) (number_at c.afters.result.0 p) (number_at c.afters.result.1 p) (c.afters.ensures.zero p h) (c.afters.ensures.one p h) (c.greater_of-row.ensures p h)

pub returns-clause-soft : goal.returns-clause-soft
returns-clause-soft g c = λ k h.
    IsSoft-score (λ e p. ap (λ (y : ℤ). number_at c.args.fore e.0 +ℤ y) (sym (after_edge c.args.l c.args.back c.afters.result.0 c.afters.result.1 c.afters.ensures.zero c.afters.ensures.one e.0 e.1 p.0 p.1))) (c.soft_values-soft.ensures k h)
