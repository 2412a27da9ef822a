use Rattle.std.proofs.Common.{ap}
use Rattle.hpe_cmd.proofs.ActCases.{acts_grow, acts_take}
use Rattle.hpe_cmd.proofs.run.follow.Goals as goal

pub returns-clause-taken : goal.returns-clause-taken
returns-clause-taken g c =
    acts_take _ _ _ _ _ _ _ _ _ c.in-Ok.ensures.limit.1 c.act.ensures.ok c.act.ensures.err
    (λ e same. ap g.I.Source.left same.1)

pub returns-clause-grows : goal.returns-clause-grows
returns-clause-grows g c =
    acts_grow _ _ _ _ _ _ _ _ _ c.act.ensures.ok c.act.ensures.err (λ e same. ap g.O.Sink.written same.2)
