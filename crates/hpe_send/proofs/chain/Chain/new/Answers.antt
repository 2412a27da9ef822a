use Rattle.hpe_send.proofs.Chained.{taken_none}
use Rattle.hpe_send.proofs.chain.Chain.new.Goals as goal

pub returns-clause-stands : goal.returns-clause-stands
returns-clause-stands c = λ start. taken_none _ start c.in-Ok.ensures.stands c.in_ok-slicer.ensures.stands (c.in_ok-coder.ensures.stands start)
