use Rattle.std.proofs.Common.{rules, arith, refl}
use Rattle.hpe_io.proofs.Taking.{come_more, come_end, stopped_past}
use Rattle.hpe_io.proofs.intake.Intake.next.Goals as goal

pub returns-then-self-2-clause-stopped : goal.returns-then-self-2-clause-stopped
returns-then-self-2-clause-stopped g c = rw (← c.self.view_is) (λ start octets h low.
    stopped_past _ _ start _ _ octets c.in-Ok.count _ _ h c.in-Ok.ensures.bytes refl (omega (arith, c.in-Ok.ensures.asked)))

pub returns-clause-come : goal.returns-clause-come
returns-clause-come g c = rw (← c.self.view_is) (λ start octets h.
    come_more _ _ start _ _ octets c.in-Ok.count _ _ _ _ h c.in-Ok.ensures.bytes refl (omega (arith, c.in-Ok.ensures.asked)))

pub returns-clause-ended : goal.returns-clause-ended
returns-clause-ended g c = rw (← c.self.view_is) (λ start octets h none.
    come_end _ _ start _ _ octets c.in-Ok.count _ _ h c.in-Ok.ensures.bytes refl (search rules))
