use Rattle.std.proofs.Common.{arith, pos, ◌+◌, ◌*◌, ◌/◌, ◌%◌}
use Rattle.hpe_base.proofs.Tabulated.{tabulate_from_places}
use Rattle.hpe_profile.proofs.values.default_marker.Goals as goal

pub returns : goal.returns
returns c =
    rw (← c.slots-slots.ensures)
    (tabulate_from_places 16 (λ i. pos (5 * i * (i + 1) / 2 % c.slots-slots.result)) c.loop-i.marker (pos 0)
    c.loop-i.invariant.0 (λ k b. c.loop-i.invariant.1 k (omega (arith, b, c.loop-i-test.false))))
