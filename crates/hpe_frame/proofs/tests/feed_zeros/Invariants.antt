use Rattle.std.proofs.Common.{◌≡◌, ◌≤◌}
use Rattle.hpe_frame.proofs.tests.feed_zeros.Given as goal

abbrev pub invariant-loop : goal.invariant-loop
invariant-loop l = (l.frames ≤ l.counter) × (l.feed.parameters ≡ l.fn.feed.parameters)
