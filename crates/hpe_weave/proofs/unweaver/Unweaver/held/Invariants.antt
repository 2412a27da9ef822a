use Rattle.std.proofs.Common.{◌≡◌, ◌≤◌, ◌*◌, ◌^◌, length, take, sum_by}
use Rattle.hpe_weave.proofs.unweaver.Unweaver.held.Given as goal

abbrev pub invariant-loop-ring : goal.invariant-loop-ring
invariant-loop-ring l = (l.sums ≡ sum_by (λ ring. length ring.items) (take l.ring-index l.self.rings)) × (l.sums ≤ l.ring-index * 2 ^ 26)
