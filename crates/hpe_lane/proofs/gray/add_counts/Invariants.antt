use Rattle.std.proofs.Common.{◌≡◌, ℕ, ◌*◌, ◌<◌, ◌≤◌, ◌+ℤ◌, pos, get_or}
use Rattle.hpe_base.specs.Sizes.{number_at}
use Rattle.hpe_lane.proofs.gray.add_counts.Given as goal

abbrev pub invariant-loop-k : goal.invariant-loop-k
invariant-loop-k l = record {
  done : (v : ℕ) → v < 8 * l.k → number_at l.scores v ≡ pos (get_or l.counts v 0) +ℤ number_at l.initial.scores v;
  rest : (v : ℕ) → 8 * l.k ≤ v → number_at l.scores v ≡ number_at l.initial.scores v;
}

abbrev pub invariant-loop-v : goal.invariant-loop-v
invariant-loop-v l = record {
  done : (v : ℕ) → v < l.v → number_at l.scores v ≡ pos (get_or l.counts v 0) +ℤ number_at l.fn.scores v;
  rest : (v : ℕ) → l.v ≤ v → number_at l.scores v ≡ number_at l.fn.scores v;
}
