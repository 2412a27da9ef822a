use Rattle.std.proofs.Common.{◌≡◌, ◌+◌, ◌<◌, ◌≤◌, ℕ, get_or}
use Rattle.hpe_find.proofs.search.add_sums.Given as goal

abbrev pub invariant-loop-k : goal.invariant-loop-k
invariant-loop-k l = record {
  done : (k : ℕ) → k < l.k → get_or l.scores k 0 ≡ get_or l.initial.scores k 0 + get_or l.sums (l.place + k) 0;
  rest : (k : ℕ) → l.k ≤ k → get_or l.scores k 0 ≡ get_or l.initial.scores k 0;
}
