use Rattle.std.proofs.Common.{◌≡◌, ◌≤◌, ◌<◌, ◌+◌, ◌++◌, ℕ, List, length, get_or}
use Rattle.hpe_witness.specs.PathMetrics.{survivor_at, traced}
use Rattle.hpe_witness.proofs.best.trace_back.Given as goal

abbrev pub invariant-loop-t : goal.invariant-loop-t
invariant-loop-t l = record {
  low : l.state < 4;
  rest : (r : List ℕ) × (traced (survivor_at l.columns l.l) (length l.fn.u + 2) 0 ≡ traced (survivor_at l.columns l.l) l.t l.state ++ r);
  written : (j : ℕ) → l.t ≤ j → j < length l.fn.u → get_or l.u j 0 ≡ get_or (traced (survivor_at l.columns l.l) (length l.fn.u + 2) 0) j 0;
}
