use Rattle.std.proofs.Common.{◌≡◌, ℕ, ◌+◌, ◌<◌, ◌∷◌, [], get_or}
use Rattle.hpe_base.specs.Parameters.{symbol_bits}
use Rattle.hpe_inner.specs.Sweeps.{IsForwardRow}
use Rattle.hpe_inner.proofs.forward.window_rows.Given as goal

abbrev pub invariant-loop-i : goal.invariant-loop-i
invariant-loop-i g l = record {
  now : IsForwardRow (symbol_bits l.fn.word.order) (l.fn.span.start + l.i) l.fn.word.counts.now l.fn.word.l.now (l.even ∷ l.odd ∷ []);
  rows : (j : ℕ) → j < l.i → IsForwardRow (symbol_bits l.fn.word.order) (l.fn.span.start + j) l.fn.word.counts.now l.fn.word.l.now (get_or l.rows j []);
  cost : l.steps ≡ l.initial.steps + l.i;
}
