use Rattle.std.proofs.Common.{◌≡◌, ℕ, ◌+◌, ◌*◌, ◌<◌, ◌∷◌, [], get_or}
use Rattle.hpe_base.specs.Parameters.{symbol_bits}
use Rattle.hpe_inner.specs.Sweeps.{AreEdgesKept, IsForwardRow}
use Rattle.hpe_inner.proofs.forward.forward_sweep.Given as goal

abbrev pub invariant-loop-t : goal.invariant-loop-t
invariant-loop-t g l = record {
  now : IsForwardRow (symbol_bits l.fn.word.order) l.t l.fn.word.counts.now l.fn.word.l.now (l.even ∷ l.odd ∷ []);
  kept : (w : ℕ) → 64 * w < l.t → IsForwardRow (symbol_bits l.fn.word.order) (64 * w) l.fn.word.counts.now l.fn.word.l.now (get_or l.kept w []);
  edges : AreEdgesKept (symbol_bits l.fn.word.order) 0 l.t l.fn.word.counts.now l.fn.word.l.now l.out;
  cost : l.steps ≡ l.initial.steps + l.t;
}
