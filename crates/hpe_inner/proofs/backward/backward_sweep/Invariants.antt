use Rattle.std.proofs.Common.{◌≡◌, ℕ, ◌+◌, ◌-◌, ◌*◌, ◌<◌, ◌≤◌, ◌∷◌, [], length}
use Rattle.hpe_base.specs.Sizes.{number_at}
use Rattle.hpe_base.specs.Parameters.{symbol_bits}
use Rattle.hpe_lane.specs.Windows.{windows_end}
use Rattle.hpe_inner.specs.Sweeps.{AreEdgesKept, BackRow, IsSoftAt}
use Rattle.hpe_inner.proofs.backward.backward_sweep.Given as goal

abbrev pub invariant-loop-k : goal.invariant-loop-k
invariant-loop-k g l = record {
  back : BackRow (symbol_bits l.fn.word.order) (windows_end l.fn.word.symbols (length l.kept - l.k)) (l.fn.word.symbols - windows_end l.fn.word.symbols (length l.kept - l.k)) l.fn.word.counts.now l.fn.word.l.now (l.even ∷ l.odd ∷ []);
  soft : (t i : ℕ) → windows_end l.fn.word.symbols (length l.kept - l.k) ≤ t → t < l.fn.word.symbols → i < symbol_bits l.fn.word.order → IsSoftAt l.fn.word.order l.fn.word.counts.now l.fn.word.l.now (t * symbol_bits l.fn.word.order + i) (number_at l.out (t * symbol_bits l.fn.word.order + i));
  edges : AreEdgesKept (symbol_bits l.fn.word.order) 0 (windows_end l.fn.word.symbols (length l.kept - l.k)) l.fn.word.counts.now l.fn.word.l.now l.out;
  cost : l.steps ≡ l.initial.steps + 2 * (l.fn.word.symbols - windows_end l.fn.word.symbols (length l.kept - l.k));
}
