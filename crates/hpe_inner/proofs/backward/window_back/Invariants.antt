use Rattle.std.proofs.Common.{◌≡◌, ℕ, ◌+◌, ◌-◌, ◌*◌, ◌<◌, ◌≤◌, ◌∷◌, []}
use Rattle.hpe_base.specs.Sizes.{number_at}
use Rattle.hpe_base.specs.Parameters.{symbol_bits}
use Rattle.hpe_inner.specs.Sweeps.{BackRow, IsSoftAt}
use Rattle.hpe_inner.proofs.backward.window_back.Given as goal

abbrev pub invariant-loop-k : goal.invariant-loop-k
invariant-loop-k g l = record {
  back : BackRow (symbol_bits l.fn.word.order) (l.fn.span.start + l.fn.span.count - l.k) (l.fn.word.symbols - (l.fn.span.start + l.fn.span.count) + l.k) l.fn.word.counts.now l.fn.word.l.now (l.even ∷ l.odd ∷ []);
  soft : (t i : ℕ) → l.fn.span.start + l.fn.span.count ≤ t + l.k → t < l.fn.span.start + l.fn.span.count → i < symbol_bits l.fn.word.order → IsSoftAt l.fn.word.order l.fn.word.counts.now l.fn.word.l.now (t * symbol_bits l.fn.word.order + i) (number_at l.out (t * symbol_bits l.fn.word.order + i));
  others : (t i : ℕ) → l.fn.span.start + l.fn.span.count ≤ t → t < l.fn.word.symbols → i < symbol_bits l.fn.word.order → number_at l.out (t * symbol_bits l.fn.word.order + i) ≡ number_at l.initial.out (t * symbol_bits l.fn.word.order + i);
  before : (t i : ℕ) → t + l.k < l.fn.span.start + l.fn.span.count → i < symbol_bits l.fn.word.order → number_at l.out (t * symbol_bits l.fn.word.order + i) ≡ number_at l.initial.out (t * symbol_bits l.fn.word.order + i);
  cost : l.steps ≡ l.initial.steps + l.k;
}
