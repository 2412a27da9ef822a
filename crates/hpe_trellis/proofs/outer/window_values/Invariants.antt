use Rattle.std.proofs.Common.{◌≡◌, ◌+◌, ◌-◌, ◌%◌, length}
use Rattle.hpe_trellis.specs.OuterTrellis.{kept_before, OuterBack, SoftFrom}
use Rattle.hpe_trellis.proofs.outer.window_values.Given as goal

abbrev pub invariant-loop-k : goal.invariant-loop-k
invariant-loop-k g l = record {
  back : OuterBack (l.end - l.k) (length l.fn.info + 2 - (l.end - l.k)) l.fn.word.columns.now l.fn.word.l.now l.back;
  place : l.place ≡ (l.end - l.k) % length l.fn.word.columns.now;
  at : l.at ≡ kept_before l.fn.word.columns.now (l.end - l.k);
  soft : SoftFrom l.fn.word.columns.now l.fn.word.l.now (length l.fn.info) (l.end - l.k) l.info l.code;
  cost : l.steps ≡ l.initial.steps + l.k;
}
