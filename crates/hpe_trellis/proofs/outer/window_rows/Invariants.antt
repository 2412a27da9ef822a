use Rattle.std.proofs.Common.{◌≡◌, ℕ, ◌+◌, ◌%◌, ◌<◌, [], length, get_or}
use Rattle.hpe_trellis.specs.OuterTrellis.{kept_before, OuterFore}
use Rattle.hpe_trellis.proofs.outer.window_rows.Given as goal

abbrev pub invariant-loop-i : goal.invariant-loop-i
invariant-loop-i g l = record {
  now : OuterFore (l.start + l.i) l.fn.word.columns.now l.fn.word.l.now l.row;
  rows : (j : ℕ) → j < l.i → OuterFore (l.start + j) l.fn.word.columns.now l.fn.word.l.now (get_or l.rows j []);
  place : l.place ≡ (l.start + l.i) % length l.fn.word.columns.now;
  at : l.at ≡ kept_before l.fn.word.columns.now (l.start + l.i);
  cost : l.steps ≡ l.initial.steps + l.i;
}
