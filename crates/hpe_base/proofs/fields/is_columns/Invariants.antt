-- Each character so far is right.
use Rattle.std.proofs.Common.{◌≡◌, ◌<◌, ℕ, true}
use Rattle.hpe_base.specs.Validity.{is_column_character}
use Rattle.hpe_base.proofs.fields.is_columns.Given as goal

abbrev pub invariant-loop-place : goal.invariant-loop-place
invariant-loop-place l = (k : ℕ) → k < l.place → is_column_character l.text k ≡ true
