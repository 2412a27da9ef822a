-- The verdict on all characters, from those at each place.
use Rattle.std.proofs.Common.{sym, arith, length, ◌∙◌}
use Rattle.std.proofs.lemmas.Grind.{common_steps}
use Rattle.hpe_base.proofs.EachPlace.{list_all-range_with_len, list_all_not-range_with_len}
use Rattle.hpe_base.specs.Validity.{is_column_character}
use Rattle.hpe_base.proofs.fields.is_columns.Goals as goal

pub returns-then-not-is_column_character : goal.returns-then-not-is_column_character
returns-then-not-is_column_character c =
    let e = list_all_not-range_with_len (is_column_character c.as_bytes-text.result.now) (length c.as_bytes-text.result.now) c.loop-place.place c.loop-place-test.true (sym c.is_column_character.ensures ∙ c.if-not-is_column_character.true) in
    grind (arith, common_steps, e)

pub returns : goal.returns
returns c =
    let e = list_all-range_with_len (is_column_character c.as_bytes-text.result.now) (length c.as_bytes-text.result.now) (λ k b. c.loop-place.invariant k (omega arith)) in
    grind (arith, common_steps, e)
