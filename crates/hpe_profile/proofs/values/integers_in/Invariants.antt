-- The numbers so far stand before those of the values that are left.
use Rattle.std.proofs.Common.{◌≡◌, ◌++◌, drop}
use Rattle.toml.specs.View.{items_view}
use Rattle.hpe_profile.specs.ProfileText.{integers_in}
use Rattle.hpe_profile.proofs.values.integers_in.Given as goal

abbrev pub invariant-loop-value : goal.invariant-loop-value
invariant-loop-value l =
    integers_in (items_view l.list.items)
    ≡ l.numbers.items ++ integers_in (items_view (drop l.value-index l.list.items))
