-- No key so far is refused.
use Rattle.std.proofs.Common.{◌≡◌, drop}
use Rattle.toml.specs.View.{table_view}
use Rattle.hpe_profile.specs.ProfileText.{first_refusal}
use Rattle.hpe_profile.proofs.keys.first_refusal.Given as goal

abbrev pub invariant-loop-key : goal.invariant-loop-key
invariant-loop-key l =
    first_refusal (table_view l.table) l.keys ≡ first_refusal (table_view l.table) (drop l.key-index l.keys)
