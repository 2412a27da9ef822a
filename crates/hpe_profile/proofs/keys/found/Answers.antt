use Rattle.toml.proofs.Views.{table_get}
use Rattle.hpe_profile.proofs.keys.found.Goals as goal

pub returns : goal.returns
returns c =
    rw (← c.key_name.ensures.text)
    (table_get c.get.result c.key_name.result.now c.args.table.now.entries c.get.ensures.value)
