use Rattle.std.proofs.Common.{refl, inr, sym, ◌∙◌}
use Rattle.std.proofs.lemmas.Bool.{false≢true}
use Rattle.hpe_profile.proofs.Tables.{table_read, table_refused}
use Rattle.hpe_profile.proofs.read.table_of.Goals as goal

pub returns-in-Ok-clause-ok : goal.returns-in-Ok-clause-ok
returns-in-Ok-clause-ok c = table_read c.args.text.now _ c.in-Ok.ensures.ok.0 c.in-Ok.ensures.ok.1

pub returns-else-is_memory-clause-refused : goal.returns-else-is_memory-clause-refused
returns-else-is_memory-clause-refused c =
    inr (
      refl,
      table_refused c.args.text.now (c.in-Err.ensures.refused
          (λ memory. false≢true (sym c.if-is_memory.false ∙ c.is_memory.ensures.1 memory))),
    )
