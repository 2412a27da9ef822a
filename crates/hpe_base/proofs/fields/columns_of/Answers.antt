-- The columns of one group more.
use Rattle.std.proofs.Common.{lit<, List, [], ◌∷◌, ◌++◌, Bool, sym, arith, length, ap, ◌∙◌, ◌≤◌}
use Rattle.std.proofs.lemmas.Grind.{common_steps}
use Rattle.hpe_base.specs.Validity.{column_at}
use Rattle.hpe_base.proofs.Tabulated.{tabulate-none, tabulate-more, length-tabulate}
use Rattle.hpe_base.proofs.fields.columns_of.Goals as goal

pub push-requires : goal.push-requires
push-requires c =
    let text = c.as_bytes-text.result.now in
    let few : length text ≤ 47 = grind (arith, common_steps, c.requires) in
    (lit< tt, omega (arith, few, ap length c.loop-group.invariant, length-tabulate c.loop-group.group (column_at text)))

pub loop-group-init : goal.loop-group-init
loop-group-init c = c.new-columns.ensures ∙ sym (tabulate-none (column_at c.as_bytes-text.result.now))

pub loop-group-preserved : goal.loop-group-preserved
loop-group-preserved c =
    c.push.ensures.items ∙ (ap (λ (columns : List (List Bool)). columns ++ column_at c.as_bytes-text.result.now c.loop-group.group ∷ []) c.loop-group.invariant
    ∙ sym (tabulate-more c.loop-group.group (column_at c.as_bytes-text.result.now)))
