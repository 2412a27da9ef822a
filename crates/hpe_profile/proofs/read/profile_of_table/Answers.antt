use Rattle.std.proofs.Common.{◌≡◌, ◌∙◌, sym, inl, inr, true, false}
use Rattle.toml.specs.View.{table_view}
use Rattle.hpe_profile.specs.ProfileText.{knows_all}
use Rattle.hpe_profile.proofs.Tables.{knows_entries, unknown_table, refused_table, whole_table}
use Rattle.hpe_profile.proofs.read.profile_of_table.Goals as goal

pub returns-else-knows_all : goal.returns-else-knows_all
returns-else-knows_all c =
    let unknown : knows_all (table_view c.args.table.now) ≡ false =
    sym (knows_entries c.args.table.now.entries) ∙ sym c.knows_all.ensures ∙ c.if-knows_all.false in
    inl (sym (unknown_table (table_view c.args.table.now) unknown))

pub returns-in-Some : goal.returns-in-Some
returns-in-Some c =
    let known : knows_all (table_view c.args.table.now) ≡ true =
    sym (knows_entries c.args.table.now.entries) ∙ sym c.knows_all.ensures ∙ c.if-knows_all.true in
    inl (sym (refused_table (table_view c.args.table.now) c.in-Some.fault known
    (sym c.first_refusal.ensures ∙ c.in-Some.is)))

pub returns-in-None : goal.returns-in-None
returns-in-None c =
    let known : knows_all (table_view c.args.table.now) ≡ true =
    sym (knows_entries c.args.table.now.entries) ∙ sym c.knows_all.ensures ∙ c.if-knows_all.true in
    elim c.profile_in.ensures [
      | inl is ↦
          inl (is ∙ sym (whole_table (table_view c.args.table.now) known (sym c.first_refusal.ensures ∙ c.in-None.is)))
      | inr memory ↦ inr memory
    ]
