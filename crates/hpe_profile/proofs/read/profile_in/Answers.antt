use Rattle.std.proofs.Common.{◌∙◌, sym, ap, inl}
use Rattle.toml.specs.View.{table_view}
use Rattle.hpe_profile.specs.ProfileText.{with_cause, fields_in}
use Rattle.hpe_profile.proofs.ProfileAlike.{profile_alike}
use Rattle.hpe_profile.proofs.read.profile_in.Goals as goal

pub returns-in-Ok-new : goal.returns-in-Ok-new
returns-in-Ok-new c =
    let same =
    profile_alike c.fields_in-fields.result (fields_in (table_view c.args.table.now)) c.fields_in-fields.ensures in
    inl (sym (ap with_cause (sym same ∙ sym c.new.ensures ∙ c.in-Ok-new.is)))

pub returns : goal.returns
returns c =
    let same =
    profile_alike c.fields_in-fields.result (fields_in (table_view c.args.table.now)) c.fields_in-fields.ensures in
    inl (sym (ap with_cause (sym same ∙ sym c.new.ensures ∙ c.in-Err.is)))
