-- Values within their ranges that break no rule are valid.
use Rattle.std.proofs.Common.{◌≡◌, sym, ◌∙◌, None, rules}
use Rattle.hpe_base.specs.Validity.{parameters_of, first_out_of_range, first_broken}
use Rattle.hpe_base.proofs.Validity.{is_valid, in_range, IsInRange-along}
use Rattle.hpe_base.proofs.profile.Profile.new.Goals as goal

pub invariant_of-result : goal.invariant_of-result
invariant_of-result c =
    let none : first_out_of_range c.args.fields.now ≡ None = search rules in
    let broken : first_broken c.of-values.result ≡ None = sym c.first_broken.ensures ∙ c.in-None.is in
    is_valid c.of-values.result (IsInRange-along c.of-values.result (parameters_of c.args.fields.now) c.of-values.ensures (in_range c.args.fields.now none)) broken
