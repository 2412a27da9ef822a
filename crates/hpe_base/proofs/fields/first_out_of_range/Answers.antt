-- Each test is its range.
use Rattle.std.proofs.Common.{◌≡◌, refl, ◌∙◌, ap, is_some}
use Rattle.hpe_base.specs.Validity.{order_of, rate_of}
use Rattle.hpe_base.proofs.fields.first_out_of_range.Goals as goal

pub returns : goal.returns
returns c =
    let order : c.is_some.result ≡ is_some (order_of c.args.fields.now.order) = c.is_some.ensures ∙ ap is_some c.from_number.ensures in
    let rate : c.is_some-2.result ≡ is_some (rate_of c.args.fields.now.rate.now) = c.is_some-2.ensures ∙ ap is_some c.from_text.ensures in
    c.first_failing.ensures ∙ rw (
      order,
      rate,
      c.is_within.ensures,
      c.is_within-2.ensures,
      c.is_within-3.ensures,
      c.is_within-4.ensures,
      c.is_check.ensures,
      c.is_columns.ensures,
      c.is_within-5.ensures,
      c.is_within-6.ensures,
      c.is_marker.ensures,
      c.is_within-7.ensures,
      c.is_within-8.ensures,
      c.is_within-9.ensures,
      c.is_within-10.ensures,
      c.is_within-11.ensures,
    ) refl
