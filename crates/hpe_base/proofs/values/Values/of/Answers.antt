-- Each conversion holds by the range of its field.
use Rattle.std.proofs.Common.{arith, rules}
use Rattle.hpe_base.specs.Validity.{parameters_of}
use Rattle.hpe_base.proofs.Validity.{in_range, IsInRange-along, order-some, rate-some, columns-right, marker-right}
use Rattle.hpe_base.proofs.values.Values.of.Goals as goal

pub unwrap-requires : goal.unwrap-requires
unwrap-requires c = grind (arith, order-some c.args.fields.now c.requires)

pub unwrap-requires-2 : goal.unwrap-requires-2
unwrap-requires-2 c = grind (arith, rate-some c.args.fields.now c.requires)

pub overflow_cast-result : goal.overflow_cast-result
overflow_cast-result c = omega (arith, (in_range c.args.fields.now c.requires).frame_marker_high)

pub overflow_cast-result-2 : goal.overflow_cast-result-2
overflow_cast-result-2 c = omega (arith, (in_range c.args.fields.now c.requires).taps_high)

pub overflow_cast-result-3 : goal.overflow_cast-result-3
overflow_cast-result-3 c = omega (arith, (in_range c.args.fields.now c.requires).seed_high)

pub overflow_cast-result-4 : goal.overflow_cast-result-4
overflow_cast-result-4 c = omega (arith, (in_range c.args.fields.now c.requires).check_high)

pub columns_of-requires : goal.columns_of-requires
columns_of-requires c = grind (arith, columns-right c.args.fields.now c.requires)

pub marker_of-requires : goal.marker_of-requires
marker_of-requires c = grind (arith, marker-right c.args.fields.now c.requires)

pub overflow_cast-result-5 : goal.overflow_cast-result-5
overflow_cast-result-5 c = omega (arith, (in_range c.args.fields.now c.requires).rounds_high)

pub invariant_of-result : goal.invariant_of-result
invariant_of-result c = IsInRange-along _ (parameters_of c.args.fields.now) (search rules) (in_range c.args.fields.now c.requires)

pub overflow_cast-result-6 : goal.overflow_cast-result-6
overflow_cast-result-6 c = omega (arith, (in_range c.args.fields.now c.requires).scale_high)
