use Rattle.hpe_base.specs.Sizes.{number_at}
use Rattle.hpe_lane.proofs.OuterFits.{gap_fits, gap_is}
use Rattle.hpe_lane.proofs.plain.difference.Goals as goal

pub overflow_sub-result : goal.overflow_sub-result
overflow_sub-result c =
    gap_fits (number_at c.args.fore) (number_at c.args.one) (number_at c.args.zero) c.requires.fore c.requires.one c.requires.zero c.greatest_sum.result c.greatest_sum-2.result c.greatest_sum.ensures c.greatest_sum-2.ensures

pub returns : goal.returns
returns c =
    gap_is (number_at c.args.fore) (number_at c.args.one) (number_at c.args.zero) c.requires.fore c.requires.one c.requires.zero c.greatest_sum.result c.greatest_sum-2.result c.greatest_sum.ensures c.greatest_sum-2.ensures
