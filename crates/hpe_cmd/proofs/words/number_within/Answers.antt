use Rattle.hpe_cmd.proofs.Numbers.{number_taken, number_none}
use Rattle.hpe_cmd.proofs.words.number_within.Goals as goal

pub returns-then-number-high-clause-value : goal.returns-then-number-high-clause-value
returns-then-number-high-clause-value c =
    let read = c.in-Ok.ensures.value.0 in
    number_taken c.args.low c.args.high c.in-Ok.number c.args.text.now read.0.0 read.1
    c.if-low-number.true c.if-number-high.true

pub returns-in-Err-clause-value : goal.returns-in-Err-clause-value
returns-in-Err-clause-value c =
    number_none c.args.low c.args.high c.args.text.now c.ranges.high.fits c.in-Err.ensures.value.0
