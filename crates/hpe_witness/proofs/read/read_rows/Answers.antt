use Rattle.std.proofs.Common.{arith, ◌≡◌, ◌<◌, ◌+◌, ◌*◌, [], length}
use Rattle.hpe_base.proofs.Tabulated.{tabulate_from_places}
use Rattle.hpe_witness.specs.Record.{row_at}
use Rattle.hpe_witness.proofs.ReadBack.{place-more}
use Rattle.hpe_witness.proofs.read.read_rows.Goals as goal

pub loop-t-preserved : goal.loop-t-preserved
loop-t-preserved c =
    let room : c.loop-t.t < length c.loop-t.rows = omega arith in
    place-more (λ t. row_at c.args.octets.now (c.args.from + 16 * t)) [] c.read_row.result c.loop-t.rows c.loop-t.t room c.loop-t.invariant c.read_row.ensures

pub returns : goal.returns
returns c =
    let long : length c.loop-t.rows ≡ length c.args.rows.now = omega arith in
    tabulate_from_places (length c.args.rows.now) (λ t. row_at c.args.octets.now (c.args.from + 16 * t)) c.loop-t.rows [] long (λ k lt. c.loop-t.invariant k (omega arith))
