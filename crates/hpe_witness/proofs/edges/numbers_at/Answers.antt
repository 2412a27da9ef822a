use Rattle.std.proofs.Common.{rules, arith, ◌≡◌, ◌+◌, ◌%◌, ℕ, List, [], Bool, length, get_or, refl}
use Rattle.hpe_base.specs.Parameters.{flags_set}
use Rattle.hpe_trellis.specs.OuterTrellis.{kept_before, width}
use Rattle.hpe_trellis.proofs.KeptBits.{kept_total}
use Rattle.hpe_trellis.proofs.Recursion.{width_at, step_is, before_next}
use Rattle.hpe_witness.proofs.edges.numbers_at.Goals as goal

pub step_numbers-requires-clause-room : goal.step_numbers-requires-clause-room
step_numbers-requires-clause-room c =
    let columns : List (List Bool) = c.args.columns.now in
    let t : ℕ = c.args.t in
    let place : ℕ = t % length columns in
    let at : c.kept_length.result ≡ kept_before columns t = kept_total columns t c.kept_length.result c.kept_length.ensures in
    let three : length (get_or columns place []) ≡ 3 = search rules in
    let w : flags_set (get_or columns place []) ≡ width columns t = width_at columns t place refl three in
    let n : kept_before columns (t + 1) ≡ kept_before columns t + width columns t = before_next columns t in
    omega (arith, c.requires.room)

pub returns-clause-edge : goal.returns-clause-edge
returns-clause-edge c =
    let columns : List (List Bool) = c.args.columns.now in
    step_is columns c.args.l.now c.args.t (c.args.t % length columns) c.kept_length.result c.step_numbers.result refl (kept_total columns c.args.t c.kept_length.result c.kept_length.ensures) c.step_numbers.ensures.edge
