use Rattle.std.proofs.Common.{rules, ◌≡◌, ◌+◌, ℤ, pos, List, length}
use Rattle.hpe_base.specs.PathScores.{outer_score}
use Rattle.hpe_lane.proofs.OuterFits.{kept_z}
use Rattle.hpe_witness.specs.Potentials.{potential}
use Rattle.hpe_trellis.proofs.KeptBits.{kept_total}
use Rattle.hpe_witness.proofs.Potentials.{best-score}
use Rattle.hpe_witness.proofs.check.check_path.Goals as goal

pub rises_throughout-requires-clause-l : goal.rises_throughout-requires-clause-l
rises_throughout-requires-clause-l c = kept_total c.args.columns.now (length c.args.u.now + 2) (length c.args.l.now) c.requires.l

pub path_score-score-requires-clause-l : goal.path_score-score-requires-clause-l
path_score-score-requires-clause-l c = kept_total c.args.columns.now (length c.args.u.now + 2) (length c.args.l.now) c.requires.l

pub returns-clause-best : goal.returns-clause-best
returns-clause-best c =
    let b : ℤ = kept_z c.path_score-score.result in
    let rows : List (List ℤ) = c.args.rows.now in
    let start : potential rows 0 0 ≡ pos 0 = search rules in
    let score : outer_score c.args.columns.now c.args.l.now c.args.u.now ≡ b = search rules in
    let end : potential rows (length c.args.u.now + 2) 0 ≡ b = search rules in
    best-score c.args.columns.now c.args.l.now c.args.u.now rows b start (c.rises_throughout.ensures.rises c.if-not-rises_throughout.false) score end
