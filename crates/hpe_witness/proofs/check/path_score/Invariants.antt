use Rattle.std.proofs.Common.{◌≡◌, take}
use Rattle.hpe_base.specs.Termination.{terminated}
use Rattle.hpe_base.specs.Trellis.{walk, ends}
use Rattle.hpe_lane.specs.OuterStage.{outer_next}
use Rattle.hpe_trellis.specs.OuterTrellis.{outer_edge}
use Rattle.hpe_witness.proofs.check.path_score.Given as goal

abbrev pub invariant-loop-t : goal.invariant-loop-t
invariant-loop-t l = record {
  state : l.state ≡ ends outer_next 0 (take l.t (terminated l.u));
  score : l.score ≡ walk (outer_edge l.columns l.l) outer_next 0 0 (take l.t (terminated l.u));
}
