use Rattle.std.proofs.Common.{◌≡◌, ℕ, ◌-◌, ◌^◌, ◌<◌, drop, length}
use Rattle.hpe_base.specs.Sizes.{number_at}
use Rattle.hpe_lane.specs.Edges.{gray_from}
use Rattle.hpe_lane.proofs.plain.gray_scores.Given as goal

abbrev pub invariant-loop-k : goal.invariant-loop-k
invariant-loop-k l = record {
  half : l.half ≡ 2 ^ l.k;
  done : (v : ℕ) → v < l.half → number_at l.out v ≡ gray_from 0 (drop (length l.l - l.k) l.l) v;
}
