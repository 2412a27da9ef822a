use Rattle.std.proofs.Common.{◌≡◌, ℕ, ◌<◌, get_or}
use Rattle.hpe_base.specs.Sizes.{number_at}
use Rattle.hpe_base.specs.Rounds.{hard_bit}
use Rattle.hpe_turn.proofs.extrinsic.decide.Given as goal

abbrev pub invariant-loop-j : goal.invariant-loop-j
invariant-loop-j l = (k : ℕ) → k < l.j → get_or l.hard k 0 ≡ hard_bit (number_at l.soft k)
