use Rattle.std.proofs.Common.{◌≡◌, ◌+◌, ◌*◌}
use Rattle.hpe_base.specs.Sizes.{AllWithin}
use Rattle.hpe_turn.specs.Stages.{round_stages}
use Rattle.hpe_turn.proofs.FirstRight.{HasGone}
use Rattle.hpe_turn.proofs.rounds.Rounds.decode.Given as goal

abbrev pub invariant-loop-before : goal.invariant-loop-before
invariant-loop-before g l = record {
  profile : l.self.profile ≡ l.fn.self.profile;
  gone : HasGone l.fn.self.profile l.counts l.before l.self.numbers.items;
  small : AllWithin 16383 l.self.numbers.items;
  block : l.block ≡ l.fn.block;
  cost : l.steps ≡ l.fn.steps + l.before * round_stages l.fn.self.profile;
}
