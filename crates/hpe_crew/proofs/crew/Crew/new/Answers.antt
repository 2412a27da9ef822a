use Rattle.std.proofs.Common.{rules, ◌≡◌}
use Rattle.std.proofs.lemmas.List.Elements.{All-push}
use Rattle.hpe_crew.specs.Working.{Working}
use Rattle.hpe_crew.proofs.crew.Crew.new.Goals as goal

pub loop-preserved : goal.loop-preserved
loop-preserved c = (
  search rules,
  rw (c.in-Ok-push.ensures.items)
      (All-push (λ (j : Working). j.parameters ≡ c.args.p.now) c.loop.jobs.items c.in_ok-job.job c.loop.invariant.1 c.in_ok-job.ensures.profile),
)
