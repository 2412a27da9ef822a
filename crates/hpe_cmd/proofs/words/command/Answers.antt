use Rattle.std.proofs.Common.{◌∙◌, ap₂}
use Rattle.std.proofs.lemmas.Result.{IfOk-weaker}
use Rattle.clap.specs.Simple.{with_rule}
use Rattle.hpe_cmd.specs.Words.{command}
use Rattle.hpe_cmd.proofs.words.command.Goals as goal

pub returns-clause-ok : goal.returns-clause-ok
unfolding command
returns-clause-ok c =
    IfOk-weaker c.with_argument-8.result _ _ (λ r h. h c.noise_argument.ensures.local
    ∙ ap₂ with_rule (c.in_ok-command-7.ensures.ok c.lost_argument.ensures.local
    ∙ ap₂ with_rule (c.in_ok-command-6.ensures.ok c.frames_argument.ensures.local
    ∙ ap₂ with_rule (c.in_ok-command-5.ensures.ok c.seed_argument.ensures.local
    ∙ ap₂ with_rule (c.in_ok-command-4.ensures.ok c.workers_argument.ensures.local
    ∙ ap₂ with_rule (c.in_ok-command-3.ensures.ok c.limit_argument.ensures.local
    ∙ ap₂ with_rule (c.in_ok-command-2.ensures.ok c.profile_argument.ensures.local
    ∙ ap₂ with_rule (c.in_ok-command.ensures.ok c.action_argument.ensures.local
    ∙ ap₂ with_rule c.new-command.ensures.app c.action_argument.ensures.rule) c.profile_argument.ensures.rule)
    c.limit_argument.ensures.rule) c.workers_argument.ensures.rule) c.seed_argument.ensures.rule)
    c.frames_argument.ensures.rule) c.lost_argument.ensures.rule) c.noise_argument.ensures.rule)
    c.with_argument-8.ensures.ok
