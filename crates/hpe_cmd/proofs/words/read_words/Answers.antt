use Rattle.std.proofs.Common.{◌∙◌, sym, ap, option_map}
use Rattle.hpe_cmd.specs.Words.{request_read}
use Rattle.hpe_cmd.proofs.CommandLaws.{taken, refused}
use Rattle.hpe_cmd.proofs.words.read_words.Goals as goal

pub returns-in-Some-clause-asked : goal.returns-in-Some-clause-asked
returns-in-Some-clause-asked c =
    taken _ _ _ c.in_ok-command.ensures.ok c.in-Ok.ensures.kinds c.in-Ok.ensures.matches
    ∙ sym c.request_of.ensures.value ∙ ap (option_map request_read) c.in-Some.is

pub returns-in-Ok-clause-usage : goal.returns-in-Ok-clause-usage
returns-in-Ok-clause-usage c = λ _.
    taken _ _ _ c.in_ok-command.ensures.ok c.in-Ok.ensures.kinds c.in-Ok.ensures.matches
    ∙ sym c.request_of.ensures.value ∙ ap (option_map request_read) c.in-None.is

pub returns-clause-usage : goal.returns-clause-usage
returns-clause-usage c = λ is_usage.
    refused c.in-Err.error _ _ c.in_ok-command.ensures.ok c.in-Err.ensures.kinds (c.refusal_of.ensures is_usage)
