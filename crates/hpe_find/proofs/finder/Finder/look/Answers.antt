use Rattle.std.proofs.Common.{◌∙◌, ap, arith}
use Rattle.hpe_find.specs.Found.{found_of}
use Rattle.hpe_base.proofs.MarkerSearch.{offset_of-front}
use Rattle.hpe_find.proofs.finder.Finder.look.Goals as goal

pub returns-clause-found : goal.returns-clause-found
returns-clause-found c = λ full rest.
    c.finish.ensures ∙ ap found_of (offset_of-front c.args.self.now.parameters c.args.self.now.counts rest c.room.ensures.valid (omega arith))
