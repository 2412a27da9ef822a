use Rattle.std.proofs.Common.{◌++◌, ◌∙◌, ap, append_assoc, codes, decimal}
use Rattle.hpe_recv.specs.Receiving.{dark_line}
use Rattle.hpe_recv.proofs.lines.dark_line.Goals as goal

pub returns-clause-text : goal.returns-clause-text
unfolding dark_line
returns-clause-text c =
    c.push_str.ensures.bytes
    ∙ (ap (λ l. l ++ codes " slots\n") (c.push_entry.ensures.text ∙ ap (λ l. l ++ codes "no marker in " ++ decimal c.args.counts) c.new-line.ensures)
    ∙ append_assoc (codes "no marker in ") (decimal c.args.counts) (codes " slots\n"))
