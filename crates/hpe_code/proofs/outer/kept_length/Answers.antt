use Rattle.std.proofs.Common.{◌≡◌, [], length, sym, All}
use Rattle.std.proofs.lemmas.List.Elements.{All-from_get_or}
use Rattle.hpe_base.proofs.KeptLength.{length-code_bits-steps}
use Rattle.hpe_code.proofs.outer.kept_length.Goals as goal

pub returns : goal.returns
returns c u h =
    let three : All (λ column. length column ≡ 3) c.args.columns.now = All-from_get_or (λ column. length column ≡ 3) c.args.columns.now [] c.told-columns in
    rw (c.flags_in_all.ensures.value, c.flags_in_all-2.ensures.value)
    (sym (length-code_bits-steps c.args.columns.now u c.requires.columns.some three c.args.steps h))
