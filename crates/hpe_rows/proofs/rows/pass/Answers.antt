use Rattle.std.proofs.Common.{rules, ◌≡◌, ◌++◌, ◌∷◌, [], ◌∙◌, ap, sym, subst, List, ℕ, append-nil}
use Rattle.hpe_base.specs.ChannelInterleaver.{deinterleaved_channel}
use Rattle.hpe_base.specs.Parameters.{Parameters}
use Rattle.hpe_weave.specs.Unweaving.{HasUnwoven}
use Rattle.hpe_rows.specs.Rows.{rows_of, placed_rows, row_if}
use Rattle.hpe_rows.proofs.SymbolRows.{passed-marker, passed-row}
use Rattle.hpe_rows.proofs.rows.pass.Goals as goal

pub returns-then-symbol-marker-clause-stands : goal.returns-then-symbol-marker-clause-stands
returns-then-symbol-marker-clause-stands c = λ seen h.
    subst (HasUnwoven c.args.unweaver.now) (sym (passed-marker c.args.p.now _ c.args.symbol seen c.args.slots.now h c.requires.slots (search rules))) h.unwoven

pub returns-then-symbol-marker-clause-rows : goal.returns-then-symbol-marker-clause-rows
returns-then-symbol-marker-clause-rows c = λ seen h.
    ap (λ (rs : List (List ℕ)). deinterleaved_channel c.args.p.now [] rs) (passed-marker c.args.p.now _ c.args.symbol seen c.args.slots.now h c.requires.slots (search rules))
    ∙ sym (append-nil (placed_rows c.args.p.now seen))

pub returns-clause-stands : goal.returns-clause-stands
returns-clause-stands c = λ seen h.
    subst (HasUnwoven c.push.new.self) (sym (passed-row c.args.p.now _ c.args.symbol seen c.args.slots.now _ h c.requires.slots (search rules) c.gather.ensures.value))
    (c.push.ensures.stands (rows_of c.args.p.now seen) h.unwoven)

pub returns-clause-rows : goal.returns-clause-rows
returns-clause-rows c = λ seen h.
    let rows = rows_of c.args.p.now seen in
    ap (λ (rs : List (List ℕ)). deinterleaved_channel c.args.p.now [] rs) (passed-row c.args.p.now _ c.args.symbol seen c.args.slots.now _ h c.requires.slots (search rules) c.gather.ensures.value)
    ∙ subst (λ (p : Parameters). deinterleaved_channel p [] (rows ++ c.gather.new.into ∷ []) ≡ deinterleaved_channel p [] rows ++ row_if c.push.result c.push.new.out) c.requires.profile
    (c.push.ensures.rows rows h.unwoven)
