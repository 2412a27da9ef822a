use Rattle.std.proofs.Common.{arith, get_or, length, ◌∙◌, ◌<◌, ◌≤◌, ◌≡◌, subst, sym}
use Rattle.std.proofs.lemmas.List.Elements.{All-get_or}
use Rattle.hpe_code.proofs.Encoding.{Encoding-none, Encoding-more, column_below, kept_at_is, kept_at_fits, Encoding-all}
use Rattle.hpe_base.specs.Bits.{AreBits}
use Rattle.hpe_base.specs.ConvolutionalCode.{code_bits}
use Rattle.hpe_base.proofs.Shapes.{are_bits-code_bits}
use Rattle.hpe_code.proofs.outer.outer_encode.Goals as goal

pub loop-bit-init : goal.loop-bit-init
loop-bit-init c = Encoding-none _ _ _

pub bounds-columns-column : goal.bounds-columns-column
bounds-columns-column c = column_below _ _ _ _ _ _ _ _ c.requires.columns.some c.loop-bit.invariant

pub offset_bounds-columns-column : goal.offset_bounds-columns-column
offset_bounds-columns-column c =
    let within : c.loop-bit.column < length c.args.columns.now = column_below _ _ _ _ _ _ _ _ c.requires.columns.some c.loop-bit.invariant in
    let few : length c.args.columns.now ≤ 12 = c.requires.columns.few in
    omega arith

pub put_selected-at-requires-clause-room : goal.put_selected-at-requires-clause-room
put_selected-at-requires-clause-room c =
    let bit : get_or c.args.u.now c.loop-bit.bit-index 0 < 2 = All-get_or (λ b. b < 2) c.args.u.now c.loop-bit.bit-index 0 (omega arith) c.requires.bits in
    kept_at_fits _ _ _ c.loop-bit.bit-index _ _ _ _ _ c.loop-bit.invariant (omega arith) (c.loop-bit.auto.kept ∙ c.requires.size)
    (kept_at_is _ _ _ c.loop-bit.bit-index _ _ _ _ c.loop-bit.invariant bit)

pub place_after-column-requires : goal.place_after-column-requires
place_after-column-requires c = column_below _ _ _ _ _ _ _ _ c.requires.columns.some c.loop-bit.invariant

pub loop-bit-preserved : goal.loop-bit-preserved
loop-bit-preserved c =
    let bit : get_or c.args.u.now c.loop-bit.bit-index 0 < 2 = All-get_or (λ b. b < 2) c.args.u.now c.loop-bit.bit-index 0 (omega arith) c.requires.bits in
    Encoding-more _ _ c.loop-bit.kept _ c.loop-bit.bit-index c.loop-bit.column _ c.loop-bit.at _ _ _ _ c.loop-bit.invariant bit c.place_after-column.ensures.value
    (kept_at_is _ _ _ c.loop-bit.bit-index _ _ _ _ c.loop-bit.invariant bit) c.put_selected-at.ensures.place c.put_selected-at.ensures.written

pub returns : goal.returns
returns c =
    let code : c.loop-bit.kept ≡ code_bits c.args.columns.now c.args.u.now =
    Encoding-all _ _ c.loop-bit.kept c.loop-bit.bit-index _ _ _ _ (omega arith) (c.loop-bit.auto.kept ∙ c.requires.size) c.loop-bit.invariant in
    record { code = code; bits = subst AreBits (sym code) (are_bits-code_bits c.args.columns.now c.args.u.now) }
