use Rattle.std.proofs.Common.{◌≡◌, ◌∙◌, refl, false, true, sym, ap, arith, ℕ, List, [], ◌∷◌, ◌++◌, get_or, take}
use Rattle.std.proofs.lemmas.List.{take_all, take_more, get_or-take}
use Rattle.hpe_base.specs.Bits.{bits_of}
use Rattle.hpe_base.proofs.BitLists.{length-bits_of}
use Rattle.hpe_frame.proofs.span.is_marked.Goals as goal

pub returns-then-bits-i : goal.returns-then-bits-i
returns-then-bits-i c = (
  (λ yes. absurd (let e : false ≡ true = yes in cc)),
  (λ same. absurd (c.if-bits-i.true (sym (get_or-take 32 c.args.bits.now c.loop-i.i 0 (omega arith)) ∙ (ap (λ (l : List ℕ). get_or l c.loop-i.i 0) same ∙ sym c.bit_of.ensures.value)))),
)

pub loop-i-preserved : goal.loop-i-preserved
loop-i-preserved c =
    let bit : get_or c.args.bits.now c.loop-i.i 0 ≡ get_or (bits_of 32 c.args.marker) c.loop-i.i 0 = c.if-bits-i.false ∙ c.bit_of.ensures.value in
    take_more c.args.bits.now c.loop-i.i 0 (omega arith)
    ∙ (ap (λ l. l ++ get_or c.args.bits.now c.loop-i.i 0 ∷ []) c.loop-i.invariant
    ∙ (ap (λ b. take c.loop-i.i (bits_of 32 c.args.marker) ++ b ∷ []) bit ∙ sym (take_more (bits_of 32 c.args.marker) c.loop-i.i 0 (omega (arith, length-bits_of 32 c.args.marker)))))

pub returns : goal.returns
returns c =
    let end : c.loop-i.i ≡ 32 = omega arith in
    let same : take 32 c.args.bits.now ≡ bits_of 32 c.args.marker =
    ap (λ n. take n c.args.bits.now) (sym end) ∙ (c.loop-i.invariant ∙ take_all c.loop-i.i (bits_of 32 c.args.marker) (omega (arith, length-bits_of 32 c.args.marker))) in
    ((λ yes. same), (λ s. refl))
