use Rattle.std.proofs.Common.{arith, ◌≡◌, ◌≤◌, ap, sym, ◌∙◌, [], ◌++◌, ◌∷◌}
use Rattle.std.proofs.lemmas.Grind.{common_steps}
use Rattle.hpe_base.specs.Parameters.{Parameters}
use Rattle.hpe_weave.proofs.WeaverLemmas.{AreMade, made_more, made_weaving, made_woven}
use Rattle.hpe_weave.proofs.weaver.Weaver.new.Goals as goal

pub loop-row-init : goal.loop-row-init
loop-row-init c = let e = c.in_ok-rings.ensures in record { count = grind (arith, common_steps); items = λ j d h. absurd (omega arith); capacity = λ j d h. absurd (omega arith) }

pub loop-row-preserved : goal.loop-row-preserved
loop-row-preserved c =
    let pushed : c.push.new.self.items ≡ c.loop-row.rings.items ++ c.in_ok-ring.ring ∷ [] = grind (arith, common_steps) in
    rw pushed (made_more c.delay-delay.result c.loop-row.row c.loop-row.rings.items c.in_ok-ring.ring c.loop-row.invariant c.in_ok-ring.ensures.items c.in_ok-ring.ensures.capacity)

made : (c : goal.After-copy) → AreMade c.copy.result.delay c.copy.result.rows c.loop-row.rings.items
made c =
    let low = c.rows-rows.ensures.valid.range.rows_low in
    let value = c.rows-rows.ensures.value in
    let d : c.copy.result.delay ≡ c.delay-delay.result = ap (λ (p : Parameters). p.delay) c.copy.ensures ∙ sym c.delay-delay.ensures.value in
    let end : c.loop-row.row ≡ c.rows-rows.result = omega arith in
    let r : c.copy.result.rows ≡ c.loop-row.row = ap (λ (p : Parameters). p.rows) c.copy.ensures ∙ sym value ∙ sym end in
    rw (d, r) c.loop-row.invariant

low-rows : (c : goal.After-copy) → 1 ≤ c.copy.result.rows
low-rows c = rw c.copy.ensures c.rows-rows.ensures.valid.range.rows_low

pub invariant_of-result : goal.invariant_of-result
invariant_of-result c = made_weaving c.copy.result c.loop-row.rings.items (low-rows c) (made c)

pub returns-clause-stands : goal.returns-clause-stands
returns-clause-stands c = made_woven c.copy.result c.loop-row.rings.items (low-rows c) (made c)
