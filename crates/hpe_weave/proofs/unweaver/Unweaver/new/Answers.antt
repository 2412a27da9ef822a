use Rattle.std.proofs.Common.{◌≡◌, ◌≤◌, ◌*◌, ◌-◌, ◌^◌, ℕ, [], ◌∷◌, ◌++◌, ap, sym, subst, ◌∙◌, arith}
use Rattle.std.proofs.lemmas.Grind.{common_steps}
use Rattle.circular_buffer.specs.Buffer.{Buffer}
use Rattle.hpe_base.specs.Parameters.{Parameters, IsValid, positions, interleaver_depth}
use Rattle.hpe_base.specs.declared.profile.Order.{Order}
use Rattle.hpe_weave.specs.Unweaving.{held_turns}
use Rattle.hpe_weave.proofs.UnweaverLemmas.{AreMadeEmpty, made_empty_more, made_unweaving, made_unwoven, room-le}
use Rattle.hpe_weave.proofs.unweaver.Unweaver.new.Goals as goal

pub loop-row-init : goal.loop-row-init
loop-row-init c = let e = c.in_ok-rings.ensures in record { count = grind (arith, common_steps); items = λ j d h. absurd (omega arith); capacity = λ j d h. absurd (omega arith) }

-- the room of a ring, by the profile
room : (p : Parameters) (rows delay sums row : ℕ) (order : Order) → rows ≡ p.rows → delay ≡ p.delay → order ≡ p.order → sums ≡ positions order
    → (rows - row) * delay * sums ≡ (p.rows - row) * p.delay * positions p.order
room p rows delay sums row order r d o s = (λ i. (r i - row) * d i * (s ∙ ap positions o) i)

pub overflow_mul-rows-in-loop-row : goal.overflow_mul-rows-in-loop-row
overflow_mul-rows-in-loop-row c =
    let valid : IsValid c.args.p.now = c.rows-rows.ensures.valid in
    let p = c.args.p.now in
    let high : held_turns p (c.loop-row.row - 1) * positions p.order ≤ 2 ^ 26 = room-le p (c.loop-row.row - 1) valid.range.rows_low valid.depth in
    let low : 1 ≤ c.loop-row.row = c.loop-row.auto.row in
    let same : p.rows - 1 - (c.loop-row.row - 1) ≡ p.rows - c.loop-row.row = omega arith in
    let turned : held_turns p (c.loop-row.row - 1) * positions p.order ≡ (p.rows - c.loop-row.row) * p.delay * positions p.order = ap (λ (k : ℕ). k * p.delay * positions p.order) same in
    let room : (c.rows-rows.result - c.loop-row.row) * c.delay-delay.result * c.slots-sums.result ≡ (p.rows - c.loop-row.row) * p.delay * positions p.order =
    room c.args.p.now c.rows-rows.result c.delay-delay.result c.slots-sums.result c.loop-row.row c.order.result c.rows-rows.ensures.value c.delay-delay.ensures.value c.order.ensures.value c.slots-sums.ensures in
    omega arith

pub loop-row-preserved : goal.loop-row-preserved
loop-row-preserved c =
    let pushed : c.push.new.self.items ≡ c.loop-row.rings.items ++ c.in_ok-ring.ring ∷ [] = grind (arith, common_steps) in
    rw pushed (made_empty_more c.args.p.now c.loop-row.row c.loop-row.rings.items c.in_ok-ring.ring c.loop-row.invariant
    (ap (λ (b : Buffer ℕ). b.items) c.in_ok-ring.ensures) (ap (λ (b : Buffer ℕ). b.capacity) c.in_ok-ring.ensures
    ∙ room c.args.p.now c.rows-rows.result c.delay-delay.result c.slots-sums.result c.loop-row.row c.order.result c.rows-rows.ensures.value c.delay-delay.ensures.value c.order.ensures.value c.slots-sums.ensures))

made : (c : goal.After-copy) → AreMadeEmpty c.copy.result c.copy.result.rows c.loop-row.rings.items
made c =
    let value : c.rows-rows.result ≡ c.args.p.now.rows = c.rows-rows.ensures.value in
    let low : 1 ≤ c.args.p.now.rows = c.rows-rows.ensures.valid.range.rows_low in
    let end : c.loop-row.row ≡ c.args.p.now.rows = omega arith in
    rw c.copy.ensures (subst (λ (n : ℕ). AreMadeEmpty c.args.p.now n c.loop-row.rings.items) end c.loop-row.invariant)

pub invariant_of-result : goal.invariant_of-result
invariant_of-result c =
    made_unweaving c.copy.result c.loop-row.rings.items _ (rw c.copy.ensures c.rows-rows.ensures.valid) (made c)

pub returns-clause-stands : goal.returns-clause-stands
returns-clause-stands c =
    let rows : c.rows-rows.result ≡ c.args.p.now.rows = c.rows-rows.ensures.value in
    let delay : c.delay-delay.result ≡ c.args.p.now.delay = c.delay-delay.ensures.value in
    let depth : c.rows-rows.result * (c.rows-rows.result - 1) * c.delay-delay.result ≡ interleaver_depth c.copy.result =
    (λ i. rows i * (rows i - 1) * delay i) ∙ sym (ap interleaver_depth c.copy.ensures) in
    made_unwoven c.copy.result c.loop-row.rings.items _ (rw c.copy.ensures c.rows-rows.ensures.valid.range.rows_low) depth (made c)
