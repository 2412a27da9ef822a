use Rattle.std.proofs.Common.{arith, rules, length, ap, ◌∙◌, ◌*◌, ◌≡◌, ◌≤◌, ◌+◌, ℕ, List}
use Rattle.std.proofs.lemmas.Grind.{common_steps}
use Rattle.std.proofs.lemmas.List.Elements.{All-from_get_or}
use Rattle.std.proofs.lemmas.Nat.{row_fits}
use Rattle.hpe_base.specs.Parameters.{Parameters, clamp, positions, sending_slots, symbol_slots}
use Rattle.hpe_base.proofs.ParameterLemmas.{positions-lt}
use Rattle.hpe_slots.proofs.Gathering.{Gathering, Gathering-first, Gathering-more, Gathering-all, Gathering-most}
use Rattle.hpe_slots.proofs.reading.gather.Goals as goal

-- the pulse positions of the first sending are there
first_fits : (p : Parameters) (slots : List ℕ) (width : ℕ) → 1 ≤ p.repeat → length slots ≡ symbol_slots p → width ≡ positions p.order → width ≤ length slots
first_fits p slots width some long wide =
    let fits : 0 * sending_slots p.order + sending_slots p.order ≤ p.repeat * sending_slots p.order = row_fits 0 (sending_slots p.order) p.repeat (sending_slots p.order) some (omega arith) in
    omega (arith, positions-lt p.order)

pub loop-init : goal.loop-init
loop-init c = Gathering-first _ _ _ (λ v b. grind (arith, common_steps))

pub slice_bounds-cut_counts-end : goal.slice_bounds-cut_counts-end
slice_bounds-cut_counts-end c =
    let room = first_fits c.args.p.now c.args.slots.now c.slots-positions.result c.order.ensures.valid.range.repeat_low (omega arith) (c.slots-positions.ensures ∙ ap positions c.order-2.ensures.value) in
    search (rules, room)

pub cut_counts-requires : goal.cut_counts-requires
cut_counts-requires c =
    let room = first_fits c.args.p.now c.args.slots.now c.slots-positions.result c.order.ensures.valid.range.repeat_low (omega arith) (c.slots-positions.ensures ∙ ap positions c.order-2.ensures.value) in
    let width : c.slots-positions.result ≡ positions c.args.p.now.order = c.slots-positions.ensures ∙ ap positions c.order-2.ensures.value in
    search (rules, room, width)

pub slice_bounds-add_counts-end : goal.slice_bounds-add_counts-end
slice_bounds-add_counts-end c =
    let size : c.sending_slots-size.result ≡ sending_slots c.args.p.now.order = c.sending_slots-size.ensures.value ∙ ap sending_slots c.order.ensures.value in
    let width : c.slots-positions.result ≡ positions c.args.p.now.order = c.slots-positions.ensures ∙ ap positions c.order-2.ensures.value in
    let fits : c.loop.counter * c.sending_slots-size.result + c.sending_slots-size.result ≤ c.args.p.now.repeat * sending_slots c.args.p.now.order =
    row_fits _ _ _ _ (omega arith) (omega arith) in
    let room : c.loop.start + c.slots-positions.result ≤ length c.args.slots.now = omega (arith, positions-lt c.args.p.now.order, c.loop.invariant.next) in
    search (rules, room)

pub loop-preserved : goal.loop-preserved
loop-preserved c =
    let width : c.slots-positions.result ≡ positions c.args.p.now.order = c.slots-positions.ensures ∙ ap positions c.order-2.ensures.value in
    Gathering-more _ _ c.loop.counter c.loop.start (c.loop.start + c.slots-positions.result) c.loop.into c.add_counts.new.sums (omega arith) (omega arith)
    c.add_counts.ensures c.loop.invariant

pub returns-clause-value : goal.returns-clause-value
returns-clause-value c =
    let all : Gathering (sending_slots c.args.p.now.order) c.args.slots.now c.loop.counter c.loop.start c.loop.into =
    rw (c.sending_slots-size.ensures.value, c.order.ensures.value) at c.loop.invariant in
    let some : 1 ≤ c.repeat-end.result = omega (arith, c.repeat-end.ensures.value, c.repeat-end.ensures.valid.range.repeat_low) in
    Gathering-all c.args.p.now _ c.loop.counter _ _ (omega (arith, c.loop.auto.counter-end some)) (omega arith) all

pub returns-clause-most : goal.returns-clause-most
returns-clause-most c = All-from_get_or (λ s. s ≤ clamp) c.loop.into 0 (Gathering-most _ _ _ _ _ c.loop.invariant)
