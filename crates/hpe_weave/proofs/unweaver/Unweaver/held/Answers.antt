use Rattle.std.proofs.Common.{◌≡◌, ◌≤◌, ◌<◌, ◌+◌, ◌*◌, ◌^◌, ℕ, List, length, get_or, ap, ◌∙◌, arith, sum_by}
use Rattle.std.proofs.lemmas.List.{take_all}
use Rattle.circular_buffer.specs.Buffer.{Buffer}
use Rattle.hpe_base.specs.Parameters.{positions}
use Rattle.hpe_weave.specs.Unweaving.{Unweaving, HasUnwoven, held_after, held_turns}
use Rattle.hpe_weave.proofs.UnweaverLemmas.{room-le}
use Rattle.hpe_weave.proofs.HeldLemmas.{summed_more, all-rings, held-most}
use Rattle.hpe_weave.proofs.unweaver.Unweaver.held.Goals as goal

pub loop-ring-preserved : goal.loop-ring-preserved
loop-ring-preserved c =
    let i = c.loop-ring.invariant in
    let u = c.self.invariant in
    let k = c.loop-ring.ring-index in
    let b = c.ring-item.result in
    let view : c.self.inside.rings.items ≡ c.args.self.now.rings = ap (λ (u : Unweaving). u.rings) c.self.view_is in
    let items : c.deref-ring-items.result.now ≡ c.self.inside.rings.items = c.deref-ring-items.ensures.value in
    let size : length c.deref-ring-items.result.now ≡ length c.self.inside.rings.items = ap (λ (l : List (Buffer ℕ)). length l) items in
    let inside : k + 1 < c.self.inside.profile.rows = omega (arith, c.loop-ring-test.true, u.count) in
    let at : b ≡ get_or c.self.inside.rings.items k b = c.ring-item.is ∙ ap (λ (l : List (Buffer ℕ)). get_or l k b) items in
    let capacity : b.capacity ≡ held_turns c.self.inside.profile k * positions c.self.inside.profile.order =
    ap (λ (z : Buffer ℕ). z.capacity) at ∙ u.capacity k b inside in
    let high : held_turns c.self.inside.profile k * positions c.self.inside.profile.order ≤ 2 ^ 26 = room-le c.self.inside.profile k u.rows_low u.depth in
    let fits : c.len.result ≤ 2 ^ 26 = omega (arith, c.len.ensures.within.0) in
    (rw (← view) (summed_more c.self.inside.rings.items k c.loop-ring.sums c.len.result b (omega arith) at c.len.ensures.len (rw view i.0)), omega (arith, i.1))

value : (c : goal.After-loop-ring) (pushed : List (List ℕ)) → HasUnwoven c.args.self.now pushed → c.loop-ring.sums ≡ held_after c.args.self.now.parameters (length pushed)
value c pushed was =
    let h = rw (← c.self.view_is) at was in
    let view : c.self.inside.rings.items ≡ c.args.self.now.rings = ap (λ (u : Unweaving). u.rings) c.self.view_is in
    let size : length c.deref-ring-items.result.now ≡ length c.self.inside.rings.items = ap (λ (l : List (Buffer ℕ)). length l) c.deref-ring-items.ensures.value in
    rw (← ap (λ (u : Unweaving). u.parameters) c.self.view_is)
    (all-rings c.self.inside.profile pushed c.self.inside.rings.items h.whole c.self.invariant.count h.rings c.loop-ring.ring-index c.loop-ring.sums
    (omega (arith, c.loop-ring-test.false)) (rw view c.loop-ring.invariant.0))

pub returns-clause-value : goal.returns-clause-value
returns-clause-value c = value c

pub returns-clause-most : goal.returns-clause-most
returns-clause-most c = λ pushed was. held-most c.args.self.now.parameters (length pushed) c.loop-ring.sums (value c pushed was)

-- all rings were counted
pub returns-clause-rings : goal.returns-clause-rings
returns-clause-rings c =
    let view : c.self.inside.rings.items ≡ c.args.self.now.rings = ap (λ (u : Unweaving). u.rings) c.self.view_is in
    let items : c.deref-ring-items.result.now ≡ c.self.inside.rings.items = c.deref-ring-items.ensures.value in
    let size : length c.deref-ring-items.result.now ≡ length c.args.self.now.rings = ap (λ (l : List (Buffer ℕ)). length l) (items ∙ view) in
    let all : length c.args.self.now.rings ≤ c.loop-ring.ring-index = omega (arith, c.loop-ring-test.false) in
    c.loop-ring.invariant.0 ∙ ap (λ (l : List (Buffer ℕ)). sum_by (λ ring. length ring.items) l) (take_all c.loop-ring.ring-index c.args.self.now.rings all)
