use Rattle.std.proofs.Common.{◌≡◌, ◌∙◌, refl, ap, sym, arith, length, ℕ, ◌+◌, ◌*◌, ◌%◌, ◌<◌, set, get_or, eqb, true}
use Rattle.std.proofs.lemmas.List.{get_or_read, get_or-set_same, get_or-set_other}
use Rattle.std.proofs.lemmas.Bool.{eq-eqb}
use Rattle.circular_buffer.specs.Buffer.{Buffer}
use Rattle.hpe_base.specs.Parameters.{positions, interleaver_depth}
use Rattle.hpe_weave.specs.Unweaving.{Unweaving, gathered, held_turns}
use Rattle.hpe_weave.proofs.UnweaverLemmas.{unstep, ring_after, rows_after, last_row, row_read, ends-soon, capacity_kept}
use Rattle.hpe_weave.proofs.unweaver.Unweaver.push.Goals as goal

ring : (c : goal.After-slice_known-then-row-len-1) (d : Buffer ℕ) → c.index_mut.result.now ≡ get_or c.self.inside.rings.items c.self.inside.turn d
ring c d = get_or_read c.self.inside.rings.items c.self.inside.turn c.index_mut.result.now (omega arith) c.index_mut.ensures.value d

pub invariant_of-self : goal.invariant_of-self
invariant_of-self c =
    let i = c.self.invariant in
    let next : c.place_after-self-inside.result < c.self.inside.profile.rows = omega (arith, c.place_after-self-inside.ensures.within, i.count) in
    capacity_kept c.self.inside.profile c.self.inside.rings.items c.pass.new.ring c.self.inside.turn c.place_after-self-inside.result c.self.inside.wait c.saturating_sub-self-inside.result
    next (omega arith) (λ d. ap (λ (b : Buffer ℕ). b.capacity) (c.pass.ensures.items) ∙ ap (λ (b : Buffer ℕ). b.capacity) (ring c d)) i

pub returns-then-row-len-clause-stands : goal.returns-then-row-len-clause-stands
returns-then-row-len-clause-stands c = λ g was.
    let i = c.self.invariant in
    let h = rw (← c.self.view_is) at was in
    let p = c.self.inside.profile in
    let t = c.self.inside.turn in
    let v = ap (λ (u : Unweaving). positions u.parameters.order) c.self.view_is in
    let out : length c.args.out.now ≡ positions c.self.inside.profile.order = c.requires.out ∙ sym v in
    let counts : length c.args.counts.now ≡ positions c.self.inside.profile.order = c.requires.counts ∙ sym v in
    let b = c.pass.new.ring in
    unstep p c.self.inside.rings.items (set c.self.inside.rings.items t c.pass.new.ring) t c.place_after-self-inside.result c.self.inside.wait c.saturating_sub-self-inside.result g c.args.counts.now
    (c.place_after-self-inside.ensures.value ∙ (let n : c.len.result + 1 ≡ c.self.inside.profile.rows = omega (arith, i.count) in ap (λ (k : ℕ). (c.self.inside.turn + 1) % k) n)) c.saturating_sub-self-inside.ensures counts
    (λ j d ne. get_or-set_other c.self.inside.rings.items t j c.pass.new.ring d ne)
    (λ d more. ap (λ (b : Buffer ℕ). b.items) (get_or-set_same c.self.inside.rings.items t c.pass.new.ring d (omega arith) ∙ c.pass.ensures.items)
    ∙ (let cap : c.index_mut.result.now.capacity ≡ held_turns c.self.inside.profile c.self.inside.turn * positions c.self.inside.profile.order = ap (λ (z : Buffer ℕ). z.capacity) (ring c b) ∙ i.capacity t b more in
    let r : c.index_mut.result.now.items ≡ gathered c.self.inside.profile g c.self.inside.turn = ap (λ (z : Buffer ℕ). z.items) (ring c b) ∙ h.rings t b more in
    rw (cap, out) (ring_after p g c.args.counts.now t c.self.inside.wait c.index_mut.result.now.items more i.delay_low (sym h.turn) h.wait h.whole counts r)))
    h

pub returns-then-row-len-clause-rows : goal.returns-then-row-len-clause-rows
returns-then-row-len-clause-rows c = λ g was.
    let i = c.self.invariant in
    let h = rw (← c.self.view_is) at was in
    let p = c.self.inside.profile in
    let t = c.self.inside.turn in
    let v = ap (λ (u : Unweaving). u.parameters) c.self.view_is in
    rw (← v) (rows_after p g c.args.counts.now c.pass.new.out c.self.inside.wait (omega arith) h.wait (λ z.
    let b = c.pass.new.ring in
    let out : length c.args.out.now ≡ positions c.self.inside.profile.order = c.requires.out ∙ sym (ap (λ (u : Unweaving). positions u.parameters.order) c.self.view_is) in
    let more : c.self.inside.turn + 1 < c.self.inside.profile.rows = omega arith in
    let r : c.index_mut.result.now.items ≡ gathered c.self.inside.profile g c.self.inside.turn = ap (λ (z : Buffer ℕ). z.items) (ring c b) ∙ h.rings t b more in
    let due : eqb c.self.inside.wait 0 ≡ true = eq-eqb c.self.inside.wait 0 z in
    let e = rw due at c.pass.ensures.out in
    e ∙ row_read p g c.args.counts.now c.index_mut.result.now.items c.args.out.now t more i.delay_low (sym h.turn) (ends-soon c.self.inside.wait (interleaver_depth p) (length g) h.wait z) h.whole out r))

pub returns-then-due-clause-stands : goal.returns-then-due-clause-stands
returns-then-due-clause-stands c = λ g was.
    let i = c.self.invariant in
    let h = rw (← c.self.view_is) at was in
    let p = c.self.inside.profile in
    let v = ap (λ (u : Unweaving). positions u.parameters.order) c.self.view_is in
    unstep p c.self.inside.rings.items c.self.inside.rings.items c.self.inside.turn c.place_after-self-inside.result c.self.inside.wait c.saturating_sub-self-inside.result g c.args.counts.now
    (c.place_after-self-inside.ensures.value ∙ (let n : c.len.result + 1 ≡ c.self.inside.profile.rows = omega (arith, i.count) in ap (λ (k : ℕ). (c.self.inside.turn + 1) % k) n)) c.saturating_sub-self-inside.ensures (c.requires.counts ∙ sym v) (λ j d ne. refl) (λ d more. absurd (omega arith)) h

pub returns-then-due-clause-rows : goal.returns-then-due-clause-rows
returns-then-due-clause-rows c = λ g was.
    let i = c.self.invariant in
    let h = rw (← c.self.view_is) at was in
    let p = c.self.inside.profile in
    let v = ap (λ (u : Unweaving). u.parameters) c.self.view_is in
    rw (← v) (rows_after p g c.args.counts.now c.copy_from_slice.new.self c.self.inside.wait (omega arith) h.wait (λ z.
    c.copy_from_slice.ensures.after ∙ last_row p g c.args.counts.now c.self.inside.turn (omega arith) (sym h.turn) (ends-soon c.self.inside.wait (interleaver_depth p) (length g) h.wait z)))

pub returns-else-due-clause-stands : goal.returns-else-due-clause-stands
returns-else-due-clause-stands c = λ g was.
    let i = c.self.invariant in
    let h = rw (← c.self.view_is) at was in
    let p = c.self.inside.profile in
    let v = ap (λ (u : Unweaving). positions u.parameters.order) c.self.view_is in
    unstep p c.self.inside.rings.items c.self.inside.rings.items c.self.inside.turn c.place_after-self-inside.result c.self.inside.wait c.saturating_sub-self-inside.result g c.args.counts.now
    (c.place_after-self-inside.ensures.value ∙ (let n : c.len.result + 1 ≡ c.self.inside.profile.rows = omega (arith, i.count) in ap (λ (k : ℕ). (c.self.inside.turn + 1) % k) n)) c.saturating_sub-self-inside.ensures (c.requires.counts ∙ sym v) (λ j d ne. refl) (λ d more. absurd (omega arith)) h

pub returns-else-due-clause-rows : goal.returns-else-due-clause-rows
returns-else-due-clause-rows c = λ g was.
    let i = c.self.invariant in
    let h = rw (← c.self.view_is) at was in
    let p = c.self.inside.profile in
    let v = ap (λ (u : Unweaving). u.parameters) c.self.view_is in
    rw (← v) (rows_after p g c.args.counts.now c.args.out.now c.self.inside.wait (omega arith) h.wait (λ z. absurd (c.if-due.false z)))
