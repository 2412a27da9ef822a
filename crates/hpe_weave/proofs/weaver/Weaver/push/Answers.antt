use Rattle.std.proofs.Common.{◌≡◌, ◌∙◌, ap, sym, ◌++◌, ◌∷◌, [], arith, length, List, ℕ, ◌-◌, ◌+◌, ◌%◌, set}
use Rattle.circular_buffer.specs.Buffer.{Buffer}
use Rattle.std.proofs.lemmas.List.{get_or_read}
use Rattle.hpe_base.specs.ChannelInterleaver.{interleaved_channel, channel_at}
use Rattle.hpe_weave.proofs.Channels.{channel_more}
use Rattle.hpe_weave.specs.Weaving.{Weaving, HasWoven}
use Rattle.hpe_weave.proofs.WeaverLemmas.{step_straight, step_ring, passes_straight, Stepped}
use Rattle.hpe_weave.proofs.weaver.Weaver.push.Goals as goal

pub returns-then-row-eq0-clause-stands : goal.returns-then-row-eq0-clause-stands
returns-then-row-eq0-clause-stands c = λ s was.
    let i = c.self.invariant in
    step_straight c.self.inside.profile c.self.inside.rings.items c.self.inside.turn c.place_after-self-inside.result c.args.symbol s c.if-row-eq0.true (omega arith) (c.place_after-self-inside.ensures.value ∙ (let n : c.len.result + 1 ≡ c.self.inside.profile.rows = omega (arith, i.count) in ap (λ (k : ℕ). (c.self.inside.turn + 1) % k) n))
    (rw (← c.self.view_is) at was)

pub returns-then-row-eq0-clause-answer : goal.returns-then-row-eq0-clause-answer
returns-then-row-eq0-clause-answer c = λ s was.
    let i = c.self.invariant in
    let h = rw (← c.self.view_is) at was in
    let v = ap (λ (w : Weaving). w.parameters) c.self.view_is in
    let x : c.args.symbol ≡ channel_at c.self.inside.profile (s ++ c.args.symbol ∷ []) (length s) =
    passes_straight c.self.inside.profile s c.args.symbol (omega arith) (sym h.turn ∙ c.if-row-eq0.true) in
    rw (← v) (channel_more c.self.inside.profile s c.args.symbol ∙ ap (λ (y : ℕ). interleaved_channel c.self.inside.profile s ++ y ∷ []) (sym x))

stepped : (c : goal.After-self-else-row-eq0-1) (s : List ℕ) → HasWoven c.args.self.now s
    → Stepped c.self.inside.profile (set c.self.inside.rings.items (c.self.inside.turn - 1) c.through.new.ring) c.place_after-self-inside.result c.args.symbol c.through.result s
stepped c s was =
    let i = c.self.invariant in
    step_ring c.self.inside.profile c.self.inside.rings.items c.through.new.ring c.self.inside.turn c.place_after-self-inside.result c.args.symbol c.through.result s
    (omega arith) i.turn_in i.count (c.place_after-self-inside.ensures.value ∙ (let n : c.len.result + 1 ≡ c.self.inside.profile.rows = omega (arith, i.count) in ap (λ (k : ℕ). (c.self.inside.turn + 1) % k) n)) (c.through.ensures.items ∙ ap (λ (b : Buffer ℕ). b.items ++ c.args.symbol ∷ [])
    (get_or_read c.self.inside.rings.items (c.self.inside.turn - 1) c.index_mut.result.now (omega arith) c.index_mut.ensures.value c.through.new.ring)) (rw (← c.self.view_is) at was)

pub returns-else-row-eq0-clause-stands : goal.returns-else-row-eq0-clause-stands
returns-else-row-eq0-clause-stands c = λ s was. (stepped c s was).woven

pub returns-else-row-eq0-clause-answer : goal.returns-else-row-eq0-clause-answer
returns-else-row-eq0-clause-answer c = λ s was.
    let v = ap (λ (w : Weaving). w.parameters) c.self.view_is in
    rw (← v) (channel_more c.self.inside.profile s c.args.symbol ∙ ap (λ (y : ℕ). interleaved_channel c.self.inside.profile s ++ y ∷ []) (sym (stepped c s was).out))
