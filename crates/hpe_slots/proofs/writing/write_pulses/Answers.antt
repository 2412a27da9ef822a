use Rattle.std.proofs.Common.{rules, ◌≡◌, ◌<◌, ◌+◌, ◌*◌, ◌-◌, ℕ, length, arith}
use Rattle.std.proofs.lemmas.Grind.{common_steps}
use Rattle.hpe_base.specs.Parameters.{sending_slots}
use Rattle.hpe_base.proofs.ParameterLemmas.{positions-lt}
use Rattle.hpe_slots.proofs.Pulses.{Sent, Sent-none, Sent-room, Sent-more, Sent-all, pulse-lt}
use Rattle.hpe_slots.proofs.writing.write_pulses.Goals as goal

swapped : (w r q n : ℕ) → n ≡ w * (r * q) → n ≡ r * (w * q)
swapped w r q n h = grind (arith, h)

pub loop-init : goal.loop-init
loop-init c =
    let p = c.args.p.now in
    let long : length c.fill.new.self ≡ p.count_octets * (p.repeat * sending_slots p.order) = search (rules, c.requires.size) in
    let size : length c.fill.new.self ≡ c.repeat-end.result * (c.count_octets-octets.result * c.sending_slots.result) =
    rw (c.repeat-end.ensures.value, c.count_octets-octets.ensures.value, c.sending_slots.ensures.value, c.order.ensures.value) (swapped p.count_octets p.repeat (sending_slots p.order) _ long) in
    Sent-none _ _ _ _ _ size (omega (arith, c.count_octets-octets.ensures.valid.range.count_octets_low, c.count_octets-octets.ensures.value)) (λ k. grind (arith, common_steps))

pub bounds-into-place : goal.bounds-into-place
bounds-into-place c =
    let w : ℕ = c.count_octets-octets.result in
    let symbol : c.args.symbol < c.sending_slots.result = rw (c.sending_slots.ensures.value, c.order.ensures.value) (omega (arith, positions-lt c.args.p.now.order)) in
    let low : w * c.args.symbol + (w - 1) < w * c.sending_slots.result =
    pulse-lt w c.sending_slots.result c.args.symbol (omega (arith, c.count_octets-octets.ensures.valid.range.count_octets_low, c.count_octets-octets.ensures.value)) symbol in
    Sent-room _ _ _ c.loop.counter c.loop.place c.loop.into (omega arith) low c.loop.invariant

pub loop-preserved : goal.loop-preserved
loop-preserved c =
    let w : ℕ = c.count_octets-octets.result in
    let symbol : c.args.symbol < c.sending_slots.result = rw (c.sending_slots.ensures.value, c.order.ensures.value) (omega (arith, positions-lt c.args.p.now.order)) in
    let low : w * c.args.symbol + (w - 1) < w * c.sending_slots.result =
    pulse-lt w c.sending_slots.result c.args.symbol (omega (arith, c.count_octets-octets.ensures.valid.range.count_octets_low, c.count_octets-octets.ensures.value)) symbol in
    Sent-more _ _ _ c.loop.counter c.loop.place c.loop.into (omega arith) low c.loop.invariant

pub returns : goal.returns
returns c =
    let p = c.args.p.now in
    let all : Sent p.repeat (p.count_octets * sending_slots p.order) (p.count_octets * c.args.symbol + (p.count_octets - 1)) c.loop.counter c.loop.place c.loop.into =
    rw (c.repeat-end.ensures.value, c.sending_slots.ensures.value, c.order.ensures.value, c.count_octets-octets.ensures.value) at c.loop.invariant in
    Sent-all p c.args.symbol _ _ _ c.count_octets-octets.ensures.valid.range.count_octets_low c.count_octets-octets.ensures.valid.range.count_octets_high (omega arith) all
