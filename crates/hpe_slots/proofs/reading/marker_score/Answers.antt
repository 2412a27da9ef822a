use Rattle.std.proofs.Common.{arith, rules, ap, sym, ◌∙◌, ◌<◌, ◌≤◌, ◌≡◌, ◌+◌, length, get_or}
use Rattle.std.proofs.lemmas.List.Elements.{All-get_or}
use Rattle.std.proofs.lemmas.Nat.{row_fits}
use Rattle.hpe_base.specs.Parameters.{sending_slots, symbol_slots, positions}
use Rattle.hpe_slots.proofs.Scoring.{Scoring-none, Scoring-more, Scoring-all}
use Rattle.hpe_slots.proofs.reading.marker_score.Goals as goal

pub loop-symbol-init : goal.loop-symbol-init
loop-symbol-init c = Scoring-none _ _

pub slice_bounds-pulse_sum-end : goal.slice_bounds-pulse_sum-end
slice_bounds-pulse_sum-end c =
    let here : c.loop-symbol.symbol-index < length c.args.p.now.marker = omega (arith, ap length c.marker-symbol-items.ensures.value) in
    let room : c.loop-symbol.start + c.symbol_slots-symbol_size.result ≤ length c.args.window.now =
    omega (arith, row_fits c.loop-symbol.symbol-index (symbol_slots c.args.p.now) (length c.args.p.now.marker) (symbol_slots c.args.p.now) here (omega arith), c.symbol_slots-symbol_size.ensures.value, c.loop-symbol.invariant.next) in
    search (rules, room)

pub loop-symbol-preserved : goal.loop-symbol-preserved
loop-symbol-preserved c =
    let here : c.loop-symbol.symbol-index < length c.args.p.now.marker = omega (arith, ap length c.marker-symbol-items.ensures.value) in
    let symbol : get_or c.marker-symbol-items.result.now c.loop-symbol.symbol-index 0 ≡ get_or c.args.p.now.marker c.loop-symbol.symbol-index 0 =
    ap (λ m. get_or m c.loop-symbol.symbol-index 0) c.marker-symbol-items.ensures.value in
    let low : get_or c.args.p.now.marker c.loop-symbol.symbol-index 0 < positions c.args.p.now.order =
    All-get_or (λ v. v < positions c.args.p.now.order) c.args.p.now.marker c.loop-symbol.symbol-index 0 here c.marker-symbol-items.ensures.valid.marker_value in
    let size : c.sending_slots-size.result ≡ sending_slots c.args.p.now.order = c.sending_slots-size.ensures.value ∙ ap sending_slots c.order.ensures.value in
    let pulses = rw (size, c.repeat-repeat.ensures.value) at c.pulse_sum-score.ensures.value in
    Scoring-more _ _ c.loop-symbol.symbol-index c.loop-symbol.start _ c.loop-symbol.score _ _ (ap (λ q. c.loop-symbol.start + q) (sym c.symbol_slots-symbol_size.ensures.value)) symbol
    (omega (arith, symbol, low)) pulses (omega arith) c.loop-symbol.invariant

pub returns-clause-value : goal.returns-clause-value
returns-clause-value c = Scoring-all _ _ c.loop-symbol.symbol-index _ _ (omega (arith, ap length c.marker-symbol-items.ensures.value)) c.loop-symbol.invariant
