-- The counts at the pulses of a codeword marker.
use Rattle.std.proofs.Common.{◌≡◌, ◌≤◌, ◌<◌, ◌+◌, ◌*◌, ℕ, List, length, get_or, sum, arith, ap, ◌∙◌, sym}
use Rattle.std.specs.List.{between}
use Rattle.std.proofs.lemmas.List.Edits.{get_or-between}
use Rattle.std.proofs.lemmas.Nat.{row_fits}
use Rattle.hpe_base.specs.Lists.{tabulate}
use Rattle.hpe_base.specs.Parameters.{Parameters, sending_slots, symbol_slots}
use Rattle.hpe_base.specs.MarkerSearch.{marker_sum, pulse_place}
use Rattle.hpe_base.proofs.Tabulated.{tabulate-same, sum-tabulate-more, sum-tabulate-none}

-- the count at the pulse of sending i
abbrev pub pulse_count : ℕ → ℕ → List ℕ → ℕ → ℕ
pulse_count symbol size slots i = get_or slots (i * size + symbol) 0

-- after n sendings: the sum of the counts at their pulses, and the next pulse is at `place`
pub record Summing (symbol size : ℕ) (slots : List ℕ) (n place total : ℕ) : Type 0 where
  pub next : place ≡ n * size + symbol
  pub value : total ≡ sum (tabulate n (pulse_count symbol size slots))
  pub most : total ≤ n * 65535

-- before the first sending
pub Summing-none : (symbol size : ℕ) (slots : List ℕ) → Summing symbol size slots 0 symbol 0
Summing-none symbol size slots = record {
  next = omega arith;
  value = sym (sum-tabulate-none (pulse_count symbol size slots));
  most = omega arith;
}

-- one more sending
pub Summing-more : (symbol size : ℕ) (slots : List ℕ) (n place total count : ℕ) → count ≡ get_or slots place 0 → count < 65536 →
    Summing symbol size slots n place total → Summing symbol size slots (n + 1) (place + size) (total + count)
Summing-more symbol size slots n place total count read octet s =
    let at : count ≡ pulse_count symbol size slots n = read ∙ ap (λ k. get_or slots k 0) s.next in
    record {
      next = let more : (n + 1) * size ≡ n * size + size = grind arith in omega (arith, s.next);
      value = ap (λ x. total + x) at ∙ (ap (λ x. x + pulse_count symbol size slots n) s.value ∙ sym (sum-tabulate-more n (pulse_count symbol size slots)));
      most = omega (arith, s.most);
    }

-- the sum of the counts at the pulses of symbol r of a marker at the start of the window
abbrev pub symbol_pulses : Parameters → List ℕ → ℕ → ℕ
symbol_pulses p window r = sum (tabulate p.repeat (λ i. get_or window (0 + pulse_place p r i) 0))

-- after n symbols, which end before `start`: the sum of the counts at their pulses
pub record Scoring (p : Parameters) (window : List ℕ) (n start score : ℕ) : Type 0 where
  pub next : start ≡ n * symbol_slots p
  pub value : score ≡ sum (tabulate n (symbol_pulses p window))
  pub most : score ≤ n * 2097120

-- before the first symbol
pub Scoring-none : (p : Parameters) (window : List ℕ) → Scoring p window 0 0 0
Scoring-none p window = record {
  next = omega arith;
  value = sym (sum-tabulate-none (symbol_pulses p window));
  most = omega arith;
}

-- one more symbol, with its slots from `start` to `end`
pub Scoring-more : (p : Parameters) (window : List ℕ) (n start end score total symbol : ℕ) → start + symbol_slots p ≡ end → symbol ≡ get_or p.marker n 0 →
    symbol < sending_slots p.order → total ≡ sum (tabulate p.repeat (pulse_count symbol (sending_slots p.order) (between start end window))) → total ≤ 2097120 →
    Scoring p window n start score → Scoring p window (n + 1) end (score + total)
Scoring-more p window n start end score total symbol slots at low value most s =
    let count : (i : ℕ) → i < p.repeat → pulse_count symbol (sending_slots p.order) (between start end window) i ≡ get_or window (0 + pulse_place p n i) 0 =
    λ i b. let room : i * sending_slots p.order + sending_slots p.order ≤ symbol_slots p = row_fits i (sending_slots p.order) p.repeat (sending_slots p.order) b (omega arith) in
    let place : start + (i * sending_slots p.order + symbol) ≡ 0 + pulse_place p n i = omega (arith, s.next, at) in
    get_or-between window start end (i * sending_slots p.order + symbol) 0 (omega arith) ∙ ap (λ k. get_or window k 0) place in
    let whole : total ≡ symbol_pulses p window n =
    value ∙ ap sum (tabulate-same p.repeat _ _ count) in
    record {
      next = let more : (n + 1) * symbol_slots p ≡ n * symbol_slots p + symbol_slots p = grind arith in omega (arith, s.next);
      value = ap (λ x. score + x) whole ∙ (ap (λ x. x + symbol_pulses p window n) s.value ∙ sym (sum-tabulate-more n (symbol_pulses p window)));
      most = omega (arith, s.most);
    }

-- all symbols
pub Scoring-all : (p : Parameters) (window : List ℕ) (n start score : ℕ) → n ≡ length p.marker → Scoring p window n start score → score ≡ marker_sum p window 0
unfolding marker_sum
Scoring-all p window n start score all s = s.value ∙ ap (λ k. sum (tabulate k (symbol_pulses p window))) all
