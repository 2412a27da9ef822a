-- The counts of periods of slots behind dark ones, place by place.
use Rattle.std.proofs.Common.{◌≡◌, ◌+◌, ◌-◌, ◌*◌, ◌/◌, ◌%◌, ◌<◌, ◌≤◌, ◌++◌, ℕ, List, length, get_or, refl, sym, ◌∙◌, ap, arith, inl, inr}
use Rattle.std.specs.Prelude.{if◌then◌else◌, ◌==◌, nat_lt}
use Rattle.std.proofs.lemmas.Nat.{div-mul-add, mod-mul-add, row_fits}
use Rattle.std.proofs.lemmas.Bool.{cases_lt}
use Rattle.std.proofs.lemmas.Bool.Decides.{nat_tests}
use Rattle.std.proofs.lemmas.List.{get_or_append_left, get_or-append_right, length-append, get_or-replicate, get_or_past}
use Rattle.hpe_base.specs.Lists.{tabulate}
use Rattle.hpe_base.specs.Bits.{zeros}
use Rattle.hpe_base.specs.Parameters.{Parameters, sending_slots, symbol_slots, period_symbols, period_slots, codeword_symbols}
use Rattle.hpe_base.specs.Slots.{slot_at}
use Rattle.hpe_base.proofs.Tabulated.{length-tabulate, get_or-tabulate}
use Rattle.hpe_base.proofs.BitLists.{length-zeros}

-- slots behind d dark ones
abbrev pub behind : ℕ → List ℕ → List ℕ
behind d slots = zeros d ++ slots

-- the counts of n periods of symbols behind d dark slots
abbrev pub seen : Parameters → List ℕ → ℕ → ℕ → List ℕ
seen p symbols n d = behind d (tabulate (n * period_slots p) (slot_at p symbols))

-- symbol r of period g, the marker's first
abbrev pub symbol_in : Parameters → List ℕ → ℕ → ℕ → ℕ
symbol_in p symbols g r =
    if nat_lt r (length p.marker) then get_or p.marker r 0 else get_or symbols (g * codeword_symbols p.order + r - length p.marker) 0

place_eq : (g s q w r i b : ℕ) → g * (s * (q * w)) + (r * (q * w) + (i * w + b)) ≡ ((g * s + r) * q + i) * w + b
place_eq g s q w r i b = grind arith

-- slot b of sending i of symbol r of period g
slot_of : (p : Parameters) (symbols : List ℕ) (g r i b : ℕ) → r < period_symbols p → i < p.repeat → b < sending_slots p.order →
    slot_at p symbols (g * period_slots p + (r * symbol_slots p + (i * sending_slots p.order + b))) ≡ (if b == symbol_in p symbols g r then 1 else 0)
slot_of p symbols g r i b hr hi hb =
    let q = p.repeat in
    let w = sending_slots p.order in
    let s = period_symbols p in
    let sending : (((g * s + r) * q + i) * w + b) / w ≡ (g * s + r) * q + i = div-mul-add ((g * s + r) * q + i) w b hb in
    let within : (((g * s + r) * q + i) * w + b) % w ≡ b = mod-mul-add ((g * s + r) * q + i) w b hb in
    let place : ((g * s + r) * q + i) / q ≡ g * s + r = div-mul-add (g * s + r) q i hi in
    let period : (g * s + r) / s ≡ g = div-mul-add g s r hr in
    let row : (g * s + r) % s ≡ r = mod-mul-add g s r hr in
    ap (slot_at p symbols) (place_eq g s q w r i b) ∙ rw (sending, within, place, period, row) refl

-- a slot of a period ends within it
within_period : (p : Parameters) (r i b : ℕ) → r < period_symbols p → i < p.repeat → b < sending_slots p.order →
    r * symbol_slots p + (i * sending_slots p.order + b) < period_slots p
within_period p r i b hr hi hb =
    let sending : i * sending_slots p.order + sending_slots p.order ≤ symbol_slots p = row_fits i (sending_slots p.order) p.repeat (sending_slots p.order) hi (omega arith) in
    let symbol : r * symbol_slots p + symbol_slots p ≤ period_slots p = row_fits r (symbol_slots p) (period_symbols p) (symbol_slots p) hr (omega arith) in
    omega arith

pub length-behind : (d : ℕ) (slots : List ℕ) → length (behind d slots) ≡ d + length slots
length-behind d slots = length-append (zeros d) slots ∙ ap (λ n. n + length slots) (length-zeros d)

pub clear_before : (d i : ℕ) (slots : List ℕ) → i < d → get_or (behind d slots) i 0 ≡ 0
unfolding zeros
clear_before d i slots h = get_or_append_left (zeros d) slots 0 i (omega (arith, length-zeros d)) ∙ get_or-replicate d i 0 0 h

pub clear_after : (d i : ℕ) (slots : List ℕ) → get_or (behind d slots) (d + i) 0 ≡ get_or slots i 0
clear_after d i slots =
    let back : d + i - d ≡ i = omega arith in
    get_or-append_right (zeros d) slots d (d + i) 0 (length-zeros d) (omega arith) ∙ ap (λ k. get_or slots k 0) back

pub length-seen : (p : Parameters) (symbols : List ℕ) (n d : ℕ) → length (seen p symbols n d) ≡ d + n * period_slots p
length-seen p symbols n d = length-behind d _ ∙ ap (λ k. d + k) (length-tabulate (n * period_slots p) (slot_at p symbols))

-- the count of slot b of sending i of symbol r of period g
pub seen_at : (p : Parameters) (symbols : List ℕ) (n d g r i b : ℕ) → g < n → r < period_symbols p → i < p.repeat → b < sending_slots p.order →
    get_or (seen p symbols n d) (d + (g * period_slots p + (r * symbol_slots p + (i * sending_slots p.order + b)))) 0 ≡ (if b == symbol_in p symbols g r then 1 else 0)
seen_at p symbols n d g r i b hg hr hi hb =
    let rows : g * period_slots p + period_slots p ≤ n * period_slots p = row_fits g (period_slots p) n (period_slots p) hg (omega arith) in
    clear_after d _ _
    ∙ (get_or-tabulate (n * period_slots p) (slot_at p symbols) (g * period_slots p + (r * symbol_slots p + (i * sending_slots p.order + b))) 0 (omega (arith, within_period p r i b hr hi hb))
    ∙ slot_of p symbols g r i b hr hi hb)

one_at_most : (a b : ℕ) → (if a == b then 1 else 0) ≤ 1
one_at_most a b = grind (arith, nat_tests)

slots-le : (p : Parameters) (symbols : List ℕ) (n k : ℕ) → get_or (tabulate (n * period_slots p) (slot_at p symbols)) k 0 ≤ 1
slots-le p symbols n k =
    elim (cases_lt k (n * period_slots p)) [
      | inl b ↦ rw (get_or-tabulate (n * period_slots p) (slot_at p symbols) k 0 b) (one_at_most _ _)
      | inr b ↦ rw (get_or_past (tabulate (n * period_slots p) (slot_at p symbols)) k 0 (omega (arith, length-tabulate (n * period_slots p) (slot_at p symbols)))) (omega arith)
    ]

-- no count is more than 1
pub seen-le : (p : Parameters) (symbols : List ℕ) (n d k : ℕ) → get_or (seen p symbols n d) k 0 ≤ 1
seen-le p symbols n d k =
    elim (cases_lt k d) [
      | inl h ↦ rw (clear_before d k (tabulate (n * period_slots p) (slot_at p symbols)) h) (omega arith)
      | inr h ↦
          let e : d + (k - d) ≡ k = omega arith in
          let at : get_or (seen p symbols n d) k 0 ≡ get_or (tabulate (n * period_slots p) (slot_at p symbols)) (k - d) 0 =
          ap (λ i. get_or (seen p symbols n d) i 0) (sym e) ∙ clear_after d (k - d) _ in
          rw at (slots-le p symbols n (k - d))
    ]
