-- The numbers of a report fit 64 bits.
use Rattle.std.proofs.Common.{◌≡◌, ◌+◌, ◌*◌, ◌<◌, ◌≤◌, ◌^◌, ℕ, arith, inl, inr, Fits, w64}
use Rattle.std.proofs.lemmas.Nat.{mul-le, pow_pos}
use Rattle.std.proofs.lemmas.Bool.{cases_lt}
use Rattle.std.proofs.lemmas.Grind.{div_ceil_times}
use Rattle.hpe_base.specs.Parameters.{Parameters, IsValid, interleaver_depth, positions, codeword_symbols, period_slots, symbol_bits}
use Rattle.hpe_base.specs.Slots.{flush_words}
use Rattle.hpe_base.proofs.ParameterLemmas.{codeword_symbols-ge}

first_factor : (a b most : ℕ) → 0 < b → a * b ≤ most → a ≤ most
first_factor a b most some h = grind arith

last_factor : (a b most : ℕ) → 0 < a → a * b ≤ most → b ≤ most
last_factor a b most some h = grind arith

ceil : (d s f : ℕ) → 0 < s → f * s < d + s → f ≤ d
ceil d s f some h = elim (cases_lt d f) [
  | inl more ↦
      let far : (d + 1) * s ≤ f * s = mul-le (d + 1) s f s (omega arith) (omega arith) in
      let near : d * 1 ≤ d * s = mul-le d 1 d s (omega arith) some in
      let step : (d + 1) * s ≡ d * s + s = grind arith in
      absurd (omega arith)
  | inr within ↦ omega arith
]

pub slots_fit : (p : Parameters) → IsValid p → (words : ℕ) → words ≤ 2 ^ 34
    → Fits w64 ((words + flush_words p) * period_slots p)
slots_fit p v words most =
    let s : ℕ = codeword_symbols p.order in
    let some : 0 < s = omega (arith, codeword_symbols-ge p.order) in
    let flush : flush_words p ≤ interleaver_depth p =
    ceil (interleaver_depth p) s (flush_words p) some (div_ceil_times (interleaver_depth p) s some).1 in
    let depth : interleaver_depth p ≤ 2 ^ 26 =
    first_factor (interleaver_depth p) (positions p.order) (2 ^ 26) (pow_pos (symbol_bits p.order)) v.depth in
    let period : period_slots p ≤ 2 ^ 26 =
    last_factor p.search (period_slots p) (2 ^ 26) (omega (arith, v.range.search_low)) v.window in
    let all : (words + flush_words p) * period_slots p ≤ (2 ^ 34 + 2 ^ 26) * 2 ^ 26 =
    mul-le (words + flush_words p) (period_slots p) (2 ^ 34 + 2 ^ 26) (2 ^ 26) (omega arith) period in
    omega arith
