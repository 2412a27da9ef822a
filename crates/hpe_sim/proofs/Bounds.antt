-- Bounds on the slots of a simulation.
use Rattle.std.proofs.Common.{◌≡◌, ◌≤◌, ◌+◌, ◌*◌, ◌^◌, ◌∙◌, ℕ, arith, ap, ap₂}
use Rattle.std.specs.Int.{div_ceil}
use Rattle.std.proofs.Math.Pow.{pow_pos}
use Rattle.std.proofs.lemmas.Nat.{mul-le}
use Rattle.hpe_base.specs.declared.measures.Measures.{Measures}
use Rattle.hpe_base.specs.Geometry.{measures_of}
use Rattle.hpe_base.specs.Parameters.{Parameters, IsValid, positions, symbol_bits, block_bits, interleaver_depth, codeword_symbols}
use Rattle.hpe_base.specs.FrameScan.{span_bits}
use Rattle.hpe_base.specs.Slots.{flush_words}
use Rattle.hpe_base.proofs.ParameterLemmas.{block_bits-pos, codeword_symbols-ge, period-le, period_is}
use Rattle.hpe_sim.specs.Simulated.{words_for}
use Rattle.hpe_base.proofs.SentSlots.{ceil_le}

-- few codewords flush the channel interleaver
flush_few : (p : Parameters) → IsValid p → flush_words p ≤ 2 ^ 26
flush_few p v =
    let all : interleaver_depth p * 1 ≤ interleaver_depth p * positions p.order = mul-le (interleaver_depth p) 1 (interleaver_depth p) (positions p.order) (omega arith) (pow_pos (symbol_bits p.order)) in
    let few = ceil_le (interleaver_depth p) (codeword_symbols p.order) (omega (arith, codeword_symbols-ge p.order)) in
    omega (arith, v.depth)

-- frames have few bits
bits_few : (p : Parameters) (frames : ℕ) → IsValid p → frames ≤ 65535 → frames * span_bits p ≤ 2 ^ 36
bits_few p frames v few =
    let octets = v.range.frame_high in
    let all : frames * span_bits p ≤ 65535 * 524320 = mul-le frames (span_bits p) 65535 524320 few (omega arith) in
    omega arith

-- and fill few codewords
words_few : (p : Parameters) (frames : ℕ) → IsValid p → frames ≤ 65535 → words_for p frames ≤ 2 ^ 36
words_few p frames v few =
    let bits = bits_few p frames v few in
    let words = ceil_le (frames * span_bits p) (block_bits p.rate) (block_bits-pos p.rate) in
    omega arith

-- words and flush, and their slots, fit in a number of 64 bits
slots_few : (words flush period : ℕ) → words ≤ 2 ^ 36 → flush ≤ 2 ^ 26 → period ≤ 2 ^ 26 → (words + flush) * period ≤ 2 ^ 63
slots_few words flush period a b c =
    let all : (words + flush) * period ≤ (2 ^ 36 + 2 ^ 26) * 2 ^ 26 = mul-le (words + flush) period (2 ^ 36 + 2 ^ 26) (2 ^ 26) (omega arith) c in
    omega arith

-- the same by the measures
pub slots_fit : (p : Parameters) (m : Measures) (frames bits words : ℕ) → IsValid p → m ≡ measures_of p → frames ≤ 65535 → bits ≡ span_bits p → words ≡ div_ceil (frames * bits) m.block
    → (words + m.flush) * m.period ≤ 2 ^ 63
slots_fit p m frames bits words v measured few span count =
    let all : words ≡ words_for p frames = count ∙ ap₂ (λ b k. div_ceil (frames * b) k) span (ap (λ (x : Measures). x.block) measured) in
    let flush : m.flush ≡ flush_words p = ap (λ (x : Measures). x.flush) measured in
    slots_few words m.flush m.period (omega (arith, all, words_few p frames v few)) (omega (arith, flush, flush_few p v)) (omega (arith, period_is m p measured, period-le p v))
