-- How many slots octets make: fewer octets have no more slots.
use Rattle.std.proofs.Common.{◌≡◌, ◌≤◌, ◌<◌, ◌+◌, ◌*◌, ◌/◌, ◌∙◌, ◌++◌, ◌==◌, ℕ, zero, suc, List, [], length, Bool, false, arith, if◌then◌else◌, ap, sym, inl, inr}
use Rattle.std.specs.Int.{div_ceil}
use Rattle.std.proofs.Math.Nat.{div-mul-le_self, div-zero, le-div_iff_mul-le}
use Rattle.std.proofs.lemmas.Nat.{div-mul-add, mul-le}
use Rattle.std.proofs.lemmas.Bool.{cases_lt}
use Rattle.std.proofs.lemmas.Bool.Decides.{nat_tests}
use Rattle.std.proofs.lemmas.Grind.{div_ceil_times}
use Rattle.hpe_base.specs.Bits.{zeros}
use Rattle.hpe_base.specs.Codeword.{word_symbols}
use Rattle.hpe_base.specs.Lists.{joined}
use Rattle.hpe_base.specs.Parameters.{Parameters, block_bits, codeword_symbols, period_slots}
use Rattle.hpe_base.specs.Frames.{frame_bits, frame_count, bit_stream}
use Rattle.hpe_base.specs.FrameScan.{span_bits}
use Rattle.hpe_base.specs.Slicer.{block_count}
use Rattle.hpe_base.specs.Slots.{slots_of, octets_to, octet_at, period_count, flush_words, sent_symbols}
use Rattle.hpe_base.specs.ChannelInterleaver.{interleaved_channel}
use Rattle.hpe_base.proofs.ParameterLemmas.{block_bits-pos}
use Rattle.hpe_base.proofs.Tabulated.{joined-none, length-tabulate}
use Rattle.hpe_base.proofs.Shapes.{length-bit_stream}

-- whole frames of the octets
pub frame_count-whole : (p : Parameters) (octets : List ℕ) (frames : ℕ) → 1 ≤ p.frame_octets → length octets ≡ frames * p.frame_octets → frame_count p octets ≡ frames
frame_count-whole p octets frames some e =
    let long : length octets ≡ frames * p.frame_octets + 0 = omega arith in
    ap (λ n. n / p.frame_octets) long ∙ div-mul-add frames p.frame_octets 0 (omega arith)

-- a quotient that is rounded up is no more than what is divided
pub ceil_le : (n d : ℕ) → 0 < d → div_ceil n d ≤ n
ceil_le n d some =
    let x = div_ceil_times n d some in
    elim (cases_lt n (div_ceil n d)) [
      | inl less ↦
          let up : (n + 1) * d ≤ div_ceil n d * d = mul-le (n + 1) d (div_ceil n d) d (omega arith) (omega arith) in
          let two : (n + 1) * d ≡ n * d + d = grind arith in
          let one : n * 1 ≤ n * d = mul-le n 1 n d (omega arith) (omega arith) in
          absurd (omega (arith, x.1))
      | inr le ↦ le
    ]

-- nor does it fall where what is divided grows
ceil_up : (a b d : ℕ) → 0 < d → a ≤ b → div_ceil a d ≤ div_ceil b d
ceil_up a b d some h =
    let x = div_ceil_times a d some in
    let y = div_ceil_times b d some in
    elim (cases_lt (div_ceil b d) (div_ceil a d)) [
      | inl less ↦
          let up : (div_ceil b d + 1) * d ≤ div_ceil a d * d = mul-le (div_ceil b d + 1) d (div_ceil a d) d (omega arith) (omega arith) in
          let two : (div_ceil b d + 1) * d ≡ div_ceil b d * d + d = grind arith in
          absurd (omega (arith, x.1, y.0))
      | inr le ↦ le
    ]

-- the periods of so many words
abbrev periods : ℕ → ℕ → ℕ
periods flush words = if words == 0 then 0 else words + flush

not_zero : (v : ℕ) → (suc v == 0) ≡ false
not_zero v = grind (arith, nat_tests)

periods-suc : (flush v : ℕ) → periods flush (suc v) ≡ suc v + flush
periods-suc flush v = ap (λ (b : Bool). if b then 0 else suc v + flush) (not_zero v)

periods_up : (flush v w : ℕ) → v ≤ w → periods flush v ≤ periods flush w
periods_up flush zero w h = omega arith
periods_up flush (suc v) zero h = absurd (omega arith)
periods_up flush (suc v) (suc w) h = omega (arith, periods-suc flush v, periods-suc flush w)

blocks_up : (p : Parameters) (xs ys : List ℕ) → 1 ≤ p.frame_octets → 0 < block_bits p.rate → length xs ≤ length ys → block_count p xs ≤ block_count p ys
blocks_up p xs ys some wide h =
    let back : frame_count p xs * p.frame_octets ≤ length xs = div-mul-le_self (length xs) p.frame_octets in
    let frames : frame_count p xs ≤ frame_count p ys = (le-div_iff_mul-le some).1 (omega arith) in
    let bits : frame_count p xs * (span_bits p) ≤ frame_count p ys * (span_bits p) = mul-le (frame_count p xs) (span_bits p) (frame_count p ys) (span_bits p) frames (omega arith) in
    ceil_up (length (bit_stream p xs)) (length (bit_stream p ys)) (block_bits p.rate) wide (omega (arith, bits, length-bit_stream p xs, length-bit_stream p ys))

length-slots : (p : Parameters) (octets : List ℕ) → length (slots_of p octets) ≡ p.count_octets * (periods (flush_words p) (block_count p octets) * period_slots p)
unfolding slots_of octets_to
length-slots p octets = length-tabulate (p.count_octets * (period_count p octets * period_slots p)) (octet_at p (interleaved_channel p (sent_symbols p octets)))

-- fewer octets have no more slots
slots_up : (p : Parameters) (xs ys : List ℕ) → 1 ≤ p.frame_octets → 0 < block_bits p.rate → length xs ≤ length ys → length (slots_of p xs) ≤ length (slots_of p ys)
slots_up p xs ys some wide h =
    let few = periods_up (flush_words p) (block_count p xs) (block_count p ys) (blocks_up p xs ys some wide h) in
    let x : ℕ = periods (flush_words p) (block_count p xs) * period_slots p in
    let y : ℕ = periods (flush_words p) (block_count p ys) * period_slots p in
    let all : x ≤ y = mul-le (periods (flush_words p) (block_count p xs)) (period_slots p) (periods (flush_words p) (block_count p ys)) (period_slots p) few (omega arith) in
    let octets : p.count_octets * x ≤ p.count_octets * y = mul-le p.count_octets x p.count_octets y (omega arith) all in
    omega (arith, length-slots p xs, length-slots p ys)

-- no frame is whole where a frame has no octet
no_bits : (p : Parameters) (octets : List ℕ) → p.frame_octets ≡ 0 → bit_stream p octets ≡ []
unfolding bit_stream
no_bits p octets none =
    let frames : frame_count p octets ≡ 0 = ap (λ n. length octets / n) none ∙ div-zero (length octets) in
    ap (λ n. joined n (frame_bits p octets)) frames ∙ joined-none (frame_bits p octets)

-- slots are those of the bit stream
slots_by_bits : (p : Parameters) (xs ys : List ℕ) → bit_stream p xs ≡ bit_stream p ys → slots_of p xs ≡ slots_of p ys
unfolding slots_of
slots_by_bits p xs ys e = ap
    (λ (bits : List ℕ). octets_to p
    (if div_ceil (length bits) (block_bits p.rate) == 0 then 0 else div_ceil (length bits) (block_bits p.rate) + flush_words p)
    (joined (div_ceil (length bits) (block_bits p.rate)) (word_symbols p bits) ++ zeros (flush_words p * codeword_symbols p.order))) e

-- there are no more, however many octets a frame has
pub fewer_slots : (p : Parameters) (xs ys : List ℕ) → length xs ≤ length ys → length (slots_of p xs) ≤ length (slots_of p ys)
fewer_slots p xs ys h = elim (cases_lt 0 p.frame_octets) [
  | inl some ↦ slots_up p xs ys (omega arith) (block_bits-pos p.rate) h
  | inr none ↦
      let zero : p.frame_octets ≡ 0 = omega arith in
      omega (arith, ap (λ (l : List ℕ). length l) (slots_by_bits p xs ys (no_bits p xs zero ∙ sym (no_bits p ys zero))))
]
