-- Worked numbers of the definitions.
use Rattle.std.proofs.Common.{◌≡◌, ◌+◌, ◌*◌, ◌/◌, ◌%◌, ℕ, ℤ, List, [], ◌∷◌, ◌++◌, true, false, refl, map}
use Rattle.std.specs.Prelude.{replicate, slice_index, codes, pos, negsuc, Some, None}
use Rattle.hpe_base.specs.Lists.{tabulate, joined}
use Rattle.hpe_base.specs.Bits.{bits_of, number_of, zeros}
use Rattle.hpe_base.specs.Parameters.{basic, period_slots}
use Rattle.hpe_base.specs.Randomiser.{randomised, pseudo_random}
use Rattle.hpe_base.specs.Check.{check_bits}
use Rattle.hpe_base.specs.ConvolutionalCode.{code_bits}
use Rattle.hpe_base.specs.CodeInterleaver.{pi, pi_inverse}
use Rattle.hpe_base.specs.Accumulator.{accumulated}
use Rattle.hpe_base.specs.Mapper.{symbols_of}
use Rattle.hpe_base.specs.ChannelInterleaver.{interleaved_channel, deinterleaved_channel}
use Rattle.hpe_base.specs.Counts.{counts_of, odd_octets}
use Rattle.hpe_base.specs.Slots.{pulses_of, symbol_octets}
use Rattle.hpe_base.specs.MarkerSearch.{marker_sum, least_greatest}
use Rattle.hpe_base.specs.ReceivedWords.{symbol_sums}
use Rattle.hpe_base.specs.GreatestScores.{top_from, inner_top, information_top, code_top}
use Rattle.hpe_base.specs.SoftValues.{inner_soft_value, information_soft_value, code_soft_value, clamped, scaled}
use Rattle.hpe_base.specs.FrameScan.{scan_start, scan, scan_step, octets_of}
use Rattle.hpe_base.specs.Validity.{columns_of, is_columns, order_of, first_failing}
use Rattle.hpe_base.specs.declared.profile.Order.TheVariants.{P4, P16, P256}

-- the built-in codeword marker follows its formula
marker : tabulate 16 (λ i. 5 * i * (i + 1) / 2 % 16) ≡ basic.marker
unfolding tabulate
marker = refl

-- the slots of a period of the built-in profile
period : period_slots basic ≡ 75920
period = refl

-- the sequence from the built-in seed: what zeros become
randomised_zeros : number_of (randomised basic (replicate 40 0)) ≡ 0xFF480EC09A
unfolding tabulate bits_of pseudo_random
randomised_zeros = refl

-- and what the frame marker becomes
randomised_marker : number_of (randomised basic (bits_of 32 0x1ACFFC1D)) ≡ 0xE587F2DD
unfolding tabulate bits_of pseudo_random
randomised_marker = refl

-- the check of no bit, of the bit 1, of the bit 0, and of 32 ones
checks : map (λ bits. number_of (check_bits 0x20044009 bits)) ([] ∷ (1 ∷ []) ∷ (0 ∷ []) ∷ replicate 32 1 ∷ [])
    ≡ 0xFFFFFFFF ∷ 0xFFFFFFFE ∷ 0xDFFBBFF7 ∷ 0 ∷ []
unfolding check_bits zeros bits_of
checks = refl

-- the answer of the code to a 1, all outputs kept
unpunctured : code_bits ((true ∷ true ∷ true ∷ []) ∷ []) (1 ∷ 0 ∷ 0 ∷ []) ≡ 1 ∷ 1 ∷ 1 ∷ 0 ∷ 1 ∷ 1 ∷ 1 ∷ 1 ∷ 1 ∷ []
unfolding joined
unpunctured = refl

-- and the same punctured by two columns in turn
punctured : code_bits ((true ∷ true ∷ false ∷ []) ∷ (false ∷ true ∷ false ∷ []) ∷ []) (1 ∷ 0 ∷ 0 ∷ []) ≡ 1 ∷ 1 ∷ 1 ∷ 1 ∷ 1 ∷ []
unfolding joined
punctured = refl

-- where the code interleaver takes the bits of the first places and of the last from
places : map pi (0 ∷ 1 ∷ 2 ∷ 15119 ∷ []) ≡ 0 ∷ 221 ∷ 862 ∷ 199 ∷ []
places = refl

-- and back
places_undone : map pi_inverse (199 ∷ 96 ∷ []) ≡ 15119 ∷ 8256 ∷ []
places_undone = refl

-- the running sums of four bits
running : accumulated (1 ∷ 0 ∷ 1 ∷ 0 ∷ []) ≡ 1 ∷ 1 ∷ 0 ∷ 0 ∷ []
unfolding tabulate
running = refl

-- four bits as a symbol
symbol : symbols_of P16 (1 ∷ 1 ∷ 0 ∷ 0 ∷ []) ≡ 12 ∷ []
unfolding tabulate
symbol = refl

-- three rows, delays of 0, 3 and 6 places
channel : interleaved_channel (record basic { rows = 3 }) (10 ∷ 11 ∷ 12 ∷ 13 ∷ 14 ∷ 15 ∷ 16 ∷ 17 ∷ 18 ∷ [])
    ≡ 10 ∷ 0 ∷ 0 ∷ 13 ∷ 11 ∷ 0 ∷ 16 ∷ 14 ∷ 12 ∷ []
unfolding interleaved_channel tabulate
channel = refl

-- and in order again
channel_undone : deinterleaved_channel {V = ℕ} (record basic { rows = 3 }) 0 (10 ∷ 0 ∷ 0 ∷ 13 ∷ 11 ∷ 0 ∷ 16 ∷ 14 ∷ 12 ∷ []) ≡ 10 ∷ 11 ∷ 12 ∷ []
unfolding deinterleaved_channel tabulate
channel_undone = refl

-- a symbol of four positions and a guard slot, sent twice
pulses : pulses_of (record basic { order = P4; repeat = 2 }) 2 ≡ 0 ∷ 0 ∷ 1 ∷ 0 ∷ 0 ∷ 0 ∷ 0 ∷ 1 ∷ 0 ∷ 0 ∷ []
unfolding pulses_of tabulate
pulses = refl

-- at two octets a slot, the low octet has the pulse
pulses_two : symbol_octets (record basic { order = P4; repeat = 2; count_octets = 2 }) 2
    ≡ 0 ∷ 0 ∷ 0 ∷ 0 ∷ 0 ∷ 1 ∷ 0 ∷ 0 ∷ 0 ∷ 0 ∷ 0 ∷ 0 ∷ 0 ∷ 0 ∷ 0 ∷ 1 ∷ 0 ∷ 0 ∷ 0 ∷ 0 ∷ []
unfolding symbol_octets tabulate
pulses_two = refl

-- the counts of octets, an odd one left out
counts_one : counts_of basic (1 ∷ 2 ∷ 255 ∷ []) ≡ 1 ∷ 2 ∷ 255 ∷ []
unfolding counts_of tabulate
counts_one = refl

-- at two octets a count, the high octet first
counts_two : counts_of (record basic { count_octets = 2 }) (1 ∷ 2 ∷ 255 ∷ 255 ∷ 9 ∷ []) ≡ 258 ∷ 65535 ∷ []
unfolding counts_of tabulate
counts_two = refl

-- the octets that are left over
odd : map (odd_octets (record basic { count_octets = 2 })) ([] ∷ (9 ∷ []) ∷ (9 ∷ 9 ∷ []) ∷ []) ≡ 0 ∷ 1 ∷ 0 ∷ []
odd = refl

-- a sum of counts is cut
cut_sums : symbol_sums (record basic { order = P4; repeat = 1 }) (16382 ∷ 16383 ∷ 16384 ∷ 65535 ∷ 0 ∷ []) 0 ≡ 16382 ∷ 16383 ∷ 16383 ∷ 16383 ∷ []
unfolding symbol_sums tabulate
cut_sums = refl

-- two sendings of four positions and one guard slot: position by position, the guard slots left out
sums : symbol_sums (record basic { order = P4; repeat = 2 }) (1 ∷ 2 ∷ 3 ∷ 4 ∷ 9 ∷ 10 ∷ 20 ∷ 30 ∷ 40 ∷ 9 ∷ []) 0 ≡ 11 ∷ 22 ∷ 33 ∷ 44 ∷ []
unfolding symbol_sums tabulate
sums = refl

-- a marker of the symbols 2 and 0, each sent twice: the counts at places 2, 7, 10 and 15, and then from slot 1 on
marker_sums : map (marker_sum (record basic { order = P4; repeat = 2; marker = 2 ∷ 0 ∷ [] }) (tabulate 20 (λ i. i))) (0 ∷ 1 ∷ 5 ∷ []) ≡ 34 ∷ 38 ∷ 34 ∷ []
unfolding marker_sum tabulate
marker_sums = refl

-- the least of the places of the greatest value
least : map (least_greatest (slice_index (3 ∷ 5 ∷ 1 ∷ 5 ∷ 2 ∷ []))) (1 ∷ 2 ∷ 5 ∷ []) ≡ 0 ∷ 1 ∷ 1 ∷ []
least = refl

-- two groups of flags with one space between them, and with two
columns : columns_of (codes "110 010") ≡ (true ∷ true ∷ false ∷ []) ∷ (false ∷ true ∷ false ∷ []) ∷ []
unfolding tabulate
columns = refl

-- only one space stands between groups, and none behind
columns_right : map is_columns (codes "110 010" ∷ codes "110  010" ∷ codes "110 " ∷ []) ≡ true ∷ false ∷ false ∷ []
columns_right = refl

-- 5 is no order
orders : map order_of (pos 4 ∷ pos 5 ∷ pos 256 ∷ []) ≡ Some P4 ∷ None ∷ Some P256 ∷ []
orders = refl

-- the first test that fails
first : first_failing {X = ℕ} ((0, true) ∷ (1, false) ∷ (2, false) ∷ []) ≡ Some 1
unfolding first_failing
first = refl

-- the soft values of the two bits of one symbol with the counts 0 3 1 0
inner_soft : map (inner_soft_value P4 (0 ∷ 3 ∷ 1 ∷ 0 ∷ []) (pos 0 ∷ pos 0 ∷ [])) (0 ∷ 1 ∷ []) ≡ negsuc 1 ∷ pos 3 ∷ []
unfolding tabulate top_from inner_top inner_soft_value
inner_soft = refl

-- two information bits without puncturing, of which the outputs of the first step have the number 1
ones_then_zeros : List ℤ
ones_then_zeros = pos 1 ∷ pos 1 ∷ pos 1 ∷ replicate 9 (pos 0)

-- the soft values of the information bits
information_soft : map (information_soft_value ((true ∷ true ∷ true ∷ []) ∷ []) ones_then_zeros 2) (0 ∷ 1 ∷ []) ≡ pos 3 ∷ pos 0 ∷ []
unfolding joined ones_then_zeros top_from information_top information_soft_value
information_soft = refl

-- and those of code bits
code_soft : map (code_soft_value ((true ∷ true ∷ true ∷ []) ∷ []) ones_then_zeros 2) (0 ∷ 1 ∷ 2 ∷ 3 ∷ 6 ∷ 11 ∷ []) ≡ pos 3 ∷ pos 3 ∷ pos 3 ∷ pos 0 ∷ pos 3 ∷ pos 0 ∷ []
unfolding joined ones_then_zeros top_from code_top code_soft_value
code_soft = refl

-- numbers past the clamp, and one within it
clamps : map clamped (pos 16384 ∷ negsuc 20000 ∷ pos 5 ∷ []) ≡ pos 16383 ∷ negsuc 16382 ∷ pos 5 ∷ []
clamps = refl

-- eighths, rounded away from zero
scales : map (λ (z : ℤ × ℕ). scaled z.1 z.0) ((pos 0, 3) ∷ (pos 1, 1) ∷ (negsuc 0, 1) ∷ (negsuc 8, 4) ∷ (pos 16383, 6) ∷ (pos 16383, 8) ∷ [])
    ≡ pos 0 ∷ pos 1 ∷ negsuc 0 ∷ negsuc 4 ∷ pos 12288 ∷ pos 16383 ∷ []
scales = refl

-- frames of one octet after a marker of 31 zeros and a one: a bit, frame A5, a span of which a bit is unknown, frame 3C
scanned : (scan (record basic { frame_octets = 1; frame_marker = 1 })
    (1 ∷ bits_of 32 1 ++ bits_of 8 0xA5 ++ replicate 39 1 ++ 2 ∷ bits_of 32 1 ++ bits_of 8 0x3C) 4 scan_start).frames
    ≡ (0xA5 ∷ []) ∷ (0x3C ∷ []) ∷ []
unfolding bits_of tabulate octets_of scan scan_step
scanned = refl
