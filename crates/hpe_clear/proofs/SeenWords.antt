-- The words of a clear channel: the pulses of the codewords that were sent.
use Rattle.std.proofs.Common.{◌≡◌, ◌+◌, ◌-◌, ◌*◌, ◌/◌, ◌%◌, ◌<◌, ◌≤◌, ℕ, List, [], length, get_or, map, take, drop, sym, ◌∙◌, ap, arith, inl, inr}
use Rattle.std.specs.Prelude.{if◌then◌else◌, ◌==◌, slice_range}
use Rattle.std.specs.List.{flat_map}
use Rattle.std.proofs.lemmas.Nat.{div-mul-add, mod-mul-add}
use Rattle.std.proofs.lemmas.Bool.Decides.{nat_tests}
use Rattle.std.proofs.lemmas.Bool.{cases_eq}
use Rattle.std.proofs.lemmas.List.{length-map, length-take, take-map, drop-map, ext_get_or, get_or-take, get_or-drop}
use Rattle.hpe_base.specs.Lists.{tabulate, joined}
use Rattle.hpe_base.specs.Parameters.{Parameters, IsValid, block_bits, period_slots, codeword_symbols}
use Rattle.hpe_base.specs.Frames.{bit_stream}
use Rattle.hpe_base.specs.Slicer.{block_count, block_from}
use Rattle.hpe_base.specs.Codeword.{codeword, word_symbols}
use Rattle.hpe_base.specs.Slots.{flush_words, sent_symbols, slot_at, octets_to, slots_of, period_count}
use Rattle.hpe_base.specs.Counts.{odd_octets}
use Rattle.hpe_base.proofs.Counts.{counts_of-clear, odd_octets-clear}
use Rattle.hpe_base.specs.ChannelInterleaver.{interleaved_channel, deinterleaved_channel}
use Rattle.hpe_base.specs.MarkerSearch.{Short, At, offset_of}
use Rattle.hpe_base.specs.ReceivedWords.{groups_of, words_from, words_at, received_words}
use Rattle.hpe_base.proofs.Channels.{length-interleaved_channel}
use Rattle.hpe_base.proofs.Pieces.{flat_map-tabulate, length-piece, piece_at, piece_within}
use Rattle.hpe_base.proofs.Tabulated.{length-tabulate, get_or-tabulate, tabulate_from_places, tabulate-none}
use Rattle.hpe_base.proofs.ParameterLemmas.{period-pos}
use Rattle.hpe_base.proofs.MarkerSearch.{offset_of-short}
use Rattle.hpe_base.proofs.Shapes.{length-codeword, length-sent_symbols, length-joined-word_symbols}
use Rattle.hpe_weave.specs.Laws.{ComesBack}
use Rattle.hpe_weave.proofs.Undone.{channel_interleaver_is_undone}
use Rattle.hpe_clear.specs.Laws.{clear_octets, clear_counts, full_score}
use Rattle.hpe_clear.proofs.SeenSlots.{seen, length-seen, length-behind}
use Rattle.hpe_clear.proofs.SeenMarkers.{offset_seen}
use Rattle.hpe_clear.proofs.SeenSymbols.{pulse_sums, symbols_seen, deinterleaved-map}

-- the blocks that are sent
abbrev blocks_sent : Parameters → List ℕ → List (List ℕ)
blocks_sent p octets = tabulate (block_count p octets) (block_from (bit_stream p octets) (block_bits p.rate))

-- the symbols of their codewords
abbrev data_symbols : Parameters → List ℕ → List ℕ
data_symbols p octets = joined (block_count p octets) (word_symbols p (bit_stream p octets))

data_is : (p : Parameters) (octets : List ℕ) → flat_map (codeword p) (blocks_sent p octets) ≡ data_symbols p octets
data_is p octets = flat_map-tabulate (codeword p) (block_count p octets) (block_from (bit_stream p octets) (block_bits p.rate))

-- the symbols in the order in which they are sent
abbrev sent_channel : Parameters → List ℕ → List ℕ
sent_channel p octets = interleaved_channel p (sent_symbols p octets)

-- the periods that are sent
abbrev sent_periods : Parameters → List ℕ → ℕ
sent_periods p octets = block_count p octets + flush_words p

periods_some : (w f : ℕ) → 0 < w → (if w == 0 then 0 else w + f) ≡ w + f
periods_some w f h = grind (arith, nat_tests)

-- the counts of the octets that are sent are the slots
counts_are : (p : Parameters) (octets : List ℕ) (d : ℕ) → IsValid p → clear_counts p octets d ≡ seen p (sent_channel p octets) (period_count p octets) d
unfolding slots_of octets_to
counts_are p octets d v =
    counts_of-clear p d (period_count p octets * period_slots p) (slot_at p (sent_channel p octets)) v.range.count_octets_low v.range.count_octets_high

-- and no octet is odd
pub odd-clear : (p : Parameters) (octets : List ℕ) (d : ℕ) → IsValid p → odd_octets p (clear_octets p octets d) ≡ 0
unfolding slots_of octets_to
odd-clear p octets d v = odd_octets-clear p d (period_count p octets * period_slots p) (slot_at p (sent_channel p octets)) v.range.count_octets_low

counts_are_seen : (p : Parameters) (octets : List ℕ) (d : ℕ) → IsValid p → 0 < block_count p octets →
    clear_counts p octets d ≡ seen p (sent_channel p octets) (sent_periods p octets) d
counts_are_seen p octets d v h =
    counts_are p octets d v ∙ ap (λ n. seen p (sent_channel p octets) n d) (periods_some (block_count p octets) (flush_words p) h)

-- the dark slots are the offset
pub offset_clear : (p : Parameters) (octets : List ℕ) (d : ℕ) → IsValid p → 0 < block_count p octets → d < period_slots p →
    offset_of p (clear_counts p octets d) ≡ At d (full_score p (clear_counts p octets d))
offset_clear p octets d v some h =
    rw (counts_are_seen p octets d v some) (offset_seen p (sent_channel p octets) (sent_periods p octets) d v (omega arith) h)

-- nothing stands behind the last period
pub tail_clear : (p : Parameters) (octets : List ℕ) (d : ℕ) → IsValid p → 0 < block_count p octets →
    (length (clear_counts p octets d) - d) % period_slots p ≡ 0
tail_clear p octets d v some =
    let n : ℕ = sent_periods p octets in
    let len : length (clear_counts p octets d) ≡ d + n * period_slots p = ap length (counts_are_seen p octets d v some) ∙ length-seen p _ n d in
    let rest : length (clear_counts p octets d) - d ≡ n * period_slots p + 0 = omega arith in
    ap (λ k. k % period_slots p) rest ∙ mod-mul-add n (period_slots p) 0 (period-pos p v)

-- where there is no block, nothing stands behind the dark slots
pub length-none : (p : Parameters) (octets : List ℕ) (d : ℕ) → IsValid p → block_count p octets ≡ 0 → length (clear_counts p octets d) ≡ d
length-none p octets d v none =
    let periods : period_count p octets * period_slots p ≡ 0 = ap (λ w. (if w == 0 then 0 else w + flush_words p) * period_slots p) none ∙ omega arith in
    ap length (counts_are p octets d v) ∙ length-behind d _ ∙ (ap (λ k. d + k) (length-tabulate (period_count p octets * period_slots p) _ ∙ periods) ∙ omega arith)

-- and the stream is short
pub offset_none : (p : Parameters) (octets : List ℕ) (d : ℕ) → IsValid p → block_count p octets ≡ 0 → d < period_slots p → offset_of p (clear_counts p octets d) ≡ Short
offset_none p octets d v none h = offset_of-short p (clear_counts p octets d) (omega (arith, length-none p octets d v none))

-- pieces of a list that begins with the other
piece_front : (xs ys : List ℕ) (a m : ℕ) → take (length xs) ys ≡ xs → a + m ≤ length xs → slice_range ys a (a + m) ≡ slice_range xs a (a + m)
piece_front xs ys a m front h =
    let long : length xs ≤ length ys = omega (arith, ap length front, length-take (length xs) ys) in
    let same : length (slice_range ys a (a + m)) ≡ length (slice_range xs a (a + m)) = length-piece ys a m (omega arith) ∙ sym (length-piece xs a m h) in
    ext_get_or 0 _ _ same (λ j b.
    let low : j < m = omega (arith, length-piece ys a m (omega arith)) in
    get_or-take (a + m - a) (drop a ys) j 0 (omega arith)
    ∙ (get_or-drop a ys j 0
    ∙ (sym (get_or-take (length xs) ys (a + j) 0 (omega arith))
    ∙ (ap (λ zs. get_or zs (a + j) 0) front
    ∙ (sym (get_or-drop a xs j 0) ∙ sym (get_or-take (a + m - a) (drop a xs) j 0 (omega arith)))))))

-- word w of the symbols that were sent
word_sent : (p : Parameters) (octets : List ℕ) (w : ℕ) → w < block_count p octets →
    slice_range (data_symbols p octets) (w * codeword_symbols p.order) (w * codeword_symbols p.order + codeword_symbols p.order) ≡ word_symbols p (bit_stream p octets) w
word_sent p octets w h =
    let s : ℕ = codeword_symbols p.order in
    ap (λ xs. slice_range xs (w * s) (w * s + s)) (sym (data_is p octets))
    ∙ (piece_at (codeword p) s (length-codeword p) (blocks_sent p octets) w [] (omega (arith, length-tabulate (block_count p octets) (block_from (bit_stream p octets) (block_bits p.rate))))
    ∙ ap (codeword p) (get_or-tabulate (block_count p octets) (block_from (bit_stream p octets) (block_bits p.rate)) w [] h))

-- the sums of the word of block w
abbrev pub word_sums : Parameters → List ℕ → ℕ → List (List ℕ)
word_sums p octets w = map (pulse_sums p) (word_symbols p (bit_stream p octets) w)

slice-map : {X Y : Type 0} (f : X → Y) (xs : List X) (a b : ℕ) → slice_range (map f xs) a b ≡ map f (slice_range xs a b)
slice-map f xs a b = ap (take (b - a)) (drop-map f a xs) ∙ take-map f (b - a) (drop a xs)

-- the words of symbols that begin with those that were sent, and of which fewer than a word follow
words_back : (p : Parameters) (octets ys : List ℕ) → take (length (data_symbols p octets)) ys ≡ data_symbols p octets →
    length ys < length (data_symbols p octets) + codeword_symbols p.order →
    groups_of (codeword_symbols p.order) (map (pulse_sums p) ys) ≡ tabulate (block_count p octets) (word_sums p octets)
words_back p octets ys front few =
    let s : ℕ = codeword_symbols p.order in
    let b : ℕ = block_count p octets in
    let xs : List ℕ = data_symbols p octets in
    let size : length xs ≡ b * s = length-joined-word_symbols p (bit_stream p octets) (block_count p octets) in
    let long : length xs ≤ length ys = omega (arith, ap length front, length-take (length xs) ys) in
    let whole : length (map (pulse_sums p) ys) ≡ b * s + (length ys - length xs) = length-map ys (pulse_sums p) ∙ omega arith in
    let count : length (map (pulse_sums p) ys) / s ≡ b = ap (λ n. n / s) whole ∙ div-mul-add b s (length ys - length xs) (omega arith) in
    let group = λ (w : ℕ). slice_range (map (pulse_sums p) ys) (w * s) (w * s + s) in
    ap (λ n. tabulate n group) count
    ∙ tabulate_from_places b (word_sums p octets) (tabulate b group) [] (length-tabulate b group) (λ w h.
    get_or-tabulate b group w [] h
    ∙ (slice-map (pulse_sums p) ys (w * s) (w * s + s)
    ∙ ap (map (pulse_sums p)) (piece_front xs ys (w * s) s front (omega (arith, piece_within b s w h)) ∙ word_sent p octets w h)))

words_from_clear : (p : Parameters) (octets : List ℕ) (d : ℕ) → IsValid p → 0 < block_count p octets →
    words_from p (clear_counts p octets d) d ≡ tabulate (block_count p octets) (word_sums p octets)
words_from_clear p octets d v some =
    let s : ℕ = codeword_symbols p.order in
    let chan : List ℕ = sent_channel p octets in
    let n : ℕ = sent_periods p octets in
    let long : length chan ≡ n * s = length-interleaved_channel p (sent_symbols p octets) ∙ length-sent_symbols p octets in
    let back : ComesBack p 0 (data_symbols p octets) = channel_interleaver_is_undone p 0 (data_symbols p octets) v in
    ap (λ counts. words_from p counts d) (counts_are_seen p octets d v some)
    ∙ (ap (λ sums. groups_of s (deinterleaved_channel p [] sums)) (symbols_seen p chan n d v.range.repeat_high (period-pos p v) long)
    ∙ (ap (groups_of s) (deinterleaved-map p (pulse_sums p) chan 0 [] v.range.rows_low)
    ∙ words_back p octets (deinterleaved_channel p 0 chan) back.front back.few))

words_some : (p : Parameters) (octets : List ℕ) (d : ℕ) → IsValid p → 0 < block_count p octets → d < period_slots p →
    received_words p (clear_counts p octets d) ≡ tabulate (block_count p octets) (word_sums p octets)
unfolding received_words
words_some p octets d v some h =
    ap (words_at p (clear_counts p octets d)) (offset_clear p octets d v some h) ∙ words_from_clear p octets d v some

words_none : (p : Parameters) (octets : List ℕ) (d : ℕ) → IsValid p → block_count p octets ≡ 0 → d < period_slots p →
    received_words p (clear_counts p octets d) ≡ tabulate (block_count p octets) (word_sums p octets)
unfolding received_words
words_none p octets d v none h =
    ap (words_at p (clear_counts p octets d)) (offset_none p octets d v none h)
    ∙ sym (ap (λ n. tabulate n (word_sums p octets)) none ∙ tabulate-none (word_sums p octets))

-- the received words
pub words_clear : (p : Parameters) (octets : List ℕ) (d : ℕ) → IsValid p → d < period_slots p →
    received_words p (clear_counts p octets d) ≡ tabulate (block_count p octets) (word_sums p octets)
words_clear p octets d v h =
    elim (cases_eq (block_count p octets) 0) [
      | inl none ↦ words_none p octets d v none h
      | inr some ↦ words_some p octets d v (omega arith) h
    ]
