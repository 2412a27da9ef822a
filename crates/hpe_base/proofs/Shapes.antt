-- The lengths of what the stages make, and that it is bits or symbols.
use Rattle.std.proofs.Common.{◌≡◌, ◌+◌, ◌*◌, ◌/◌, ◌%◌, ◌^◌, ◌<◌, ℕ, List, [], ◌∷◌, Bool, true, false, length, get_or, take, sum, sym, ◌∙◌, ap, subst, arith, inl, inr, length-append}
use Rattle.std.specs.Prelude.{slice_range}
use Rattle.std.proofs.lemmas.Nat.{div-add-mod'}
use Rattle.std.proofs.lemmas.Bool.{cases_lt}
use Rattle.std.proofs.lemmas.List.{get_or_past}
use Rattle.std.proofs.lemmas.List.Elements.{All-append, All-from_get_or, All-take, All-drop, All-get_or}
use Rattle.hpe_base.specs.Lists.{joined}
use Rattle.hpe_base.specs.Bits.{AreBits, bits_of, octet_bits, number_of, xor, zeros}
use Rattle.hpe_base.specs.Parameters.{Parameters, block_bits, codeword_bits, codeword_symbols, symbol_bits, positions}
use Rattle.hpe_base.specs.declared.profile.Order.{Order}
use Rattle.hpe_base.specs.Frames.{frame_count, frame, frame_bits, bit_stream}
use Rattle.hpe_base.specs.FrameScan.{span_bits}
use Rattle.hpe_base.specs.Slicer.{block_from, block_count}
use Rattle.hpe_base.specs.Randomiser.{randomised, pseudo_random}
use Rattle.hpe_base.specs.Termination.{closed_block}
use Rattle.hpe_base.specs.ConvolutionalCode.{selected, earlier, outputs, kept_at, code_bits}
use Rattle.hpe_base.specs.CodeInterleaver.{interleaved}
use Rattle.hpe_base.specs.Accumulator.{accumulated}
use Rattle.hpe_base.specs.Mapper.{symbols_of}
use Rattle.hpe_base.specs.Codeword.{codeword, word_symbols}
use Rattle.hpe_base.proofs.Tabulated.{length-tabulate, get_or-tabulate, length-joined-each}
use Rattle.hpe_base.proofs.BitLists.{length-bits_of, length-octet_bits, are_bits-bits_of, are_bits-octet_bits, are_bits-joined, are_bits-none, are_bits-cons, are_bits-tail, length-zeros}
use Rattle.hpe_base.proofs.Numbers.{number_of-lt}
use Rattle.hpe_base.proofs.Pieces.{length-piece, piece_within}
use Rattle.hpe_base.specs.Slots.{sent_symbols, flush_words}

-- ---- frames and blocks
-- a frame has the octets that the profile says
pub length-frame : (p : Parameters) (octets : List ℕ) (f : ℕ) → f < frame_count p octets →
    length (frame p octets f) ≡ p.frame_octets
length-frame p octets f h =
    length-piece octets (f * p.frame_octets) p.frame_octets (omega (
      arith,
      div-add-mod' (length octets) p.frame_octets,
      piece_within (length octets / p.frame_octets) p.frame_octets f h,
    ))

-- a frame with its marker fills a span
pub length-frame_bits : (p : Parameters) (octets : List ℕ) (f : ℕ) → f < frame_count p octets →
    length (frame_bits p octets f) ≡ span_bits p
length-frame_bits p octets f h =
    omega (
      arith,
      length-append (bits_of 32 p.frame_marker) (octet_bits (frame p octets f)),
      length-bits_of 32 p.frame_marker,
      length-octet_bits (frame p octets f),
      length-frame p octets f h,
    )

-- the stream is as many spans as there are whole frames
pub length-bit_stream : (p : Parameters) (octets : List ℕ) →
    length (bit_stream p octets) ≡ frame_count p octets * span_bits p
unfolding bit_stream
length-bit_stream p octets =
    length-joined-each (frame_count p octets) (span_bits p) (frame_bits p octets)
    (λ f b. length-frame_bits p octets f b)

-- the stream is bits
pub are_bits-bit_stream : (p : Parameters) (octets : List ℕ) → AreBits (bit_stream p octets)
unfolding bit_stream
are_bits-bit_stream p octets =
    are_bits-joined (frame_count p octets) (frame_bits p octets)
    (λ f. All-append (λ b. b < 2) (bits_of 32 p.frame_marker) (octet_bits (frame p octets f))
    (are_bits-bits_of 32 p.frame_marker) (are_bits-octet_bits (frame p octets f)))

-- a block has its size, also the last
pub length-block_from : (stream : List ℕ) (size w : ℕ) → length (block_from stream size w) ≡ size
unfolding block_from
length-block_from stream size w = length-tabulate size _

-- a place of a block is one of the stream
pub get_or-block_from : (stream : List ℕ) (size w r : ℕ) → r < size →
    get_or (block_from stream size w) r 0 ≡ get_or stream (w * size + r) 0
unfolding block_from
get_or-block_from stream size w r h = get_or-tabulate size _ r 0 h

-- a place of bits is a bit, also past their end, where 0 stands
pub get_or-lt_two : (bits : List ℕ) (i : ℕ) → AreBits bits → get_or bits i 0 < 2
get_or-lt_two bits i h =
    elim (cases_lt i (length bits)) [
      | inl b ↦ All-get_or (λ b. b < 2) bits i 0 b h
      | inr b ↦ rw (get_or_past bits i 0 b) (omega arith)
    ]

-- a block of bits is bits
pub are_bits-block_from : (stream : List ℕ) (size w : ℕ) → AreBits stream → AreBits (block_from stream size w)
are_bits-block_from stream size w h =
    All-from_get_or (λ b. b < 2) (block_from stream size w) 0
    (λ k b. subst (λ x. x < 2) (sym (get_or-block_from stream size w k (omega (
      arith,
      length-block_from stream size w,
    )))) (get_or-lt_two stream (w * size + k) h))

-- ---- from the randomiser to the accumulator
-- a randomised list keeps its length
pub length-randomised : (p : Parameters) (bits : List ℕ) → length (randomised p bits) ≡ length bits
length-randomised p bits = length-tabulate (length bits) _

-- and is bits
pub are_bits-randomised : (p : Parameters) (bits : List ℕ) → AreBits (randomised p bits)
are_bits-randomised p bits = All-from_get_or (λ b. b < 2) (randomised p bits) 0 (λ k h.
    let within : k < length bits = omega (arith, length-randomised p bits) in
    rw (get_or-tabulate (length bits)
    (λ n. xor (get_or bits n 0) (get_or (pseudo_random p.taps p.seed (length bits)) n 0)) k 0 within) (omega arith))

-- the termination is bits
pub are_bits-two_zeros : AreBits (0 ∷ 0 ∷ [])
are_bits-two_zeros = are_bits-cons 0 (0 ∷ []) (omega arith) (are_bits-cons 0 [] (omega arith) are_bits-none)

-- those selected of bits are bits
pub are_bits-selected : (flags : List Bool) (bits : List ℕ) → AreBits bits → AreBits (selected flags bits)
are_bits-selected [] bits h = are_bits-none
are_bits-selected (f ∷ flags) [] h = are_bits-none
are_bits-selected (true ∷ flags) (b ∷ bits) h =
    are_bits-cons b (selected flags bits) (h 0 0 (omega arith)) (are_bits-selected flags bits (are_bits-tail b bits h))
are_bits-selected (false ∷ flags) (b ∷ bits) h = are_bits-selected flags bits (are_bits-tail b bits h)

-- three sums modulo 2 are bits
are_bits-three : (a b c : ℕ) → AreBits (a % 2 ∷ b % 2 ∷ c % 2 ∷ [])
are_bits-three a b c =
    let third : AreBits (c % 2 ∷ []) = are_bits-cons (c % 2) [] (omega arith) are_bits-none in
    are_bits-cons (a % 2) (b % 2 ∷ c % 2 ∷ []) (omega arith) (are_bits-cons (b % 2) (c % 2 ∷ []) (omega arith) third)

-- the outputs of a step are bits
pub are_bits-outputs : (u : List ℕ) (t : ℕ) → AreBits (outputs u t)
are_bits-outputs u t =
    let second : ℕ = earlier u t 0 + earlier u t 1 + earlier u t 2 in
    are_bits-three (earlier u t 0 + earlier u t 2) second second

-- and so are the code bits
pub are_bits-code_bits : (columns : List (List Bool)) (u : List ℕ) → AreBits (code_bits columns u)
are_bits-code_bits columns u =
    are_bits-joined (length u) (kept_at columns u) (λ t. are_bits-selected _ (outputs u t) (are_bits-outputs u t))

-- the accumulator makes as many bits as it takes
pub length-accumulated : (bits : List ℕ) → length (accumulated bits) ≡ length bits
length-accumulated bits = length-tabulate (length bits) (λ j. sum (take (j + 1) bits) % 2)

-- a place of its output is the sum up to there
pub get_or-accumulated : (bits : List ℕ) (j : ℕ) → j < length bits →
    get_or (accumulated bits) j 0 ≡ sum (take (j + 1) bits) % 2
get_or-accumulated bits j h = get_or-tabulate (length bits) (λ j. sum (take (j + 1) bits) % 2) j 0 h

-- its output is bits
pub are_bits-accumulated : (bits : List ℕ) → AreBits (accumulated bits)
are_bits-accumulated bits =
    All-from_get_or (λ b. b < 2) (accumulated bits) 0
    (λ k b. rw (get_or-accumulated bits k (omega (arith, length-accumulated bits))) (omega arith))

-- ---- symbols
-- each whole group of bits is a symbol
pub length-symbols_of : (o : Order) (bits : List ℕ) → length (symbols_of o bits) ≡ length bits / symbol_bits o
length-symbols_of o bits = length-tabulate (length bits / symbol_bits o) _

-- each symbol is a pulse position
pub symbols_of-lt : (o : Order) (bits : List ℕ) (s : ℕ) → AreBits bits → s < length (symbols_of o bits) →
    get_or (symbols_of o bits) s 0 < positions o
symbols_of-lt o bits s h b =
    let m : ℕ = symbol_bits o in
    let within : s < length bits / m = omega (arith, length-symbols_of o bits) in
    let group : List ℕ = slice_range bits (s * m) (s * m + m) in
    let size : length group ≡ m =
    length-piece bits (s * m) m (omega (
      arith,
      div-add-mod' (length bits) m,
      piece_within (length bits / m) m s within,
    )) in
    let small : number_of group < positions o =
    subst (λ k. number_of group < 2 ^ k) size
    (number_of-lt group (All-take (λ b. b < 2) _ _ (All-drop (λ b. b < 2) _ bits h))) in
    subst (λ k. k < positions o)
    (sym (get_or-tabulate (length bits / m) (λ t. number_of (slice_range bits (t * m) (t * m + m))) s 0 within)) small

-- a codeword has the symbols of its order
pub length-codeword : (p : Parameters) (block : List ℕ) → length (codeword p block) ≡ codeword_symbols p.order
unfolding codeword
length-codeword p block =
    length-symbols_of p.order _
    ∙ ap (λ n. n / symbol_bits p.order) (length-accumulated _ ∙ length-tabulate codeword_bits _)

-- each of them is a pulse position
pub codeword-lt : (p : Parameters) (block : List ℕ) (s : ℕ) → s < length (codeword p block) →
    get_or (codeword p block) s 0 < positions p.order
unfolding codeword
codeword-lt p block s h =
    let bits : List ℕ = interleaved (code_bits p.columns (closed_block p block)) in
    symbols_of-lt p.order (accumulated bits) s (are_bits-accumulated bits) h

-- the codewords of n blocks have n times as many symbols
pub length-joined-word_symbols : (p : Parameters) (stream : List ℕ) (n : ℕ) →
    length (joined n (word_symbols p stream)) ≡ n * codeword_symbols p.order
length-joined-word_symbols p stream n =
    length-joined-each n (codeword_symbols p.order) (word_symbols p stream)
    (λ w b. length-codeword p (block_from stream (block_bits p.rate) w))

-- the symbols that are sent are whole codewords
pub length-sent_symbols : (p : Parameters) (octets : List ℕ) → length (sent_symbols p octets) ≡ (block_count p octets + flush_words p) * codeword_symbols p.order
length-sent_symbols p octets =
    let s : ℕ = codeword_symbols p.order in
    let words : List ℕ = joined (block_count p octets) (word_symbols p (bit_stream p octets)) in
    let all : (block_count p octets + flush_words p) * s ≡ block_count p octets * s + flush_words p * s = grind arith in
    omega (arith, length-append words (zeros (flush_words p * s)), length-joined-word_symbols p (bit_stream p octets) (block_count p octets), length-zeros (flush_words p * s))
