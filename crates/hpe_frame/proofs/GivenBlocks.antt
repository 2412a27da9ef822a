-- The bits of a stream in blocks of which some are missing.
use Rattle.std.proofs.Common.{◌≡◌, ◌+◌, ◌-◌, ◌*◌, ◌/◌, ◌%◌, ◌^◌, ◌<◌, ◌≤◌, ℕ, List, [], ◌∷◌, length, get_or, take, drop, refl, sym, ◌∙◌, ap, arith, suc, true, false, Bool, subst, All}
use Rattle.std.specs.Prelude.{◌==◌, nat_lt}
use Rattle.std.specs.List.{slice_range, range_with_len, AllPass}
use Rattle.std.proofs.lemmas.Nat.{div_below, div-add-mod'}
use Rattle.std.proofs.lemmas.Bool.{lt-ltb}
use Rattle.std.proofs.lemmas.Bool.Decides.{nat_tests}
use Rattle.std.proofs.lemmas.Grind.{div_ceil_times}
use Rattle.std.proofs.lemmas.List.{get_or-take, get_or-drop, length-take, get_or-replicate, length-replicate, get_or_past, take_at, drop_at, ext_get_or}
use Rattle.std.proofs.lemmas.List.FromFn.{get_or-range_with_len, length-range_with_len}
use Rattle.std.proofs.lemmas.List.Sums.{AllPass-from_list_all, list_all-from_AllPass}
use Rattle.std.proofs.lemmas.List.Elements.{All-from_get_or, All-take, All-drop}
use Rattle.hpe_base.specs.Lists.{tabulate, joined}
use Rattle.hpe_base.specs.Bits.{bits_of, octet_bits, number_of, AreBits}
use Rattle.hpe_base.specs.Parameters.{Parameters, IsValid, block_bits}
use Rattle.hpe_base.specs.Frames.{frame_count, frame, frame_bits, bit_stream}
use Rattle.hpe_base.specs.Slicer.{block_count, block_from}
use Rattle.hpe_base.specs.FrameScan.{block_marks, marks_of, span_bits, all_known, has_marker, octets_of, delivered_frames}
use Rattle.hpe_base.proofs.Tabulated.{tabulate_from_places, length-joined-each, joined-same, get_or-joined}
use Rattle.hpe_base.proofs.BitLists.{length-bits_of, number_of-bits_of, length-octet_bits}
use Rattle.hpe_base.proofs.EachPlace.{list_all-range_with_len}
use Rattle.hpe_base.proofs.ParameterLemmas.{code_steps-ge}
use Rattle.hpe_base.proofs.Pieces.{flat_map-tabulate, length-piece, piece_at, piece_within}
use Rattle.hpe_base.proofs.Shapes.{length-frame_bits, length-bit_stream, are_bits-bit_stream, length-block_from, get_or-block_from, get_or-lt_two}
use Rattle.hpe_frame.specs.Laws.{block_if, frame_if, given_blocks, is_given, given_frames}
use Rattle.hpe_frame.proofs.Gaps.{OnGrid, Quiet, gaps}

-- a bit of a block
abbrev pub mark : Bool → ℕ → ℕ
mark true b = b
mark false b = 2

length-block_marks : (size : ℕ) (kept : Bool) (bits : List ℕ) → length bits ≡ size → length (block_marks size (block_if kept bits)) ≡ size
length-block_marks size true bits h = h
length-block_marks size false bits h = length-replicate size 2

get_or-block_marks : (size r : ℕ) (kept : Bool) (bits : List ℕ) → r < size → get_or (block_marks size (block_if kept bits)) r 0 ≡ mark kept (get_or bits r 0)
get_or-block_marks size r true bits h = refl
get_or-block_marks size r false bits h = get_or-replicate size r 2 0 h

-- the marks of the blocks
abbrev stream_marks : Parameters → List ℕ → ℕ → (ℕ → Bool) → List ℕ
stream_marks p stream n here = marks_of p (tabulate n (λ w. block_if (here w) (block_from stream (block_bits p.rate) w)))

marks_joined : (p : Parameters) (stream : List ℕ) (n : ℕ) (here : ℕ → Bool) →
    stream_marks p stream n here ≡ joined n (λ w. block_marks (block_bits p.rate) (block_if (here w) (block_from stream (block_bits p.rate) w)))
marks_joined p stream n here = flat_map-tabulate _ n _

pub length-stream_marks : (p : Parameters) (stream : List ℕ) (n : ℕ) (here : ℕ → Bool) → length (stream_marks p stream n here) ≡ n * block_bits p.rate
length-stream_marks p stream n here =
    ap length (marks_joined p stream n here) ∙ length-joined-each n (block_bits p.rate) _ (λ w b. length-block_marks (block_bits p.rate) (here w) _ (length-block_from stream (block_bits p.rate) w))

pub mark_at : (p : Parameters) (stream : List ℕ) (n i : ℕ) (here : ℕ → Bool) → 0 < block_bits p.rate → i < n * block_bits p.rate →
    get_or (stream_marks p stream n here) i 0 ≡ mark (here (i / block_bits p.rate)) (get_or stream i 0)
mark_at p stream n i here pos h =
    let k : ℕ = block_bits p.rate in
    let w : ℕ = i / k in
    let r : ℕ = i % k in
    let hw : w < n = div_below i k n pos h in
    let hr : r < k = omega arith in
    let e : w * k + r ≡ i = div-add-mod' i k in
    ap (λ xs. get_or xs i 0) (marks_joined p stream n here)
    ∙ (ap (λ x. get_or (joined n (λ w. block_marks k (block_if (here w) (block_from stream k w)))) x 0) (sym e)
    ∙ (get_or-joined n k w r _ 0 (λ v b. length-block_marks k (here v) _ (length-block_from stream k v)) hw hr
    ∙ (get_or-block_marks k r (here w) _ hr
    ∙ (ap (mark (here w)) (get_or-block_from stream k w r hr ∙ ap (λ x. get_or stream x 0) e)))))

true_lt : (a b : ℕ) → nat_lt a b ≡ true → a < b
true_lt a b h = grind (arith, nat_tests)

-- a known list has no 2
pub known_below : (xs : List ℕ) (j : ℕ) → all_known xs ≡ true → j < length xs → get_or xs j 0 < 2
known_below xs j k h =
    let all : AllPass (λ b. nat_lt b 2) xs = AllPass-from_list_all (λ b. nat_lt b 2) xs k in
    true_lt (get_or xs j 0) 2 (all j 0 h)

mark_known : (kept : Bool) (b : ℕ) → mark kept b < 2 → mark kept b ≡ b
mark_known true b h = refl
mark_known false b h = absurd (omega arith)

slice_at : (xs : List ℕ) (a n j : ℕ) → j < n → get_or (slice_range xs a (a + n)) j 0 ≡ get_or xs (a + j) 0
slice_at xs a n j h =
    let e : a + n - a ≡ n = omega arith in
    get_or-take (a + n - a) (drop a xs) j 0 (omega arith) ∙ get_or-drop a xs j 0

-- a known span has the bits of the stream
pub known_slice : (p : Parameters) (stream : List ℕ) (w a n j : ℕ) (here : ℕ → Bool) → 0 < block_bits p.rate → a + n ≤ w * block_bits p.rate →
    all_known (slice_range (stream_marks p stream w here) a (a + n)) ≡ true → j < n →
    get_or (slice_range (stream_marks p stream w here) a (a + n)) j 0 ≡ get_or stream (a + j) 0
known_slice p stream w a n j here pos room k h =
    let marks : List ℕ = stream_marks p stream w here in
    let len : length marks ≡ w * block_bits p.rate = length-stream_marks p stream w here in
    let low : get_or (slice_range marks a (a + n)) j 0 < 2 = known_below (slice_range marks a (a + n)) j k (omega (arith, length-piece marks a n)) in
    let at : get_or (slice_range marks a (a + n)) j 0 ≡ mark (here ((a + j) / block_bits p.rate)) (get_or stream (a + j) 0) =
    slice_at marks a n j h ∙ mark_at p stream w (a + j) here pos (omega arith) in
    at ∙ mark_known (here ((a + j) / block_bits p.rate)) (get_or stream (a + j) 0) (subst (λ x. x < 2) at low)

stream_at : (p : Parameters) (octets : List ℕ) (f j : ℕ) → f < frame_count p octets → j < span_bits p →
    get_or (bit_stream p octets) (f * span_bits p + j) 0 ≡ get_or (frame_bits p octets f) j 0
unfolding bit_stream
stream_at p octets f j hf hj = get_or-joined (frame_count p octets) (span_bits p) f j (frame_bits p octets) 0 (λ k b. length-frame_bits p octets k b) hf hj

-- the frames fill the blocks
abbrev pub Fills : Parameters → List ℕ → ℕ → Type 0
Fills p octets w = frame_count p octets * span_bits p ≤ w * block_bits p.rate

pub frame_slice : (p : Parameters) (octets : List ℕ) (w f : ℕ) (here : ℕ → Bool) → 0 < block_bits p.rate → Fills p octets w → f < frame_count p octets →
    all_known (slice_range (stream_marks p (bit_stream p octets) w here) (f * span_bits p) (f * span_bits p + span_bits p)) ≡ true →
    slice_range (stream_marks p (bit_stream p octets) w here) (f * span_bits p) (f * span_bits p + span_bits p) ≡ frame_bits p octets f
frame_slice p octets w f here pos fills h k =
    let marks : List ℕ = stream_marks p (bit_stream p octets) w here in
    let room : f * span_bits p + span_bits p ≤ w * block_bits p.rate = omega (arith, piece_within (frame_count p octets) (span_bits p) f h) in
    let len : length (slice_range marks (f * span_bits p) (f * span_bits p + span_bits p)) ≡ span_bits p =
    length-piece marks (f * span_bits p) (span_bits p) (omega (arith, length-stream_marks p (bit_stream p octets) w here)) in
    ext_get_or 0 _ _ (len ∙ sym (length-frame_bits p octets f h)) (λ j b.
    let below : j < span_bits p = omega arith in
    known_slice p (bit_stream p octets) w (f * span_bits p) (span_bits p) j here pos room k below ∙ stream_at p octets f j h below)

same_number : (a : ℕ) → (a == a) ≡ true
same_number a = grind (arith, nat_tests)

other_number : (a b : ℕ) → a < b → (a == b) ≡ false
other_number a b h = grind (arith, nat_tests)

pub marker_of_frame : (p : Parameters) (octets : List ℕ) (f : ℕ) → IsValid p → has_marker p (frame_bits p octets f) ≡ true
marker_of_frame p octets f v =
    let front : take 32 (frame_bits p octets f) ≡ bits_of 32 p.frame_marker = take_at (bits_of 32 p.frame_marker) (octet_bits (frame p octets f)) 32 (length-bits_of 32 p.frame_marker) in
    let high : p.frame_marker < 2 ^ 32 = v.range.frame_marker_high in
    let number : number_of (take 32 (frame_bits p octets f)) ≡ p.frame_marker = ap number_of front ∙ (number_of-bits_of 32 p.frame_marker ∙ omega arith) in
    ap (λ n. n == p.frame_marker) number ∙ same_number p.frame_marker

pub octets_of-octet_bits : (octets : List ℕ) → All (λ o. o < 256) octets → octets_of (octet_bits octets) ≡ octets
unfolding octets_of
octets_of-octet_bits octets h =
    let n : length octets ≡ length (octet_bits octets) / 8 = omega (arith, length-octet_bits octets) in
    sym (tabulate_from_places (length (octet_bits octets) / 8) _ octets 0 n (λ i b.
    let within : i < length octets = omega arith in
    let small : get_or octets i 0 < 256 = h i 0 within in
    sym (ap number_of (piece_at (bits_of 8) 8 (length-bits_of 8) octets i 0 within) ∙ (number_of-bits_of 8 (get_or octets i 0) ∙ omega arith))))

pub octets_of_frame : (p : Parameters) (octets : List ℕ) (f : ℕ) → All (λ o. o < 256) (frame p octets f) → octets_of (drop 32 (frame_bits p octets f)) ≡ frame p octets f
octets_of_frame p octets f h =
    ap octets_of (drop_at (bits_of 32 p.frame_marker) (octet_bits (frame p octets f)) 32 (length-bits_of 32 p.frame_marker)) ∙ octets_of-octet_bits (frame p octets f) h

-- a span is given where each of its bits is known, so where each block that it touches is here
abbrev pub span_given : Parameters → List ℕ → ℕ → (ℕ → Bool) → ℕ → Bool
span_given p octets w here f = all_known (slice_range (stream_marks p (bit_stream p octets) w here) (f * span_bits p) (f * span_bits p + span_bits p))

pub on_grid : (p : Parameters) (octets : List ℕ) (w : ℕ) (here : ℕ → Bool) → IsValid p → 0 < block_bits p.rate → Fills p octets w → ((f : ℕ) → All (λ o. o < 256) (frame p octets f)) →
    OnGrid p (stream_marks p (bit_stream p octets) w here) (span_given p octets w here) (frame p octets) (frame_count p octets)
on_grid p octets w here v pos fills small = record {
  within = omega (arith, length-stream_marks p (bit_stream p octets) w here);
  known = λ f h. refl;
  marker = λ f h k. ap (has_marker p) (frame_slice p octets w f here pos fills h k) ∙ marker_of_frame p octets f v;
  value = λ f h k. ap (λ bits. octets_of (drop 32 bits)) (frame_slice p octets w f here pos fills h k) ∙ octets_of_frame p octets f (small f);
}

number_of-nothing : (bits : List ℕ) → ((j : ℕ) → j < length bits → get_or bits j 0 ≡ 0) → number_of bits ≡ 0
number_of-nothing [] h = refl
number_of-nothing (b ∷ bits) h =
    let first : b ≡ 0 = h 0 (omega arith) in
    let rest : number_of bits ≡ 0 = number_of-nothing bits (λ j l. h (suc j) (omega arith)) in
    rw (first, rest) (omega arith)

pub quiet_behind : (p : Parameters) (octets : List ℕ) (w : ℕ) (here : ℕ → Bool) → IsValid p → 0 < block_bits p.rate →
    Quiet p (stream_marks p (bit_stream p octets) w here) (frame_count p octets * span_bits p)
quiet_behind p octets w here v pos = λ place h room k.
    let marks : List ℕ = stream_marks p (bit_stream p octets) w here in
    let len : length marks ≡ w * block_bits p.rate = length-stream_marks p (bit_stream p octets) w here in
    let none : number_of (take 32 (slice_range marks place (place + span_bits p))) ≡ 0 = number_of-nothing _ (λ j b.
    let low : j < 32 = omega (arith, length-take 32 (slice_range marks place (place + span_bits p))) in
    get_or-take 32 (slice_range marks place (place + span_bits p)) j 0 low
    ∙ (known_slice p (bit_stream p octets) w place (span_bits p) j here pos (omega arith) k (omega arith)
    ∙ get_or_past (bit_stream p octets) (place + j) 0 (omega (arith, length-bit_stream p octets)))) in
    ap (λ n. n == p.frame_marker) none ∙ other_number 0 p.frame_marker v.range.frame_marker_low

-- the frames all of whose blocks are here, in order
pub frames_kept : (p : Parameters) (octets : List ℕ) (w : ℕ) (here : ℕ → Bool) → IsValid p → 0 < block_bits p.rate → Fills p octets w → ((f : ℕ) → All (λ o. o < 256) (frame p octets f)) →
    (0 < frame_count p octets → span_given p octets w here 0 ≡ true) →
    delivered_frames p (tabulate w (λ v. block_if (here v) (block_from (bit_stream p octets) (block_bits p.rate) v))) ≡ joined (frame_count p octets) (λ f. frame_if (span_given p octets w here f) (frame p octets f))
frames_kept p octets w here v pos fills small first =
    gaps p (stream_marks p (bit_stream p octets) w here) (span_given p octets w here) (frame p octets) (frame_count p octets)
    (on_grid p octets w here v pos fills small) (quiet_behind p octets w here v pos) first

mark_bit : (kept : Bool) (b : ℕ) → kept ≡ true → b < 2 → mark kept b < 2
mark_bit true b h l = l
mark_bit false b h l = absurd (let e : false ≡ true = h in cc)

mark_here : (kept : Bool) (b : ℕ) → mark kept b < 2 → kept ≡ true
mark_here true b h = refl
mark_here false b h = absurd (omega arith)

-- a span is given exactly where each block that it touches is here
pub span_given_if : (p : Parameters) (octets : List ℕ) (w f : ℕ) (here : ℕ → Bool) → 0 < block_bits p.rate → Fills p octets w → f < frame_count p octets → AreBits (bit_stream p octets) →
    ((j : ℕ) → j < span_bits p → here ((f * span_bits p + j) / block_bits p.rate) ≡ true) → span_given p octets w here f ≡ true
span_given_if p octets w f here pos fills h bits all =
    let marks : List ℕ = stream_marks p (bit_stream p octets) w here in
    let room : f * span_bits p + span_bits p ≤ w * block_bits p.rate = omega (arith, piece_within (frame_count p octets) (span_bits p) f h) in
    let len : length (slice_range marks (f * span_bits p) (f * span_bits p + span_bits p)) ≡ span_bits p =
    length-piece marks (f * span_bits p) (span_bits p) (omega (arith, length-stream_marks p (bit_stream p octets) w here)) in
    list_all-from_AllPass (λ b. nat_lt b 2) _ (All-from_get_or (λ b. nat_lt b 2 ≡ true) _ 0 (λ j b.
    let below : j < span_bits p = omega arith in
    let at : get_or (slice_range marks (f * span_bits p) (f * span_bits p + span_bits p)) j 0 ≡ mark (here ((f * span_bits p + j) / block_bits p.rate)) (get_or (bit_stream p octets) (f * span_bits p + j) 0) =
    slice_at marks (f * span_bits p) (span_bits p) j below ∙ mark_at p (bit_stream p octets) w (f * span_bits p + j) here pos (omega arith) in
    lt-ltb _ 2 (subst (λ x. x < 2) (sym at) (mark_bit _ _ (all j below) (get_or-lt_two (bit_stream p octets) (f * span_bits p + j) bits)))))

pub span_given_only : (p : Parameters) (octets : List ℕ) (w f j : ℕ) (here : ℕ → Bool) → 0 < block_bits p.rate → Fills p octets w → f < frame_count p octets → j < span_bits p →
    span_given p octets w here f ≡ true → here ((f * span_bits p + j) / block_bits p.rate) ≡ true
span_given_only p octets w f j here pos fills h below given =
    let marks : List ℕ = stream_marks p (bit_stream p octets) w here in
    let room : f * span_bits p + span_bits p ≤ w * block_bits p.rate = omega (arith, piece_within (frame_count p octets) (span_bits p) f h) in
    let len : length (slice_range marks (f * span_bits p) (f * span_bits p + span_bits p)) ≡ span_bits p =
    length-piece marks (f * span_bits p) (span_bits p) (omega (arith, length-stream_marks p (bit_stream p octets) w here)) in
    let at : get_or (slice_range marks (f * span_bits p) (f * span_bits p + span_bits p)) j 0 ≡ mark (here ((f * span_bits p + j) / block_bits p.rate)) (get_or (bit_stream p octets) (f * span_bits p + j) 0) =
    slice_at marks (f * span_bits p) (span_bits p) j below ∙ mark_at p (bit_stream p octets) w (f * span_bits p + j) here pos (omega arith) in
    mark_here _ (get_or (bit_stream p octets) (f * span_bits p + j) 0) (subst (λ x. x < 2) at (known_below _ j given (omega arith)))

-- the span of a frame is known exactly where each of its blocks is given
same_bool : (a b : Bool) → (a ≡ true → b ≡ true) → (b ≡ true → a ≡ true) → a ≡ b
same_bool true b h k = sym (h refl)
same_bool false true h k = k refl
same_bool false false h k = refl

each_given : (p : Parameters) (given : ℕ → Bool) (f j : ℕ) → is_given p given f ≡ true → j < span_bits p → given ((f * span_bits p + j) / block_bits p.rate) ≡ true
each_given p given f j h b =
    let place : get_or (range_with_len 0 (span_bits p)) j 0 ≡ 0 + j = get_or-range_with_len 0 (span_bits p) j 0 b in
    let same : get_or (range_with_len 0 (span_bits p)) j 0 ≡ j = omega arith in
    let all : AllPass (λ i. given ((f * span_bits p + i) / block_bits p.rate)) (range_with_len 0 (span_bits p)) = AllPass-from_list_all _ _ h in
    ap (λ i. given ((f * span_bits p + i) / block_bits p.rate)) (sym same) ∙ all j 0 (omega (arith, length-range_with_len 0 (span_bits p)))

fills : (p : Parameters) (octets : List ℕ) → 0 < block_bits p.rate → Fills p octets (block_count p octets)
fills p octets pos =
    let room = div_ceil_times (length (bit_stream p octets)) (block_bits p.rate) pos in
    omega (arith, length-bit_stream p octets, room.0)

given_is : (p : Parameters) (octets : List ℕ) (given : ℕ → Bool) (f : ℕ) → 0 < block_bits p.rate → f < frame_count p octets →
    span_given p octets (block_count p octets) given f ≡ is_given p given f
given_is p octets given f pos h =
    same_bool _ _
    (λ known. list_all-range_with_len (λ i. given ((f * span_bits p + i) / block_bits p.rate)) (span_bits p)
    (λ j b. span_given_only p octets (block_count p octets) f j given pos (fills p octets pos) h b known))
    (λ all. span_given_if p octets (block_count p octets) f given pos (fills p octets pos) h (are_bits-bit_stream p octets)
    (λ j b. each_given p given f j all b))

-- the frames all of whose blocks are given, in order
pub frames_given : (p : Parameters) (octets : List ℕ) (given : ℕ → Bool) → IsValid p → All (λ o. o < 256) octets →
    (0 < frame_count p octets → is_given p given 0 ≡ true) → delivered_frames p (given_blocks p octets given) ≡ given_frames p octets given
frames_given p octets given v small first =
    let pos : 0 < block_bits p.rate = omega (arith, code_steps-ge p.rate) in
    frames_kept p octets (block_count p octets) given v pos (fills p octets pos)
    (λ f. All-take (λ o. o < 256) _ _ (All-drop (λ o. o < 256) (f * p.frame_octets) octets small))
    (λ some. given_is p octets given 0 pos some ∙ first some)
    ∙ joined-same (frame_count p octets) _ _ (λ f h. ap (λ b. frame_if b (frame p octets f)) (given_is p octets given f pos h))
