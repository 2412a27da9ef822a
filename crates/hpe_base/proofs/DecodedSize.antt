-- The frames that are decoded have room in the blocks of as many words as there are whole periods.
use Rattle.std.proofs.Common.{◌≡◌, ◌≤◌, ◌<◌, ◌+◌, ◌-◌, ◌*◌, ◌/◌, ◌∙◌, ◌++◌, ◌∷◌, [], ℕ, zero, suc, List, length, take, drop, map, arith, ap, sym, subst, Bool, true, false, if◌then◌else◌, inl, inr, append-nil, length-append}
use Rattle.std.specs.Prelude.{slice_range}
use Rattle.std.specs.List.{flat_map}
use Rattle.std.proofs.lemmas.Bool.{cases_lt}
use Rattle.std.proofs.lemmas.Nat.{mul-le}
use Rattle.std.proofs.Math.Nat.{div-mul-le_self, div-le_of_le-mul, le-div_iff_mul-le}
use Rattle.std.proofs.lemmas.List.{length-drop, length-take, length-take-le, length-replicate}
use Rattle.std.proofs.lemmas.List.Concat.{flat_map-append}
use Rattle.hpe_base.specs.Parameters.{Parameters, block_bits, period_slots, codeword_symbols, interleaver_depth}
use Rattle.hpe_base.specs.ChannelInterleaver.{deinterleaved_channel}
use Rattle.hpe_base.specs.FrameScan.{Standing, scan, scan_step, scan_by, scan_start, scan_from, span_bits, octets_of, delivered, marks_of, block_marks}
use Rattle.hpe_base.specs.MarkerSearch.{Offset, Short, Dark, At, offset_of}
use Rattle.hpe_base.specs.ReceivedWords.{received_words, words_at, words_from, channel_sums}
use Rattle.hpe_base.specs.Rounds.{Verdict, verdict_of, verdict_from, is_right, round}
use Rattle.hpe_base.specs.Counts.{counts_of}
use Rattle.hpe_base.specs.Decoded.{counts_frames, decoded, block_of, verdicts_of}
use Rattle.hpe_base.specs.Randomiser.{randomised}
use Rattle.hpe_base.proofs.Tabulated.{length-tabulate}
use Rattle.hpe_base.proofs.FrameScan.{scan-none, scan-suc, step_within, step_end}

-- ---- the scan

-- the octets that were delivered are no longer than the bits that were passed
record IsShort (marks : List ℕ) (s : Standing) : Type 0 where
  octets : 8 * length (flat_map (λ frame. frame) s.frames) ≤ s.place
  within : s.place ≤ length marks

flat-push : (frames : List (List ℕ)) (frame : List ℕ) → length (flat_map (λ f. f) (frames ++ frame ∷ [])) ≡ length (flat_map (λ f. f) frames) + length frame
flat-push frames frame =
    ap (λ (l : List ℕ). length l) (flat_map-append (λ (f : List ℕ). f) frames (frame ∷ []) ∙ ap (λ (l : List ℕ). flat_map (λ f. f) frames ++ l) (append-nil frame))
    ∙ length-append (flat_map (λ f. f) frames) frame

length-octets : (bits : List ℕ) → length (octets_of bits) ≡ length bits / 8
unfolding octets_of
length-octets bits = length-tabulate (length bits / 8) _

by_short : (marks : List ℕ) (span : ℕ) (grid known marked : Bool) (frame : List ℕ) (s : Standing) → 8 * length frame ≤ span → 1 ≤ span → s.place + span ≤ length marks → IsShort marks s
    → IsShort marks (scan_by span grid known marked frame s)
by_short marks span grid true true frame s small some fits h = record { octets = omega (arith, flat-push s.frames frame, h.octets); within = fits }
by_short marks span grid true false frame s small some fits h = record { octets = omega (arith, h.octets); within = omega arith }
by_short marks span true false marked frame s small some fits h = record { octets = omega (arith, h.octets); within = fits }
by_short marks span false false marked frame s small some fits h = record { octets = omega (arith, h.octets); within = omega arith }

step_short : (p : Parameters) (marks : List ℕ) (s : Standing) → IsShort marks s → IsShort marks (scan_step p marks s)
step_short p marks s h = elim (cases_lt (length marks) (s.place + span_bits p)) [
  | inl past ↦ subst (IsShort marks) (sym (step_end p marks s past)) h
  | inr within ↦
      let span : List ℕ = slice_range marks s.place (s.place + span_bits p) in
      let size : s.place + span_bits p - s.place ≡ span_bits p = omega arith in
      let long : length span ≡ span_bits p =
      ap (λ k. length (take k (drop s.place marks))) size ∙ length-take-le (span_bits p) (drop s.place marks) (omega (arith, length-drop s.place marks)) in
      let frame : List ℕ = octets_of (drop 32 span) in
      let count : length frame ≡ (span_bits p - 32) / 8 = length-octets (drop 32 span) ∙ ap (λ k. k / 8) (length-drop 32 span ∙ ap (λ k. k - 32) long) in
      let less : (span_bits p - 32) / 8 * 8 ≤ span_bits p - 32 = div-mul-le_self (span_bits p - 32) 8 in
      subst (IsShort marks) (sym (step_within p marks s within))
      (by_short marks (span_bits p) s.grid _ _ frame s (omega arith) (omega arith) within h)
]

scan_short : (p : Parameters) (marks : List ℕ) (n : ℕ) (s : Standing) → IsShort marks s → IsShort marks (scan p marks n s)
scan_short p marks zero s h = subst (IsShort marks) (sym (scan-none p marks s)) h
scan_short p marks (suc n) s h = subst (IsShort marks) (sym (scan-suc p marks n s)) (scan_short p marks n (scan_step p marks s) (step_short p marks s h))

delivered_short : (p : Parameters) (blocks : List _) → 8 * length (delivered p blocks) ≤ length (marks_of p blocks)
delivered_short p blocks =
    let marks : List ℕ = marks_of p blocks in
    let h : IsShort marks (scan_from p marks scan_start) = scan_short p marks (length marks) scan_start (record { octets = omega arith; within = omega arith }) in
    omega (arith, h.octets, h.within)

-- ---- the blocks

-- a block of a verdict is no longer than the blocks of the rate
abbrev IsSmall : Parameters → Verdict → Type 0
IsSmall p v = length (block_marks (block_bits p.rate) (block_of v)) ≤ block_bits p.rate

length-mixed : (p : Parameters) (bits : List ℕ) → length (randomised p bits) ≡ length bits
length-mixed p bits = length-tabulate (length bits) _

kept_small : (p : Parameters) (hard : List ℕ) → length (randomised p (take (block_bits p.rate) hard)) ≤ block_bits p.rate
kept_small p hard =
    omega (arith, length-mixed p (take (block_bits p.rate) hard), length-take (block_bits p.rate) hard)

choose : (p : Parameters) (b : Bool) (x y : Verdict) → IsSmall p x → IsSmall p y → IsSmall p (if b then x else y)
choose p true x y h k = h
choose p false x y h k = k

from_small : (p : Parameters) (counts : List ℕ) (left r : ℕ) (l : List _) → IsSmall p (verdict_from p counts left r l)
unfolding verdict_from
from_small p counts zero r l = (let two : ℕ = 2 in omega (arith, length-replicate (block_bits p.rate) two))
from_small p counts (suc left) r l =
    let this = round p counts l in
    choose p (is_right p this.hard) _ _ (kept_small p this.hard) (from_small p counts left (r + 1) this.next)

verdict_small : (p : Parameters) (counts : List ℕ) → IsSmall p (verdict_of p counts)
unfolding verdict_of
verdict_small p counts = from_small p counts p.rounds 1 _

marks_few : (p : Parameters) (words : List (List (List ℕ))) → length (marks_of p (map block_of (map (λ word. verdict_of p (flat_map (λ sums. sums) word)) words))) ≤ length words * block_bits p.rate
marks_few p [] = omega arith
marks_few p (w ∷ ws) =
    let v : Verdict = verdict_of p (flat_map (λ sums. sums) w) in
    let first : length (block_marks (block_bits p.rate) (block_of v)) ≤ block_bits p.rate = verdict_small p (flat_map (λ sums. sums) w) in
    let rest = marks_few p ws in
    let all : (length ws + 1) * block_bits p.rate ≡ length ws * block_bits p.rate + block_bits p.rate = grind arith in
    omega (arith, length-append (block_marks (block_bits p.rate) (block_of v)) (marks_of p (map block_of (map (λ word. verdict_of p (flat_map (λ sums. sums) word)) ws))))

-- ---- the words

length-channel : (p : Parameters) (counts : List ℕ) (o : ℕ) → length (channel_sums p counts o) ≡ (length counts - o) / period_slots p * codeword_symbols p.order
unfolding channel_sums
length-channel p counts o = length-tabulate _ _

length-placed : (p : Parameters) (rows : List (List ℕ)) → length (deinterleaved_channel p [] rows) ≡ length rows - interleaver_depth p
unfolding deinterleaved_channel
length-placed p rows = length-tabulate _ _

words_few : (p : Parameters) (counts : List ℕ) (o : Offset) → 0 < codeword_symbols p.order → 0 < period_slots p → length (words_at p counts o) ≤ length counts / period_slots p
words_few p counts Short some slots = omega arith
words_few p counts Dark some slots = omega arith
words_few p counts (At offset best) some slots =
    let s : ℕ = codeword_symbols p.order in
    let g : ℕ = (length counts - offset) / period_slots p in
    let rows : length (channel_sums p counts offset) ≡ g * s = length-channel p counts offset in
    let placed : length (deinterleaved_channel p [] (channel_sums p counts offset)) ≡ g * s - interleaver_depth p = length-placed p (channel_sums p counts offset) ∙ ap (λ n. n - interleaver_depth p) rows in
    let groups : length (words_from p counts offset) ≡ (g * s - interleaver_depth p) / s = length-tabulate _ _ ∙ ap (λ n. n / s) placed in
    let few : (g * s - interleaver_depth p) / s ≤ g = div-le_of_le-mul s (let e : s * g ≡ g * s = grind arith in omega arith) in
    let back : g * period_slots p ≤ length counts - offset = div-mul-le_self (length counts - offset) (period_slots p) in
    let less : g ≤ length counts / period_slots p = (le-div_iff_mul-le slots).1 (omega arith) in
    omega arith

-- the octets of the frames, in bits, have room in the blocks of so many words as there are periods
frames_fit : (p : Parameters) (counts : List ℕ) → 0 < codeword_symbols p.order → 0 < period_slots p → 8 * length (counts_frames p counts) ≤ length counts / period_slots p * block_bits p.rate
unfolding counts_frames verdicts_of received_words
frames_fit p counts some slots =
    let words = words_at p counts (offset_of p counts) in
    let few : length words ≤ length counts / period_slots p = words_few p counts (offset_of p counts) some slots in
    let short = delivered_short p (map block_of (map (λ word. verdict_of p (flat_map (λ sums. sums) word)) words)) in
    let marks = marks_few p words in
    let all : length words * block_bits p.rate ≤ length counts / period_slots p * block_bits p.rate = mul-le (length words) (block_bits p.rate) (length counts / period_slots p) (block_bits p.rate) few (omega arith) in
    omega arith

-- the same of the counts that octets write
pub decoded_fits : (p : Parameters) (octets : List ℕ) → 0 < codeword_symbols p.order → 0 < period_slots p
    → 8 * length (decoded p octets) ≤ length (counts_of p octets) / period_slots p * block_bits p.rate
unfolding decoded
decoded_fits p octets some slots = frames_fit p (counts_of p octets) some slots
