-- What was received, from the start of the input.
use Rattle.std.proofs.Common.{◌≡◌, ◌≢◌, ◌+◌, ◌-◌, ◌%◌, ◌/◌, ◌≤◌, ◌++◌, ℕ, List, [], length, take, drop, map, ap, sym, ◌∙◌, refl, subst, arith, append-nil, length-drop}
use Rattle.std.specs.List.{flat_map, count_by}
use Rattle.std.specs.declared.option.Option.{Option}
use Rattle.std.specs.Io.KnownBytes.{append_known, IsAtEnd}
use Rattle.std.proofs.lemmas.List.{take_all, drop-append-le}
use Rattle.hpe_base.specs.Parameters.{Parameters, period_slots}
use Rattle.hpe_base.specs.Counts.{counts_of, odd_octets}
use Rattle.hpe_base.specs.MarkerSearch.{Offset, Short, At, Dark, offset_of}
use Rattle.hpe_base.specs.ReceivedWords.{words_at, received_words}
use Rattle.hpe_base.specs.Rounds.{Verdict, verdict_of}
use Rattle.hpe_base.specs.FrameScan.{delivered, delivered_frames, Standing, scan_start}
use Rattle.hpe_base.specs.Decoded.{Tally, verdicts_of, counts_frames, decoded, block_of, is_kept, tally_at, counts_tally, tally_of, tally_line, report_at, counts_report, report_of, word_lines}
use Rattle.hpe_io.specs.Devices.{GrowsByFront, Grows, TakesAtMost}
use Rattle.hpe_io.specs.Intake.{IntakeState, HasCome}
use Rattle.hpe_io.proofs.Fronts.{front_after, front_before, front_none, front_of_all, all_after, grows_some}
use Rattle.hpe_io.proofs.Known.{append_nothing}
use Rattle.hpe_io.proofs.Taking.{come_all}
use Rattle.hpe_base.proofs.FrameScan.{scan-none}
use Rattle.hpe_recv.specs.Counting.{CountIntakeState, HasCounted, HasCountedPart}
use Rattle.hpe_recv.specs.Settled.{settled}
use Rattle.hpe_recv.specs.Delivering.{Delivering, PutsPart, PutsLines, HasDelivered, frames_of}
use Rattle.hpe_recv.specs.Receiving.{Receives, ReceivesPart, ReportsWords, dark_line}
use Rattle.hpe_recv.proofs.Counting.{counted_count}
use Rattle.hpe_recv.proofs.Offsets.{at-not_dark}
use Rattle.hpe_recv.proofs.Decoding.{verdicts_are, decoded_is, report_is, tally_is}

-- ---- counts that are kept

-- those that are kept, from the offset on
pub kept_slice : (kept fed : List ℕ) (o : ℕ) → kept ≡ fed → take (length kept - o) (drop o kept) ≡ drop o fed
kept_slice kept fed o e = take_all (length kept - o) (drop o kept) (omega (arith, length-drop o kept)) ∙ ap (drop o) e

-- the same, where no others come
pub kept_all : (kept fed : List ℕ) (o : ℕ) → kept ≡ fed → take (length kept - o) (drop o kept) ≡ drop o fed ++ []
kept_all kept fed o e = kept_slice kept fed o e ∙ sym (append-nil (drop o fed))

-- and with others behind them
pub drop-kept : (kept rest : List ℕ) (o : ℕ) → o ≤ length kept → drop o kept ++ rest ≡ drop o (kept ++ rest)
drop-kept kept rest o within = sym (drop-append-le o kept rest within)

-- ---- words

-- a marker is found in all counts that came
module _ (p : Parameters) (counts : List ℕ) (o score : ℕ) (at : offset_of p counts ≡ At o score)
    (i : CountIntakeState) (same : i.parameters ≡ p) (limit : ℕ) (same_limit : i.octets.limit ≡ limit) (start left : Option (List ℕ)) where
  -- the octets that were taken within the limit write them
  cut_written : (h : HasCountedPart i start left counts) → counts ≡ counts_of p (take limit h.stopped.all)
  cut_written h = h.written ∙ (ap (λ q. counts_of q h.octets) same ∙ ap (counts_of p) (sym h.stopped.within ∙ ap (λ (n : ℕ). take n h.stopped.all) same_limit))

  -- the input or a sink was left before its end
  pub words_part : (f f' r r' : Option (List ℕ)) → HasCountedPart i start left counts → i.octets.taken ≤ i.octets.limit + 1 → PutsPart p (settled p (drop o counts)) f f' r r'
      → ReceivesPart p limit start left f f' r r'
  words_part f f' r r' h most part =
      let count : length h.stopped.all ≡ i.octets.taken = h.stopped.come.count in
      let octets : List ℕ = take limit h.stopped.all in
      record {
        octets = h.stopped.all;
        lost = h.stopped.come.lost;
        most = omega arith;
        decodes = subst (GrowsByFront f f') (sym (decoded_is p counts o score at octets (cut_written h))) part.frames_part;
        reports = subst (GrowsByFront r r') (sym (report_is p counts o score at octets (cut_written h))) (front_before r r' _ _ part.report_part);
      }

  -- and that was not the report
  pub words_lines : (r r' : Option (List ℕ)) → HasCountedPart i start left counts → PutsLines (settled p (drop o counts)) r r' → ReportsWords p limit start left r r'
  words_lines r r' h lines = record {
    octets = h.stopped.all;
    lost = h.stopped.come.lost;
    words = lines.0;
    reports = lines.1 ∙ (ap (λ vs. append_known r (word_lines 0 (take lines.0 vs))) (sym (verdicts_are p counts o score at))
        ∙ ap (λ (l : List ℕ). append_known r (word_lines 0 (take lines.0 (verdicts_of p l)))) (cut_written h));
  }

  -- all of the input was taken
  module _ (out : Delivering) (f f' r mid : Option (List ℕ)) (same_scan : out.scan.parameters ≡ p) (d : HasDelivered out (settled p (drop o counts)) f f' r mid)
      (come : HasCounted i start left counts) (ended : IsAtEnd left) (fits : i.octets.taken ≤ i.octets.limit) where
    written : counts ≡ counts_of p come.octets
    written = come.written ∙ ap (λ q. counts_of q come.octets) same

    within : length come.octets ≤ limit
    within = let count : length come.octets ≡ i.octets.taken = come.come.count in omega arith

    frames : f' ≡ append_known f (decoded p come.octets)
    frames = d.frames_put ∙ ap (append_known f) (ap (λ q. frames_of q (settled p (drop o counts))) same_scan ∙ sym (decoded_is p counts o score at come.octets written))

    -- the tally from what the outlet and the intake counted
    pub words_tally : (total odd words kept words' kept' framed lead period : ℕ)
        → total ≡ i.octets.taken / i.parameters.count_octets → odd ≡ i.octets.taken % i.parameters.count_octets → words ≡ out.words → kept ≡ out.kept
        → words' ≡ out.words → kept' ≡ out.kept → framed ≡ out.scan.frames → lead ≡ o → period ≡ period_slots p
        → record { words = words; kept = kept; lost = words' - kept'; frames = framed; lead = lead; tail = (total - lead) % period + odd } ≡ tally_of p come.octets
    words_tally total odd words kept words' kept' framed lead period e x w k w' k' n l m =
        let count : total ≡ length counts = e ∙ counted_count i start left counts come in
        let rest : odd ≡ odd_octets p come.octets = x ∙ (ap (λ a. a % i.parameters.count_octets) (sym come.come.count) ∙ ap (λ q. length come.octets % q.count_octets) same) in
        let vs : List Verdict = settled p (drop o counts) in
        let delivers : framed ≡ length (delivered_frames p (map block_of vs)) =
        n ∙ (d.scanned.frames ∙ ap (λ q. length (delivered_frames q (map block_of vs))) same_scan) in
        let words_are : words ≡ length vs = w ∙ d.words in
        let kept_are : kept ≡ count_by is_kept vs = k ∙ d.kept in
        let words_too : words' ≡ length vs = w' ∙ d.words in
        let kept_too : kept' ≡ count_by is_kept vs = k' ∙ d.kept in
        rw (words_are, kept_are, words_too, kept_too, delivers, l, count, m, rest) (sym (tally_is p counts o score at come.octets written))

    -- and its line was put
    pub words_all : (r' : Option (List ℕ)) → r' ≡ append_known mid (tally_line (tally_of p come.octets)) → Receives p limit start left f f' r r' come.octets
    words_all r' e = record {
      reads = come_all i.octets start left come.octets come.come ended;
      within = within;
      decodes = frames;
      reports = all_after r mid r' _ _ d.report_put e ∙ ap (append_known r) (sym (report_is p counts o score at come.octets written));
    }

    -- and the octets write what was searched
    pub words_found : offset_of p (counts_of p come.octets) ≢ Dark
    words_found dark = at-not_dark p counts o score at (ap (offset_of p) written ∙ dark)

    -- or some front of it
    pub words_cut : (r' : Option (List ℕ)) → GrowsByFront mid r' (tally_line (tally_of p come.octets)) → ReceivesPart p limit start left f f' r r'
    words_cut r' g =
        let fits_too : length come.octets ≤ limit = within in
        let first : take limit come.octets ≡ come.octets = take_all limit come.octets within in
        record {
          octets = come.octets;
          lost = come.come.lost;
          most = omega arith;
          decodes = subst (λ (l : List ℕ). GrowsByFront f f' (decoded p l)) (sym first) (front_of_all f f' _ frames);
          reports = subst (λ (l : List ℕ). GrowsByFront r r' (report_of p l)) (sym first)
              (subst (GrowsByFront r r') (sym (report_is p counts o score at come.octets written)) (front_after r mid r' _ _ d.report_put g));
        }

-- ---- no words

abbrev no_frames : (p : Parameters) → delivered p [] ≡ []
no_frames p = ap (λ (t : Standing). flat_map (λ frame. frame) t.frames) (scan-none p [] scan_start)

-- what is decoded where the search finds nothing
frames_at : (p : Parameters) (counts : List ℕ) (found : Offset) → offset_of p counts ≡ found → words_at p counts found ≡ [] → counts_frames p counts ≡ []
unfolding counts_frames verdicts_of received_words
frames_at p counts found e none =
    ap (λ (o : Offset). delivered p (map block_of (map (λ word. verdict_of p (flat_map (λ sums. sums) word)) (words_at p counts o)))) e
    ∙ (ap (λ (words : List (List (List ℕ))). delivered p (map block_of (map (λ word. verdict_of p (flat_map (λ sums. sums) word)) words))) none ∙ no_frames p)

counts_report_dark : (p : Parameters) (counts : List ℕ) (odd : ℕ) → offset_of p counts ≡ Dark → counts_report p counts odd ≡ dark_line (length counts)
unfolding counts_report dark_line
counts_report_dark p counts odd e = ap (report_at p counts odd) e

counts_report_short : (p : Parameters) (counts : List ℕ) (odd : ℕ) → offset_of p counts ≡ Short → counts_report p counts odd ≡ tally_line (counts_tally p counts odd)
unfolding counts_report
counts_report_short p counts odd e = ap (report_at p counts odd) e

counts_tally_short : (p : Parameters) (counts : List ℕ) (odd : ℕ) → offset_of p counts ≡ Short → counts_tally p counts odd ≡ tally_at p counts odd Short
unfolding counts_tally
counts_tally_short p counts odd e = ap (tally_at p counts odd) e

decoded_dark : (p : Parameters) (octets : List ℕ) → offset_of p (counts_of p octets) ≡ Dark → decoded p octets ≡ []
unfolding decoded
decoded_dark p octets e = frames_at p (counts_of p octets) Dark e refl

decoded_short : (p : Parameters) (octets : List ℕ) → offset_of p (counts_of p octets) ≡ Short → decoded p octets ≡ []
unfolding decoded
decoded_short p octets e = frames_at p (counts_of p octets) Short e refl

report_dark : (p : Parameters) (octets : List ℕ) → offset_of p (counts_of p octets) ≡ Dark → report_of p octets ≡ dark_line (length (counts_of p octets))
unfolding report_of
report_dark p octets e = counts_report_dark p (counts_of p octets) (odd_octets p octets) e

report_short : (p : Parameters) (octets : List ℕ) → offset_of p (counts_of p octets) ≡ Short → report_of p octets ≡ tally_line (tally_of p octets)
unfolding report_of tally_of
report_short p octets e = counts_report_short p (counts_of p octets) (odd_octets p octets) e

-- a tally of a tail alone
abbrev tail_tally : ℕ → Tally
tail_tally n = record { words = 0; kept = 0; lost = 0; frames = 0; lead = 0; tail = n }

tally_short : (p : Parameters) (octets : List ℕ) → offset_of p (counts_of p octets) ≡ Short → tally_of p octets ≡ tail_tally (length (counts_of p octets) + odd_octets p octets)
unfolding tally_of
tally_short p octets e = counts_tally_short p (counts_of p octets) (odd_octets p octets) e

-- all octets came, and there are no frames and one line
module _ (p : Parameters) (octets line : List ℕ) (none : decoded p octets ≡ []) (one : report_of p octets ≡ line)
    (i : IntakeState) (limit : ℕ) (same_limit : i.limit ≡ limit) (start left : Option (List ℕ)) (come : HasCome i start left octets) (fits : i.taken ≤ i.limit) (w r r' : Option (List ℕ)) where
  line_within : length octets ≤ limit
  line_within = let count : length octets ≡ i.taken = come.count in omega arith

  line_all : IsAtEnd left → r' ≡ append_known r line → Receives p limit start left w w r r' octets
  line_all ended e = record {
    reads = come_all i start left octets come ended;
    within = line_within;
    decodes = sym (ap (append_known w) none ∙ append_nothing w);
    reports = e ∙ ap (append_known r) (sym one);
  }

  line_cut : GrowsByFront r r' line → ReceivesPart p limit start left w w r r'
  line_cut g =
      let fits_too : length octets ≤ limit = line_within in
      record {
        octets = octets;
        lost = come.lost;
        most = omega arith;
        decodes = front_none w _;
        reports = subst (λ (l : List ℕ). GrowsByFront r r' (report_of p l)) (sym (take_all limit octets line_within)) (subst (GrowsByFront r r') (sym one) g);
      }

-- counts that came, by what writes them
module _ (p : Parameters) (counts line : List ℕ) (total : ℕ) (i : CountIntakeState) (same : i.parameters ≡ p) (limit : ℕ) (same_limit : i.octets.limit ≡ limit)
    (count : total ≡ i.octets.taken / i.parameters.count_octets) (start left : Option (List ℕ)) (come : HasCounted i start left counts) (fits : i.octets.taken ≤ i.octets.limit) (w r r' : Option (List ℕ)) where
  are : counts ≡ counts_of p come.octets
  are = come.written ∙ ap (λ q. counts_of q come.octets) same

  total_is : total ≡ length (counts_of p come.octets)
  total_is = count ∙ (counted_count i start left counts come ∙ ap (λ (l : List ℕ). length l) are)

  -- without a marker
  module _ (dark : offset_of p counts ≡ Dark) (text : line ≡ dark_line total) where
    dark_at : offset_of p (counts_of p come.octets) ≡ Dark
    dark_at = ap (offset_of p) (sym are) ∙ dark

    dark_report : report_of p come.octets ≡ line
    dark_report = report_dark p come.octets dark_at ∙ (ap dark_line (sym total_is) ∙ sym text)

    pub dark_all : IsAtEnd left → r' ≡ append_known r line
        → (octets : List ℕ) × Receives p limit start left w w r r' octets × (total ≡ length (counts_of p octets)) × (offset_of p (counts_of p octets) ≡ Dark)
    dark_all ended e = (
      come.octets,
      line_all p come.octets line (decoded_dark p come.octets dark_at) dark_report i.octets limit same_limit start left come.come fits w r r' ended e,
      total_is,
      dark_at,
    )

    pub dark_cut : GrowsByFront r r' line → ReceivesPart p limit start left w w r r'
    dark_cut g = line_cut p come.octets line (decoded_dark p come.octets dark_at) dark_report i.octets limit same_limit start left come.come fits w r r' g

  -- shorter than a period
  module _ (odd : ℕ) (rest : odd ≡ i.octets.taken % i.parameters.count_octets) (short : offset_of p counts ≡ Short)
      (text : line ≡ tally_line (record { words = 0; kept = 0; lost = 0; frames = 0; lead = 0; tail = total + odd })) where
    short_at : offset_of p (counts_of p come.octets) ≡ Short
    short_at = ap (offset_of p) (sym are) ∙ short

    odd_is : odd ≡ odd_octets p come.octets
    odd_is = rest ∙ (ap (λ n. n % i.parameters.count_octets) (sym come.come.count) ∙ ap (λ q. length come.octets % q.count_octets) same)

    short_tally : record { words = 0; kept = 0; lost = 0; frames = 0; lead = 0; tail = total + odd } ≡ tally_of p come.octets
    short_tally = rw (total_is, odd_is) (sym (tally_short p come.octets short_at))

    short_report : report_of p come.octets ≡ line
    short_report = report_short p come.octets short_at ∙ (ap tally_line (sym short_tally) ∙ sym text)

    pub short_all : IsAtEnd left → r' ≡ append_known r line → (octets : List ℕ) × Receives p limit start left w w r r' octets
        × (record { words = 0; kept = 0; lost = 0; frames = 0; lead = 0; tail = total + odd } ≡ tally_of p octets) × (offset_of p (counts_of p octets) ≢ Dark)
    short_all ended e = (
      come.octets,
      line_all p come.octets line (decoded_short p come.octets short_at) short_report i.octets limit same_limit start left come.come fits w r r' ended e,
      short_tally,
      λ dark. (let both : Short ≡ Dark = sym short_at ∙ dark in absurd cc),
    )

    pub short_cut : GrowsByFront r r' line → ReceivesPart p limit start left w w r r'
    short_cut g = line_cut p come.octets line (decoded_short p come.octets short_at) short_report i.octets limit same_limit start left come.come fits w r r' g

-- ---- nothing was put

pub part_none : (p : Parameters) (i : CountIntakeState) (limit : ℕ) (counts : List ℕ) (start left w r : Option (List ℕ)) → i.octets.limit ≡ limit → i.octets.taken ≤ limit + 1
    → HasCountedPart i start left counts → ReceivesPart p limit start left w w r r
part_none p i limit counts start left w r same most h = record {
  octets = h.stopped.all;
  lost = h.stopped.come.lost;
  most = let count : length h.stopped.all ≡ i.octets.taken = h.stopped.come.count in omega arith;
  decodes = front_none w _;
  reports = front_none r _;
}

pub lines_none : (p : Parameters) (i : CountIntakeState) (limit : ℕ) (counts : List ℕ) (start left r : Option (List ℕ)) → i.octets.limit ≡ limit → HasCountedPart i start left counts → ReportsWords p limit start left r r
lines_none p i limit counts start left r same h = record { octets = h.stopped.all; lost = h.stopped.come.lost; words = 0; reports = sym (append_nothing r) }

-- ---- what follows of all that was done

-- at most one octet more than the limit was taken
pub part_taken : (p : Parameters) (limit : ℕ) (start left f f' r r' : Option (List ℕ)) → ReceivesPart p limit start left f f' r r' → TakesAtMost start left (limit + 1)
part_taken p limit start left f f' r r' h = record { octets = h.octets; count = h.most; lost = h.lost }

pub all_taken : (p : Parameters) (limit : ℕ) (start left f f' r r' : Option (List ℕ)) (octets : List ℕ) → Receives p limit start left f f' r r' octets → TakesAtMost start left (limit + 1)
all_taken p limit start left f f' r r' octets h = let fits : length octets ≤ limit = h.within in record { octets = octets; count = omega arith; lost = h.reads.lost }

-- the sinks grew
pub part_grows : (p : Parameters) (limit : ℕ) (start left f f' r r' : Option (List ℕ)) → ReceivesPart p limit start left f f' r r' → Grows f f' × Grows r r'
part_grows p limit start left f f' r r' h = (grows_some f f' _ h.decodes, grows_some r r' _ h.reports)

pub all_grow : (p : Parameters) (limit : ℕ) (start left f f' r r' : Option (List ℕ)) (octets : List ℕ) → Receives p limit start left f f' r r' octets → Grows f f' × Grows r r'
all_grow p limit start left f f' r r' octets h = (record { octets = _; grown = h.decodes }, record { octets = _; grown = h.reports })

-- ---- parameters and limit by other names

pub part-of : (p q : Parameters) (limit n : ℕ) (start left f f' r r' : Option (List ℕ)) → q ≡ p → n ≡ limit → ReceivesPart q n start left f f' r r' → ReceivesPart p limit start left f f' r r'
part-of p q limit n start left f f' r r' same e h =
    subst (λ m. ReceivesPart p m start left f f' r r') e (subst (λ s. ReceivesPart s n start left f f' r r') same h)

pub lines-of : (p q : Parameters) (limit n : ℕ) (start left r r' : Option (List ℕ)) → q ≡ p → n ≡ limit → ReportsWords q n start left r r' → ReportsWords p limit start left r r'
lines-of p q limit n start left r r' same e h =
    subst (λ m. ReportsWords p m start left r r') e (subst (λ s. ReportsWords s n start left r r') same h)

pub receives-of : (p q : Parameters) (limit n : ℕ) (start left f f' r r' : Option (List ℕ)) (octets : List ℕ) → q ≡ p → n ≡ limit → Receives q n start left f f' r r' octets
    → Receives p limit start left f f' r r' octets
receives-of p q limit n start left f f' r r' octets same e h =
    subst (λ m. Receives p m start left f f' r r' octets) e (subst (λ s. Receives s n start left f f' r r' octets) same h)
