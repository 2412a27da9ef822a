-- What a receiver makes of a stream of counts: frames, a tally, and a report.
use Rattle.std.specs.Prelude.{ℕ, ◌+◌, ◌-◌, ◌%◌, List, [], ◌∷◌, ◌++◌, length, map, codes, decimal, Some, None, Bool, true, false}
use Rattle.std.specs.declared.option.Option.{Option}
use Rattle.std.specs.List.{flat_map, count_by}
use Rattle.hpe_base.specs.Parameters.{Parameters, period_slots}
use Rattle.hpe_base.specs.Counts.{counts_of, odd_octets}
use Rattle.hpe_base.specs.MarkerSearch.{Offset, Short, Dark, At, offset_of}
use Rattle.hpe_base.specs.ReceivedWords.{received_words}
use Rattle.hpe_base.specs.Rounds.{Verdict, Kept, Lost, verdict_of}
use Rattle.hpe_base.specs.FrameScan.{delivered, delivered_frames}

-- the verdicts on the words of a stream, each from the sums of its symbols, one symbol after another
unfoldable pub verdicts_of : Parameters → List ℕ → List Verdict
verdicts_of p counts = map (λ word. verdict_of p (flat_map (λ sums. sums) word)) (received_words p counts)

-- the block of a word that is kept
abbrev pub block_of : Verdict → Option (List ℕ)
block_of (Kept round block) = Some block
block_of Lost = None

-- the blocks of the words of a stream
abbrev pub blocks_of : Parameters → List ℕ → List (Option (List ℕ))
blocks_of p counts = map block_of (verdicts_of p counts)

-- the octets of the frames that counts give
unfoldable pub counts_frames : Parameters → List ℕ → List ℕ
counts_frames p counts = delivered p (blocks_of p counts)

-- the octets of the frames that are delivered from the counts that octets write
unfoldable pub decoded : Parameters → List ℕ → List ℕ
decoded p octets = counts_frames p (counts_of p octets)

-- a word is kept
abbrev pub is_kept : Verdict → Bool
is_kept (Kept round block) = true
is_kept Lost = false

-- a word is lost
abbrev pub is_lost : Verdict → Bool
is_lost (Kept round block) = false
is_lost Lost = true

-- how many words there are, are kept and are lost, how many frames are delivered, the offset, and the counts after the
-- last whole period, an odd octet included
pub record Tally : Type 0 where
  pub words : ℕ
  pub kept : ℕ
  pub lost : ℕ
  pub frames : ℕ
  pub lead : ℕ
  pub tail : ℕ

-- the tally by the odd octets behind the counts and by what the search found; a stream without a word has only a tail
abbrev pub tally_at : Parameters → List ℕ → ℕ → Offset → Tally
tally_at p counts odd Short = record { words = 0; kept = 0; lost = 0; frames = 0; lead = 0; tail = length counts + odd }
tally_at p counts odd Dark = record { words = 0; kept = 0; lost = 0; frames = 0; lead = 0; tail = length counts + odd }
tally_at p counts odd (At offset best) = record {
  words = length (verdicts_of p counts);
  kept = count_by is_kept (verdicts_of p counts);
  lost = count_by is_lost (verdicts_of p counts);
  frames = length (delivered_frames p (blocks_of p counts));
  lead = offset;
  tail = (length counts - offset) % period_slots p + odd;
}

-- the tally of counts and of the odd octets behind them
unfoldable pub counts_tally : Parameters → List ℕ → ℕ → Tally
counts_tally p counts odd = tally_at p counts odd (offset_of p counts)

-- the tally of the counts that octets write
unfoldable pub tally_of : Parameters → List ℕ → Tally
tally_of p octets = counts_tally p (counts_of p octets) (odd_octets p octets)

-- the line of word i
abbrev pub word_line : ℕ → Verdict → List ℕ
word_line i (Kept round block) = codes "word " ++ decimal i ++ codes " kept " ++ decimal round ++ codes "\n"
word_line i Lost = codes "word " ++ decimal i ++ codes " lost\n"

-- the lines of words, the first of which is word i
abbrev pub word_lines : ℕ → List Verdict → List ℕ
word_lines i [] = []
word_lines i (verdict ∷ verdicts) = word_line i verdict ++ word_lines (i + 1) verdicts

-- the line of a tally
abbrev pub tally_line : Tally → List ℕ
tally_line t =
    codes "words " ++ decimal t.words
    ++ codes " kept " ++ decimal t.kept
    ++ codes " lost " ++ decimal t.lost
    ++ codes " frames " ++ decimal t.frames
    ++ codes " lead " ++ decimal t.lead
    ++ codes " tail " ++ decimal t.tail
    ++ codes "\n"

-- the report by the odd octets and by what the search found
abbrev pub report_at : Parameters → List ℕ → ℕ → Offset → List ℕ
report_at p counts odd Short = tally_line (counts_tally p counts odd)
report_at p counts odd Dark = codes "no marker in " ++ decimal (length counts) ++ codes " slots\n"
report_at p counts odd (At offset best) = word_lines 0 (verdicts_of p counts) ++ tally_line (counts_tally p counts odd)

-- the report on counts and on the odd octets behind them
unfoldable pub counts_report : Parameters → List ℕ → ℕ → List ℕ
counts_report p counts odd = report_at p counts odd (offset_of p counts)

-- the report on the counts that octets write: a line for each word and one for the tally, or the line on the missing
-- marker
unfoldable pub report_of : Parameters → List ℕ → List ℕ
report_of p octets = counts_report p (counts_of p octets) (odd_octets p octets)
