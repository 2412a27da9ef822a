-- The verdicts on the words of counts that begin with a codeword marker.
use Rattle.std.specs.Prelude.{ℕ, List, [], map}
use Rattle.std.specs.List.{flat_map}
use Rattle.hpe_base.specs.Parameters.{Parameters, codeword_symbols}
use Rattle.hpe_base.specs.ChannelInterleaver.{deinterleaved_channel}
use Rattle.hpe_base.specs.ReceivedWords.{channel_sums, groups_of}
use Rattle.hpe_base.specs.Rounds.{Verdict, verdict_of}

-- the verdicts on the whole words of rows in the order of the codewords
unfoldable pub verdicts_on : Parameters → List (List ℕ) → List Verdict
verdicts_on p rows = map (λ word. verdict_of p (flat_map (λ sums. sums) word)) (groups_of (codeword_symbols p.order) rows)

-- the verdicts that are settled: those on the words in the whole periods of the counts
abbrev pub settled : Parameters → List ℕ → List Verdict
settled p seen = verdicts_on p (deinterleaved_channel p [] (channel_sums p seen 0))
