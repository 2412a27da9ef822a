-- What `geometry` did to its devices, by how it ended, and its line.
use Rattle.std.specs.Prelude.{◌≡◌, ℕ, List, ◌++◌, length, codes, decimal}
use Rattle.std.specs.Io.KnownBytes.{append_known}
use Rattle.hpe_base.specs.declared.profile.Rate.{Rate}
use Rattle.hpe_base.specs.declared.profile.Rate.TheVariants.{Third, Half, TwoThirds}
use Rattle.hpe_base.specs.Parameters.{Parameters, positions, code_steps, block_bits, codeword_symbols, period_slots, interleaver_depth}
use Rattle.hpe_base.specs.Slots.{flush_words}
use Rattle.hpe_cmd.specs.declared.ending.Status.{Status}
use Rattle.hpe_cmd.specs.declared.ending.Status.TheVariants.{Done, WriteFault}
use Rattle.hpe_cmd.specs.Changes.{Change, GrowsIn, IsTold}
use Rattle.hpe_cmd.specs.FaultLines.{write_line}

-- the rate as it is written in a profile
abbrev pub rate_text : Rate → List ℕ
rate_text Third = codes "1/3"
rate_text Half = codes "1/2"
rate_text TwoThirds = codes "2/3"

-- the measures of the parameters in one line
unfoldable pub geometry_line : Parameters → List ℕ
geometry_line p =
    codes "order " ++ decimal (positions p.order)
    ++ codes " rate " ++ rate_text p.rate
    ++ codes " steps " ++ decimal (code_steps p.rate)
    ++ codes " block " ++ decimal (block_bits p.rate)
    ++ codes " symbols " ++ decimal (codeword_symbols p.order)
    ++ codes " marker " ++ decimal (length p.marker)
    ++ codes " period " ++ decimal (period_slots p)
    ++ codes " depth " ++ decimal (interleaver_depth p)
    ++ codes " flush " ++ decimal (flush_words p)
    ++ codes "\n"

-- `geometry`, by how it ends
abbrev pub GeometryRun : Parameters → Change → Change → Status → Type 0
GeometryRun p output report Done =
    (output.new ≡ append_known output.old (geometry_line p)) × (report.new ≡ report.old)
GeometryRun p output report WriteFault =
    GrowsIn output (geometry_line p) × IsTold report write_line
GeometryRun p output report _ = ⊥
