-- The words that wait to be decoded together, and after which verdicts.
use Rattle.std.specs.Prelude.{⊤, if◌then◌else◌, ℕ, ◌≡◌, ◌≤◌, ◌+◌, ◌-◌, ◌++◌, List, [], ◌∷◌, length, take, map, Bool, true, Some, None}
use Rattle.std.specs.declared.option.Option.{Option}
use Rattle.hpe_base.specs.Rounds.{Verdict, verdict_of}
use Rattle.hpe_turn.specs.declared.verdict.Verdict as answer
use Rattle.hpe_crew.specs.Crewing.{Crewing}
use Rattle.hpe_crew.specs.Answering.{verdict_with}
use Rattle.hpe_recv.specs.Delivering.{Delivering, HasDelivered}

-- the verdict that stands aside, if one does, with the block
abbrev pub completed : Option answer.Verdict → List ℕ → List Verdict
completed None block = []
completed (Some answer) block = verdict_with answer block ∷ []

-- a batch: the crew with the words that are loaded, the answer that stands aside for the end of its period, with its
-- block, whether the last word was completed in the period that runs, and the outlet
pub record Batching : Type 0 where
  pub crew : Crewing
  pub aside : Option answer.Verdict
  pub block : List ℕ
  pub late : Bool
  pub outlet : Delivering

-- the verdicts on the loaded words
abbrev pub loaded_verdicts : Crewing → List Verdict
loaded_verdicts c = map (verdict_of c.parameters) c.loads

-- the verdicts that are not put
abbrev pub waiting : Batching → List Verdict
waiting b = completed b.aside b.block ++ loaded_verdicts b.crew

-- how many of them are on words of the period that runs: one or none
abbrev pub late_count : Batching → ℕ
late_count b = if b.late then 1 else 0

-- those on words of periods that are whole
abbrev pub ready : Batching → List Verdict
ready b = take (length (waiting b) - late_count b) (waiting b)

abbrev pub aside_count : Option answer.Verdict → ℕ
aside_count None = 0
aside_count (Some answer) = 1

-- the blocks that the outlet has had and is to have
abbrev pub blocks_due : Batching → ℕ
blocks_due b = b.outlet.scan.blocks + (aside_count b.aside + length b.crew.loads)

-- where an answer stands aside, no word is loaded, and the answer is on a word of the period that runs
abbrev pub IsAlone : Option answer.Verdict → List (List ℕ) → Bool → Type 0
IsAlone None loads late = ⊤
IsAlone (Some answer) loads late = (loads ≡ []) × (late ≡ true)

-- these verdicts are completed, and these of them are on words of whole periods; those that don't wait were put since the
-- sinks stood at these
pub record HasBatched (b : Batching) (all whole : List Verdict) (frames frames' report report' : Option (List ℕ)) : Type 0 where
  pub put : List Verdict
  pub delivered : HasDelivered b.outlet put frames frames' report report'
  pub all_are : all ≡ put ++ waiting b
  pub whole_are : whole ≡ put ++ ready b
  pub some : late_count b ≤ length (waiting b)
  pub alone : IsAlone b.aside b.crew.loads b.late
  pub outlet : b.outlet.scan.parameters ≡ b.crew.parameters
