-- A run that meets no fault comes to what is due.
use Rattle.std.proofs.Common.{◌≡◌, ◌≢◌, ◌∙◌, ◌+◌, ◌%◌, ◌<◌, ◌≤◌, ◌++◌, ◌==◌, ℕ, Bool, true, false, if◌then◌else◌, List, [], length, length-append, rules, Option, Some, None, Result, Ok, Err, refl, sym, ap, subst, arith, inl, inr}
use Rattle.std.proofs.lemmas.Bool.{ne_eqb}
use Rattle.std.specs.Io.KnownBytes.{append_known, prepend_known}
use Rattle.std.specs.Prelude.{IfSome}
use Rattle.hpe_base.specs.Counts.{counts_of}
use Rattle.hpe_base.specs.Decoded.{tally_of}
use Rattle.hpe_base.specs.MarkerSearch.{Offset, Short, Dark, At, offset_of}
use Rattle.hpe_base.specs.Parameters.{Parameters}
use Rattle.hpe_io.proofs.Known.{append_nothing}
use Rattle.hpe_io.specs.Devices.{TakesCount}
use Rattle.hpe_io.specs.Shelves.{Named}
use Rattle.hpe_sim.specs.Simulated.{sim_counts, slots_for, summary}
use Rattle.hpe_sim.specs.declared.task.Task.{Task}
use Rattle.hpe_cmd.specs.declared.ending.Ending.{Ending}
use Rattle.hpe_cmd.specs.declared.ending.Ending.TheVariants as ending
use Rattle.hpe_cmd.specs.declared.ending.Status.{Status}
use Rattle.hpe_cmd.specs.declared.ending.Status.TheVariants.{Done, ReadFault, WriteFault, ReportFault, TooLong, Ragged, WordsLost, NoMarker}
use Rattle.hpe_cmd.specs.declared.words.Action.{Action}
use Rattle.hpe_cmd.specs.declared.words.Action.TheVariants.{Encode, Decode, Geometry, Simulate}
use Rattle.hpe_cmd.specs.Causes.{HasCause, ShelfCause}
use Rattle.hpe_cmd.specs.Changes.{Change, Fails, IsTold}
use Rattle.hpe_cmd.specs.Complete.{HasOutcome, IsFeasible, IsWithin, MeetsNoFault, Outcome, decode_outcome, encode_outcome, geometry_outcome, outcome, simulate_outcome, summary_at}
use Rattle.hpe_cmd.specs.DecodeRun.{DecodeRun, Decodes, status_at}
use Rattle.hpe_cmd.specs.EncodeRun.{EncodeRun, Encodes, encode_line}
use Rattle.hpe_cmd.specs.FaultLines.{ragged_line}
use Rattle.hpe_cmd.specs.GeometryRun.{GeometryRun}
use Rattle.hpe_cmd.specs.Runs.{ActRun, Acts, Follows, IsChosen, Stops, opened}
use Rattle.hpe_cmd.specs.SimulateRun.{SimulateRun, Simulates}
use Rattle.hpe_cmd.specs.Statuses.{status_of}
use Rattle.hpe_cmd.specs.Words.{Request}
use Rattle.hpe_cmd.proofs.ClearRun.{taken_all}

-- ---- the input

-- no more octets were taken than it held
taken_past : (octets taken : List ℕ) (left : Option (List ℕ)) (limit : ℕ) → Some octets ≡ prepend_known taken left
    → length taken ≡ limit + 1 → length octets ≤ limit → ⊥
taken_past octets taken None limit lost count few = cc
taken_past octets taken (Some rest) limit lost count few =
    let same : octets ≡ taken ++ rest = cc in
    let size : length octets ≡ length taken + length rest = ap length same ∙ length-append taken rest in
    absurd (omega (arith, size, count, few))

past_limit : (i : Change) (octets : List ℕ) (limit : ℕ) → i.old ≡ Some octets → length octets ≤ limit
    → TakesCount i.old i.new (limit + 1) → ⊥
past_limit i octets limit holds few took =
    taken_past octets took.octets i.new limit (sym holds ∙ took.lost) took.count few

-- ---- `encode`

-- nothing is left over, or something is
whole : {A : Type 0} (n : ℕ) (a b : A) → n ≡ 0 → (if n == 0 then a else b) ≡ a
whole n a b none = rw none refl

ragged : {A : Type 0} (n : ℕ) (a b : A) → 0 < n → (if n == 0 then a else b) ≡ b
ragged n a b some = rw (ne_eqb n 0 (λ none. absurd (omega (arith, some, none)))) refl

-- a line was put on a report that didn't fail
put_whole : (t : Change) (line : List ℕ) → IsTold t line → (Fails t → ⊥) → t.new ≡ append_known t.old line
put_whole t line (inl all) sound = all.0
put_whole t line (inr cut) sound = absurd (sound cut.0)

encoded_whole : (p : Parameters) (limit : ℕ) (i o t : Change) (octets : List ℕ) → Encodes p limit i o octets
    → length octets % p.frame_octets ≡ 0 → t.new ≡ append_known t.old (encode_line p octets)
    → HasOutcome (encode_outcome p octets) o t Done
encoded_whole p limit i o t octets all none told =
    subst (λ (due : Outcome). HasOutcome due o t Done) (sym (whole (length octets % p.frame_octets) _ _ none))
    (record { ends = refl; written = all.slots; told = told })

encoded_ragged : (p : Parameters) (limit : ℕ) (i o t : Change) (octets : List ℕ) → Encodes p limit i o octets
    → 0 < length octets % p.frame_octets
    → t.new ≡ append_known t.old (ragged_line (length octets % p.frame_octets))
    → HasOutcome (encode_outcome p octets) o t Ragged
encoded_ragged p limit i o t octets all some told =
    subst (λ (due : Outcome). HasOutcome due o t Ragged) (sym (ragged (length octets % p.frame_octets) _ _ some))
    (record { ends = refl; written = all.slots; told = told })

encode_comes : (p : Parameters) (limit : ℕ) (i o t : Change) (s : Status) (octets : List ℕ)
    → i.old ≡ Some octets → length octets ≤ limit
    → (Fails i → ⊥) → (Fails o → ⊥) → (Fails t → ⊥) → HasCause s i o t
    → EncodeRun p limit i o t s → HasOutcome (encode_outcome p octets) o t s
encode_comes p limit i o t Done octets holds few read write tell cause run =
    subst (λ (l : List ℕ). HasOutcome (encode_outcome p l) o t Done)
    (taken_all octets run.0 i.new (sym holds ∙ run.1.reads.lost) run.1.reads.ended)
    (encoded_whole p limit i o t run.0 run.1 run.2 run.3)
encode_comes p limit i o t Ragged octets holds few read write tell cause run =
    subst (λ (l : List ℕ). HasOutcome (encode_outcome p l) o t Ragged)
    (taken_all octets run.0 i.new (sym holds ∙ run.1.reads.lost) run.1.reads.ended)
    (encoded_ragged p limit i o t run.0 run.1 run.2 (put_whole t _ run.3 tell))
encode_comes p limit i o t TooLong octets holds few read write tell cause run =
    absurd (past_limit i octets limit holds few run.0)
encode_comes p limit i o t ReadFault octets holds few read write tell cause run = absurd (read cause.input)
encode_comes p limit i o t WriteFault octets holds few read write tell cause run = absurd (write cause.output)
encode_comes p limit i o t ReportFault octets holds few read write tell cause run = absurd (tell cause.report)
encode_comes p limit i o t s octets holds few read write tell cause run = absurd run

-- ---- `decode`

decoded_all : (p : Parameters) (limit : ℕ) (i o t : Change) (s : Status) (octets : List ℕ) → i.old ≡ Some octets
    → Decodes p limit i o t s → HasOutcome (decode_outcome p octets) o t s
decoded_all p limit i o t s octets holds all =
    subst (λ (l : List ℕ). HasOutcome (decode_outcome p l) o t s)
    (taken_all octets all.0 i.new (sym holds ∙ all.1.reads.lost) all.1.reads.ended)
    (record { ends = all.2; written = all.1.decodes; told = all.1.reports })

decode_comes : (p : Parameters) (limit : ℕ) (i o t : Change) (s : Status) (octets : List ℕ)
    → i.old ≡ Some octets → length octets ≤ limit
    → (Fails i → ⊥) → (Fails o → ⊥) → (Fails t → ⊥) → HasCause s i o t
    → DecodeRun p limit i o t s → HasOutcome (decode_outcome p octets) o t s
decode_comes p limit i o t Done octets holds few read write tell cause run =
    decoded_all p limit i o t Done octets holds run.decoded
decode_comes p limit i o t WordsLost octets holds few read write tell cause run =
    decoded_all p limit i o t WordsLost octets holds run.decoded
decode_comes p limit i o t NoMarker octets holds few read write tell cause run =
    decoded_all p limit i o t NoMarker octets holds run.decoded
decode_comes p limit i o t TooLong octets holds few read write tell cause run =
    absurd (past_limit i octets limit holds few run.0)
decode_comes p limit i o t ReadFault octets holds few read write tell cause run = absurd (read cause.input)
decode_comes p limit i o t WriteFault octets holds few read write tell cause run = absurd (write cause.output)
decode_comes p limit i o t ReportFault octets holds few read write tell cause run = absurd (tell cause.report)
decode_comes p limit i o t s octets holds few read write tell cause run = absurd run

-- ---- `geometry`

geometry_comes : (p : Parameters) (i o t : Change) (s : Status) → (Fails o → ⊥) → HasCause s i o t
    → GeometryRun p o t s → HasOutcome (geometry_outcome p) o t s
geometry_comes p i o t Done write cause run =
    record { ends = refl; written = run.0; told = run.1 ∙ sym (append_nothing t.old) }
geometry_comes p i o t WriteFault write cause run = absurd (write cause.output)
geometry_comes p i o t s write cause run = absurd run

-- ---- `simulate`

-- lost words don't tell that there is no marker
marked : (b : Bool) → NoMarker ≡ (if b then Done else WordsLost) → ⊥
marked true is = cc
marked false is = cc

-- the summary is due where the status isn't that on the marker
summary_lit : (o : Offset) (lost : ℕ) (line : List ℕ) (s : Status) → s ≡ status_at o lost → s ≢ NoMarker
    → line ≡ summary_at o line
summary_lit Short lost line s is lit = refl
summary_lit Dark lost line s is lit = absurd (lit is)
summary_lit (At offset best) lost line s is lit = refl

summary_dark : (o : Offset) (lost : ℕ) (line : List ℕ) → NoMarker ≡ status_at o lost → [] ≡ summary_at o line
summary_dark Short lost line is = absurd (marked (lost == 0) is)
summary_dark Dark lost line is = refl
summary_dark (At offset best) lost line is = absurd (marked (lost == 0) is)

simulated_lit : (p : Parameters) (limit : ℕ) (task : Task) (o t : Change) (s : Status) → s ≢ NoMarker
    → Simulates p limit task t s → o.new ≡ append_known o.old (summary p task)
    → HasOutcome (simulate_outcome p task) o t s
simulated_lit p limit task o t s lit all line = record {
  ends = all.settled;
  written = line ∙ ap (append_known o.old)
      (summary_lit (offset_of p (counts_of p (sim_counts p task))) (tally_of p (sim_counts p task)).lost
      (summary p task) s all.settled lit);
  told = all.told;
}

simulated_dark : (p : Parameters) (limit : ℕ) (task : Task) (o t : Change) → Simulates p limit task t NoMarker
    → o.new ≡ o.old → HasOutcome (simulate_outcome p task) o t NoMarker
simulated_dark p limit task o t all same = record {
  ends = all.settled;
  written = same ∙ sym (append_nothing o.old) ∙ ap (append_known o.old)
      (summary_dark (offset_of p (counts_of p (sim_counts p task))) (tally_of p (sim_counts p task)).lost
      (summary p task) all.settled);
  told = all.told;
}

simulate_comes : (p : Parameters) (limit : ℕ) (task : Task) (i o t : Change) (s : Status)
    → slots_for p task.frames ≤ limit → (Fails o → ⊥) → (Fails t → ⊥) → HasCause s i o t
    → SimulateRun p limit task o t s → HasOutcome (simulate_outcome p task) o t s
simulate_comes p limit task i o t Done few write tell cause run =
    simulated_lit p limit task o t Done (λ is. absurd cc) run.0 run.1
simulate_comes p limit task i o t WordsLost few write tell cause run =
    simulated_lit p limit task o t WordsLost (λ is. absurd cc) run.0 run.1
simulate_comes p limit task i o t NoMarker few write tell cause run = simulated_dark p limit task o t run.0 run.1
simulate_comes p limit task i o t TooLong few write tell cause run = absurd (omega (arith, few, run.0))
simulate_comes p limit task i o t WriteFault few write tell cause run = absurd (write cause.output)
simulate_comes p limit task i o t ReportFault few write tell cause run = absurd (tell cause.report)
simulate_comes p limit task i o t s few write tell cause run = absurd run

-- ---- every action

act_comes : (a : Action) (p : Parameters) (limit : ℕ) (task : Task) (i o t : Change) (s : Status) (octets : List ℕ)
    → IsWithin a p limit task i.old octets
    → (Fails i → ⊥) → (Fails o → ⊥) → (Fails t → ⊥) → HasCause s i o t
    → ActRun a p limit task i o t s → HasOutcome (outcome a p task octets) o t s
act_comes Encode p limit task i o t s octets within read write tell cause run =
    encode_comes p limit i o t s octets within.0 within.1 read write tell cause run
act_comes Decode p limit task i o t s octets within read write tell cause run =
    decode_comes p limit i o t s octets within.0 within.1 read write tell cause run
act_comes Geometry p limit task i o t s octets within read write tell cause run =
    geometry_comes p i o t s write cause run.1
act_comes Simulate p limit task i o t s octets within read write tell cause run =
    simulate_comes p limit task i o t s within write tell cause run.1

-- ---- the run

same_request : (asked : Option Request) (done r : Request) → asked ≡ Some done → asked ≡ Some r → done ≡ r
same_request asked done r is other = cc

-- the profile that is settled is the one that was chosen
same_profile : (settled : Option (Result Parameters Ending)) (p q : Parameters) → settled ≡ Some (Ok p)
    → IfSome settled (λ x. x ≡ Ok q) → q ≡ p
same_profile None p q is chosen = absurd cc
same_profile (Some x) p q is chosen = cc

-- an action followed
pub followed : (asked : Option Request) (texts : Option (List Named)) (before now : ℕ) (i o t : Change) (s : Status)
    → Acts asked texts i o t s → HasCause s i o t → (r : Request) (p : Parameters) (octets : List ℕ)
    → IsFeasible asked texts i.old r p octets → MeetsNoFault before now i o t s
    → HasOutcome (outcome r.action p r.task octets) o t s
followed asked texts before now i o t s done cause r p octets can sound =
    let all = subst (λ (x : Request). IsChosen texts x.profile done.2 × ActRun x.action done.2 x.limit x.task i o t s)
    (same_request asked done.0 r done.1 can.asks) (done.3, done.4) in
    act_comes r.action p r.limit r.task i o t s octets can.within
    sound.input_serves sound.output_serves sound.report_serves cause
    (subst (λ (q : Parameters). ActRun r.action q r.limit r.task i o t s)
    (same_profile (opened texts r.profile) p done.2 can.profile all.0) all.1)

-- nothing stopped the run before
unstopped : (e : Ending) → (e ≡ ending.ShelfFault → ⊥) → (e ≡ ending.NoMemory → ⊥)
    → Stops {X = Status} (Err e) → ⊥
unstopped e shelf memory (inl fault) = shelf cc
unstopped e shelf memory (inr none) = memory cc

stops_not : (settled : Option (Result Parameters Ending)) (p : Parameters) (e : Ending)
    → settled ≡ Some (Ok p) → (e ≡ ending.ShelfFault → ⊥) → (e ≡ ending.NoMemory → ⊥)
    → IfSome settled (λ x. Follows x (Err e)) → ⊥
stops_not None p e is shelf memory follows = absurd cc
stops_not (Some (Err x)) p e is shelf memory follows = absurd cc
stops_not (Some (Ok x)) p e is shelf memory (inl done) = absurd (search rules)
stops_not (Some (Ok x)) p e is shelf memory (inr stops) = unstopped e shelf memory stops

pub stopped : (asked : Option Request) (texts : Option (List Named)) (before now : ℕ) (i o t : Change) (e : Ending)
    (s : Status) → s ≡ status_of e → ShelfCause (status_of e) before now
    → ((r : Request) → asked ≡ Some r → IfSome (opened texts r.profile) (λ x. Follows x (Err e)))
    → (r : Request) (p : Parameters) (octets : List ℕ)
    → IsFeasible asked texts i.old r p octets → MeetsNoFault before now i o t s
    → HasOutcome (outcome r.action p r.task octets) o t s
stopped asked texts before now i o t e s is cause follows r p octets can sound =
    absurd (stops_not (opened texts r.profile) p e can.profile
    (λ fault. sound.shelf (subst (λ (x : Ending). ShelfCause (status_of x) before now) fault cause))
    (λ none. sound.memory (is ∙ ap status_of none))
    (follows r can.asks))
