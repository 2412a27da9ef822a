-- What every action takes and writes.
use Rattle.std.proofs.Common.{◌≡◌, ◌≤◌, ◌+◌, ◌^◌, ℕ, List, Result, Ok, Err, Option, Some, subst, arith}
use Rattle.std.specs.Prelude.{IfErr, IfOk}
use Rattle.hpe_base.specs.Parameters.{Parameters}
use Rattle.hpe_io.specs.Devices.{Grows, TakesAtMost}
use Rattle.hpe_io.specs.Shelves.{Named}
use Rattle.hpe_sim.specs.declared.task.Task.{Task}
use Rattle.hpe_cmd.specs.declared.ending.Ending.{Ending}
use Rattle.hpe_cmd.specs.declared.ending.Status.{Status}
use Rattle.hpe_cmd.specs.declared.ending.Status.TheVariants.{Done, ReadFault, WriteFault, ReportFault, TooLong, Ragged, WordsLost, NoMarker}
use Rattle.hpe_cmd.specs.declared.words.Action.{Action}
use Rattle.hpe_cmd.specs.declared.words.Action.TheVariants.{Encode, Decode, Geometry, Simulate}
use Rattle.hpe_cmd.specs.Changes.{Change}
use Rattle.hpe_cmd.specs.DecodeRun.{CutsDecoding, DecodeRun, Decoded}
use Rattle.hpe_cmd.specs.EncodeRun.{CutsOff, EncodeRun, Encodes}
use Rattle.hpe_cmd.specs.GeometryRun.{GeometryRun}
use Rattle.hpe_cmd.specs.Runs.{ActRun, IsChosen}
use Rattle.hpe_cmd.specs.SimulateRun.{SimulateRun}
use Rattle.hpe_cmd.specs.Words.{Request}
use Rattle.hpe_cmd.proofs.Moved.{grows_nothing, takes_nothing}

-- ---- what is taken

-- at most one octet more than the most that can be asked
abbrev TakesFew : Change → Type 0
TakesFew i = TakesAtMost i.old i.new (2 ^ 40 + 1)

encodes_takes : (p : Parameters) (limit : ℕ) (i o : Change) (octets : List ℕ) → limit ≤ 2 ^ 40
    → Encodes p limit i o octets → TakesFew i
encodes_takes p limit i o octets few e =
    record { octets = octets; count = omega (arith, few, e.within); lost = e.reads.lost }

cuts_takes : (p : Parameters) (limit : ℕ) (i o : Change) → limit ≤ 2 ^ 40 → CutsOff p limit i o → TakesFew i
cuts_takes p limit i o few c = record { octets = c.octets; count = omega (arith, few, c.most); lost = c.lost }

encoding_takes : (p : Parameters) (limit : ℕ) (i o t : Change) (s : Status) → limit ≤ 2 ^ 40
    → EncodeRun p limit i o t s → TakesFew i
encoding_takes p limit i o t Done few run = encodes_takes p limit i o run.0 few run.1
encoding_takes p limit i o t ReportFault few run = encodes_takes p limit i o run.0 few run.1
encoding_takes p limit i o t Ragged few run = encodes_takes p limit i o run.0 few run.1
encoding_takes p limit i o t TooLong few run = cuts_takes p limit i o few run.1
encoding_takes p limit i o t ReadFault few run = cuts_takes p limit i o few run.0
encoding_takes p limit i o t WriteFault few run = cuts_takes p limit i o few run.0
encoding_takes p limit i o t s few run = absurd run

decoded_takes : (p : Parameters) (limit : ℕ) (i o t : Change) (s : Status) → limit ≤ 2 ^ 40
    → Decoded p limit i o t s → TakesFew i
decoded_takes p limit i o t s few d =
    let all = d.decoded in
    record { octets = all.0; count = omega (arith, few, all.1.within); lost = all.1.reads.lost }

part_takes : (p : Parameters) (limit : ℕ) (i o t : Change) (line : List ℕ) → limit ≤ 2 ^ 40
    → CutsDecoding p limit i o t line → TakesFew i
part_takes p limit i o t line few c =
    record { octets = c.part.octets; count = omega (arith, few, c.part.most); lost = c.part.lost }

decoding_takes : (p : Parameters) (limit : ℕ) (i o t : Change) (s : Status) → limit ≤ 2 ^ 40
    → DecodeRun p limit i o t s → TakesFew i
decoding_takes p limit i o t Done few run = decoded_takes p limit i o t Done few run
decoding_takes p limit i o t WordsLost few run = decoded_takes p limit i o t WordsLost few run
decoding_takes p limit i o t NoMarker few run = decoded_takes p limit i o t NoMarker few run
decoding_takes p limit i o t TooLong few run = part_takes p limit i o t _ few run.1
decoding_takes p limit i o t ReadFault few run = part_takes p limit i o t _ few run
decoding_takes p limit i o t WriteFault few run = part_takes p limit i o t _ few run
decoding_takes p limit i o t ReportFault few run =
    record { octets = run.octets; count = omega (arith, few, run.most); lost = run.lost }
decoding_takes p limit i o t s few run = absurd run

act_takes : (a : Action) (p : Parameters) (limit : ℕ) (task : Task) (i o t : Change) (s : Status) → limit ≤ 2 ^ 40
    → ActRun a p limit task i o t s → TakesFew i
act_takes Encode p limit task i o t s few run = encoding_takes p limit i o t s few run
act_takes Decode p limit task i o t s few run = decoding_takes p limit i o t s few run
act_takes Geometry p limit task i o t s few run = takes_nothing i.old i.new (2 ^ 40 + 1) run.0
act_takes Simulate p limit task i o t s few run = takes_nothing i.old i.new (2 ^ 40 + 1) run.0

-- ---- what is written

encoding_grows : (p : Parameters) (limit : ℕ) (i o t : Change) (s : Status) → EncodeRun p limit i o t s
    → Grows o.old o.new
encoding_grows p limit i o t Done run = record { octets = _; grown = run.1.slots }
encoding_grows p limit i o t ReportFault run = record { octets = _; grown = run.1.slots }
encoding_grows p limit i o t Ragged run = record { octets = _; grown = run.1.slots }
encoding_grows p limit i o t TooLong run = record { octets = _; grown = run.1.slots.2 }
encoding_grows p limit i o t ReadFault run = record { octets = _; grown = run.0.slots.2 }
encoding_grows p limit i o t WriteFault run = record { octets = _; grown = run.0.slots.2 }
encoding_grows p limit i o t s run = absurd run

decoding_grows : (p : Parameters) (limit : ℕ) (i o t : Change) (s : Status) → DecodeRun p limit i o t s
    → Grows o.old o.new
decoding_grows p limit i o t Done run = let all = run.decoded in record { octets = _; grown = all.1.decodes }
decoding_grows p limit i o t WordsLost run = let all = run.decoded in record { octets = _; grown = all.1.decodes }
decoding_grows p limit i o t NoMarker run = let all = run.decoded in record { octets = _; grown = all.1.decodes }
decoding_grows p limit i o t TooLong run = record { octets = _; grown = run.1.part.decodes.2 }
decoding_grows p limit i o t ReadFault run = record { octets = _; grown = run.part.decodes.2 }
decoding_grows p limit i o t WriteFault run = record { octets = _; grown = run.part.decodes.2 }
decoding_grows p limit i o t ReportFault run = record { octets = _; grown = run.decodes.2 }
decoding_grows p limit i o t s run = absurd run

geometry_grows : (p : Parameters) (o t : Change) (s : Status) → GeometryRun p o t s → Grows o.old o.new
geometry_grows p o t Done run = record { octets = _; grown = run.0 }
geometry_grows p o t WriteFault run = record { octets = _; grown = run.0.2 }
geometry_grows p o t s run = absurd run

simulation_grows : (p : Parameters) (limit : ℕ) (task : Task) (o t : Change) (s : Status)
    → SimulateRun p limit task o t s → Grows o.old o.new
simulation_grows p limit task o t Done run = record { octets = _; grown = run.1 }
simulation_grows p limit task o t WordsLost run = record { octets = _; grown = run.1 }
simulation_grows p limit task o t NoMarker run = grows_nothing o.old o.new run.1
simulation_grows p limit task o t TooLong run = grows_nothing o.old o.new run.1
simulation_grows p limit task o t WriteFault run = record { octets = _; grown = run.front.2 }
simulation_grows p limit task o t ReportFault run = grows_nothing o.old o.new run.unwritten
simulation_grows p limit task o t s run = absurd run

act_grows : (a : Action) (p : Parameters) (limit : ℕ) (task : Task) (i o t : Change) (s : Status)
    → ActRun a p limit task i o t s → Grows o.old o.new
act_grows Encode p limit task i o t s run = encoding_grows p limit i o t s run
act_grows Decode p limit task i o t s run = decoding_grows p limit i o t s run
act_grows Geometry p limit task i o t s run = geometry_grows p o t s run.1
act_grows Simulate p limit task i o t s run = simulation_grows p limit task o t s run.1

-- ---- where nothing was touched or the action was done

pub acts_take : (act : Action) (p : Parameters) (limit : ℕ) (task : Task) (i o t : Change)
    (result : Result Status Ending) (Same : Ending → Type 0) → limit ≤ 2 ^ 40
    → IfOk result (λ s. ActRun act p limit task i o t s)
    → IfErr result Same → ((e : Ending) → Same e → i.new ≡ i.old) → TakesFew i
acts_take act p limit task i o t (Ok s) Same few run same is = act_takes act p limit task i o t s few run
acts_take act p limit task i o t (Err e) Same few run same is = takes_nothing i.old i.new (2 ^ 40 + 1) (is e same)

pub acts_grow : (act : Action) (p : Parameters) (limit : ℕ) (task : Task) (i o t : Change)
    (result : Result Status Ending) (Same : Ending → Type 0) → IfOk result (λ s. ActRun act p limit task i o t s)
    → IfErr result Same → ((e : Ending) → Same e → o.new ≡ o.old) → Grows o.old o.new
acts_grow act p limit task i o t (Ok s) Same run same is = act_grows act p limit task i o t s run
acts_grow act p limit task i o t (Err e) Same run same is = grows_nothing o.old o.new (is e same)

-- ---- what was simulated is what was asked

same_request : (asked : Option Request) (done r : Request) → asked ≡ Some done → asked ≡ Some r → done ≡ r
same_request asked done r is other = cc

pub simulation_asked : (asked : Option Request) (texts : Option (List Named)) (i o t : Change) (s : Status)
    (done r : Request) (p : Parameters) → asked ≡ Some done → asked ≡ Some r → r.action ≡ Simulate
    → IsChosen texts done.profile p → ActRun done.action p done.limit done.task i o t s
    → IsChosen texts r.profile p × SimulateRun p r.limit r.task o t s
simulation_asked asked texts i o t s done r p is other act chosen run =
    let all = subst (λ (x : Request). IsChosen texts x.profile p × ActRun x.action p x.limit x.task i o t s)
    (same_request asked done r is other) (chosen, run) in
    (all.0, (subst (λ (a : Action). ActRun a p r.limit r.task i o t s) act all.1).1)
