-- What was simulated, as `simulate` ends.
use Rattle.std.proofs.Common.{◌≡◌, ◌↔◌, ◌∙◌, ◌≤◌, ◌<◌, ◌==◌, ℕ, Bool, true, false, if◌then◌else◌, List, take, Option, Result, Ok, Err, refl, sym, ap, subst, arith, inl, inr}
use Rattle.std.proofs.lemmas.Bool.{cases_lt}
use Rattle.std.specs.Io.KnownBytes.{append_known}
use Rattle.std.specs.Prelude.{⊤, IfOk, IsErrOf}
use Rattle.hpe_base.specs.Decoded.{report_of}
use Rattle.hpe_base.specs.Parameters.{Parameters}
use Rattle.hpe_io.specs.Devices.{GrowsByFront}
use Rattle.hpe_recv.specs.declared.receiver.Tally.{Tally}
use Rattle.hpe_sim.specs.Outcome.{HasAnswer, HasReportCause, HasReported, HasSummed}
use Rattle.hpe_sim.specs.Simulated.{sim_counts, slots_for, summary}
use Rattle.hpe_sim.specs.declared.simulation.SimFault.{SimFault}
use Rattle.hpe_sim.specs.declared.simulation.SimFault.TheVariants as fault
use Rattle.hpe_sim.specs.declared.task.Task.{Task}
use Rattle.hpe_cmd.specs.declared.ending.Ending.{Ending}
use Rattle.hpe_cmd.specs.declared.ending.Ending.TheVariants as ending
use Rattle.hpe_cmd.specs.declared.ending.Status.{Status}
use Rattle.hpe_cmd.specs.declared.ending.Status.TheVariants.{Done, WordsLost}
use Rattle.hpe_cmd.specs.Changes.{change}
use Rattle.hpe_cmd.specs.DecodeRun.{decode_status}
use Rattle.hpe_cmd.specs.FaultLines.{IsPut, fault_line}
use Rattle.hpe_cmd.specs.SimulateRun.{SimulateRun, simulated}
use Rattle.hpe_cmd.specs.Statuses.{status_of}
use Rattle.hpe_cmd.proofs.DecodeStatus.{status_after, status_dark}
use Rattle.hpe_cmd.proofs.Moved.{put_nothing}

-- ---- what the simulation tells

-- it is too long exactly where its slots pass the limit
abbrev IsLong : Parameters → ℕ → Task → Result Tally SimFault → Type 0
IsLong p limit task a = IsErrOf a fault.TooLong ↔ (limit < slots_for p task.frames)

-- an answer that is another
abbrev IsOther : Result Tally SimFault → Type 0
IsOther (Err fault.TooLong) = ⊥
IsOther _ = ⊤

-- has them within it
is_within : (p : Parameters) (limit : ℕ) (task : Task) (a : Result Tally SimFault) → IsLong p limit task a
    → IsOther a → slots_for p task.frames ≤ limit
is_within p limit task a long other = elim (cases_lt limit (slots_for p task.frames)) [
  | inl past ↦ absurd (subst IsOther (long.1 past) other)
  | inr few ↦ omega (arith, few)
]

-- ---- the run

-- where some words may be lost
tally_cases : {O R : Type 0} (wo : O → Option (List ℕ)) (fo : O → ℕ) (wr : R → Option (List ℕ)) (fr : R → ℕ)
    (o o' : O) (r m r' : R) (p : Parameters) (limit : ℕ) (task : Task) (b : Bool) → slots_for p task.frames ≤ limit
    → (if b then Done else WordsLost) ≡ decode_status p (sim_counts p task)
    → wr m ≡ append_known (wr r) (report_of p (sim_counts p task))
    → wo o' ≡ append_known (wo o) (summary p task)
    → IfOk {E = Ending} (if b then Ok ending.Done else Ok ending.WordsLost) (λ e.
    IsPut (fr m) (fr r') (wr m) (wr r') (fault_line e)
    → SimulateRun p limit task (change wo fo o o') (change wr fr r r') (status_of e))
tally_cases wo fo wr fr o o' r m r' p limit task true within is told summed = λ put.
    (record { within = within; told = put_nothing _ _ _ _ put ∙ told; settled = is }, summed)
tally_cases wo fo wr fr o o' r m r' p limit task false within is told summed = λ put.
    (record { within = within; told = put_nothing _ _ _ _ put ∙ told; settled = is }, summed)

-- what was done by each answer, where the fault line of its ending follows
simulated_cases : {O R : Type 0} (wo : O → Option (List ℕ)) (fo : O → ℕ) (wr : R → Option (List ℕ)) (fr : R → ℕ)
    (o o' : O) (r m r' : R) (p : Parameters) (limit : ℕ) (task : Task) (a : Result Tally SimFault)
    → HasAnswer p (sim_counts p task) a → IsLong p limit task a
    → HasReported wr r m p (sim_counts p task) a → HasSummed wo o o' (summary p task) a
    → HasReportCause (fr r) (fr m) a
    → IfOk (simulated limit a) (λ e. IsPut (fr m) (fr r') (wr m) (wr r') (fault_line e)
    → SimulateRun p limit task (change wo fo o o') (change wr fr r r') (status_of e))
simulated_cases wo fo wr fr o o' r m r' p limit task (Ok tally) answer long told summed cause =
    tally_cases wo fo wr fr o o' r m r' p limit task (tally.lost == 0)
    (is_within p limit task (Ok tally) long tt)
    (status_after p (sim_counts p task) tally answer.0 answer.1) told summed
simulated_cases wo fo wr fr o o' r m r' p limit task (Err fault.Write) answer long told summed cause = λ put. record {
  within = is_within p limit task (Err fault.Write) long tt;
  lit = answer;
  front = summed;
  told = subst (λ (x : Option (List ℕ)). IsPut (fr r) (fr r') x (wr r') (fault_line ending.WriteFault)) told
      (subst (λ (n : ℕ). IsPut n (fr r') (wr m) (wr r') (fault_line ending.WriteFault)) cause put);
}
simulated_cases wo fo wr fr o o' r m r' p limit task (Err fault.Report) answer long told summed cause = λ put. record {
  within = is_within p limit task (Err fault.Report) long tt;
  unwritten = ap wo summed;
  octets = told.0;
  front = subst (λ (x : Option (List ℕ)). GrowsByFront (wr r) x (report_of p (take told.0 (sim_counts p task))))
      (sym (put_nothing _ _ _ _ put)) told.1;
}
simulated_cases {R = R} wo fo wr fr o o' r m r' p limit task (Err fault.TooLong) answer long told summed cause =
    λ put. (
      long.0 refl,
      ap wo summed,
      subst (λ (x : R). IsPut (fr x) (fr r') (wr x) (wr r') (fault_line (ending.TooLong limit))) told put,
    )
simulated_cases wo fo wr fr o o' r m r' p limit task (Err (fault.NoMarker counts)) answer long told summed cause =
    λ put. (
      record {
        within = is_within p limit task (Err (fault.NoMarker counts)) long tt;
        told = put_nothing _ _ _ _ put ∙ told;
        settled = status_dark p (sim_counts p task) answer.1;
      },
      ap wo summed,
    )
simulated_cases wo fo wr fr o o' r m r' p limit task (Err fault.NoMemory) answer long told summed cause = tt

pub simulated_run : {O R : Type 0} (wo : O → Option (List ℕ)) (fo : O → ℕ) (wr : R → Option (List ℕ)) (fr : R → ℕ)
    (o o' : O) (r m r' : R) (p : Parameters) (limit : ℕ) (task : Task) (a : Result Tally SimFault)
    (x : Result Ending Ending) (e : Ending) (s : Status) → x ≡ Ok e → x ≡ simulated limit a → s ≡ status_of e
    → HasAnswer p (sim_counts p task) a → IsLong p limit task a
    → HasReported wr r m p (sim_counts p task) a → HasSummed wo o o' (summary p task) a
    → HasReportCause (fr r) (fr m) a
    → IsPut (fr m) (fr r') (wr m) (wr r') (fault_line e)
    → SimulateRun p limit task (change wo fo o o') (change wr fr r r') s
simulated_run wo fo wr fr o o' r m r' p limit task a x e s was is status answer long told summed cause put =
    subst (SimulateRun p limit task (change wo fo o o') (change wr fr r r')) (sym status)
    (subst (λ (y : Result Ending Ending). IfOk y (λ e. IsPut (fr m) (fr r') (wr m) (wr r') (fault_line e)
    → SimulateRun p limit task (change wo fo o o') (change wr fr r r') (status_of e))) (sym is ∙ was)
    (simulated_cases wo fo wr fr o o' r m r' p limit task a answer long told summed cause) put)
