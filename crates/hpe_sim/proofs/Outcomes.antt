-- The outcome of a simulation.
use Rattle.std.proofs.Common.{◌≡◌, ◌<◌, ◌+◌, ◌*◌, ◌/◌, ◌∙◌, ℕ, List, length, take, sum, refl, arith, ap₂, sym, subst, Bool, Result, Err, IsErrOf}
use Rattle.std.specs.declared.option.Option.{Option}
use Rattle.std.specs.Str.{bytes_eq}
use Rattle.hpe_base.specs.Counts.{counts_of}
use Rattle.hpe_base.specs.Decoded.{Tally, decoded, tally_of}
use Rattle.hpe_base.specs.Parameters.{Parameters, IsValid, period_slots, block_bits}
use Rattle.hpe_recv.specs.declared.receiver.Tally as counter
use Rattle.hpe_sim.specs.declared.task.Task.{Task}
use Rattle.hpe_sim.specs.declared.simulation.SimFault.{SimFault}
use Rattle.hpe_sim.specs.declared.simulation.SimFault.TheVariants.{Write, Report, TooLong, NoMarker, NoMemory}
use Rattle.hpe_sim.specs.Outcome.{HasAnswer, HasReported, HasSummed, HasWriteCause}
use Rattle.hpe_sim.specs.Simulated.{sim_octets, sim_counts, slots_for, summary_line, summary}
use Rattle.hpe_sim.proofs.Made.{length-counts_of-sim_counts, room_for}

-- ---- which fault is which
-- a fault that is none of the output leaves it
pub unsummed : {O : Type 0} (written : O → Option (List ℕ)) (o : O) (line : List ℕ) (fault : SimFault) → (IsErrOf {T = counter.Tally} {E = SimFault} (Err fault) Write → ⊥)
    → HasSummed written o o line (Err fault)
unsummed written o line Write h = absurd (h refl)
unsummed written o line Report h = refl
unsummed written o line TooLong h = refl
unsummed written o line (NoMarker counts) h = refl
unsummed written o line NoMemory h = refl

-- and its count of faults
pub unrisen : (faults : ℕ) (fault : SimFault) → (IsErrOf {T = counter.Tally} {E = SimFault} (Err fault) Write → ⊥) → HasWriteCause faults faults (Err fault)
unrisen faults Write h = absurd (h refl)
unrisen faults Report h = refl
unrisen faults TooLong h = refl
unrisen faults (NoMarker counts) h = refl
unrisen faults NoMemory h = refl

-- ---- what was received
-- the answer by what was made
pub answer_is : (p q : Parameters) (octets left : List ℕ) (r : Result counter.Tally SimFault) → q ≡ p → left ≡ octets → HasAnswer q left r → HasAnswer p octets r
answer_is p q octets left r qe le h = subst (λ (l : List ℕ). HasAnswer p l r) le (subst (λ (x : Parameters). HasAnswer x left r) qe h)

-- and the report
pub report_is : {R : Type 0} (written : R → Option (List ℕ)) (old new : R) (p q : Parameters) (octets left : List ℕ) (r : Result counter.Tally SimFault) → q ≡ p → left ≡ octets
    → HasReported written old new q left r → HasReported written old new p octets r
report_is written old new p q octets left r qe le h =
    subst (λ (l : List ℕ). HasReported written old new p l r) le (subst (λ (x : Parameters). HasReported written old new x left r) qe h)

-- there is room for the frames
pub room_is : (p q : Parameters) (octets left : List ℕ) (slots room : ℕ) → IsValid p → length (counts_of p octets) ≡ slots → q ≡ p → left ≡ octets
    → room ≡ slots / period_slots p * block_bits p.rate / 8 + 1 → (n : ℕ) → length (decoded q (take n left)) < room
room_is p q octets left slots room v e qe le re n =
    let same : length (decoded q (take n left)) ≡ length (decoded p (take n octets)) = ap₂ (λ (x : Parameters) (l : List ℕ). length (decoded x (take n l))) qe le in
    omega (arith, room_for p octets slots n v e)

-- ---- the line
-- the line that is put is the summary
pub summed : (p q : Parameters) (task : Task) (tally : Tally) (same : Bool) (left bytes octets line : List ℕ) (slots total : ℕ) → IsValid p → q ≡ p → left ≡ sim_counts p task
    → tally ≡ tally_of q left → bytes ≡ decoded q left → octets ≡ sim_octets p task → same ≡ bytes_eq bytes octets → slots ≡ slots_for p task.frames
    → total ≡ sum (counts_of p (sim_counts p task))
    → ((counts : List ℕ) → length counts ≡ slots → sum counts ≡ total → line ≡ summary_line task tally same counts) → line ≡ summary p task
unfolding summary
summed p q task tally same left bytes octets line slots total v qe le te be oe se n t h =
    let text = h (counts_of p (sim_counts p task)) (length-counts_of-sim_counts p task v ∙ sym n) (sym t) in
    let tally_is : tally ≡ tally_of p (sim_counts p task) = te ∙ ap₂ tally_of qe le in
    let bytes_are : bytes ≡ decoded p (sim_counts p task) = be ∙ ap₂ decoded qe le in
    let same_is : same ≡ bytes_eq (decoded p (sim_counts p task)) (sim_octets p task) = se ∙ ap₂ bytes_eq bytes_are oe in
    text ∙ ap₂ (λ (x : Tally) (b : Bool). summary_line task x b (counts_of p (sim_counts p task))) tally_is same_is
