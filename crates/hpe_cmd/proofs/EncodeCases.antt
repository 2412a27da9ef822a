-- What was sent, as `encode` ends.
use Rattle.std.proofs.Common.{◌≡◌, ◌∙◌, ◌≤◌, ◌<◌, ◌+◌, ◌%◌, ℕ, List, length, take, Err, refl, sym, ap, subst}
use Rattle.std.specs.Io.KnownBytes.{append_known, prepend_known}
use Rattle.std.specs.Prelude.{IsErrOf}
use Rattle.hpe_base.specs.Parameters.{Parameters}
use Rattle.hpe_base.specs.Slots.{slots_of}
use Rattle.hpe_io.specs.Devices.{GrowsByFront, TakesCount}
use Rattle.hpe_send.specs.Sending.{HasReadCause, HasWriteCause, IfCutOff, IfRagged, Sends}
use Rattle.hpe_send.specs.declared.sender.Sent.{Sent}
use Rattle.hpe_send.specs.declared.sender.SendFault.{SendFault}
use Rattle.hpe_send.specs.declared.sender.SendFault.TheVariants as fault
use Rattle.hpe_cmd.specs.declared.ending.Ending.{Ending}
use Rattle.hpe_cmd.specs.declared.ending.Status.{Status}
use Rattle.hpe_cmd.specs.declared.ending.Status.TheVariants.{Done, ReportFault}
use Rattle.hpe_cmd.specs.Causes.{HasCause}
use Rattle.hpe_cmd.specs.Changes.{Change, IsTold, Serves}
use Rattle.hpe_cmd.specs.EncodeRun.{EncodeRun, Reports, sent_line, sent_slots, unsent}
use Rattle.hpe_cmd.specs.FaultLines.{fault_line, ragged_line}
use Rattle.hpe_cmd.specs.Statuses.{status_of}
use Rattle.hpe_cmd.proofs.SentLine.{line_is}

-- ---- all was sent

-- the slots of whole frames that end the input
abbrev AllSent : Parameters → ℕ → Change → Change → Sent → Type 0
AllSent p limit i o sent =
    (octets : List ℕ) × Sends p limit i.old i.new o.old o.new octets sent × (length octets % p.frame_octets ≡ 0)

-- the line on them was put or failed
sent_cases : (p : Parameters) (limit : ℕ) (i o t : Change) (sent : Sent) (s : Status) → AllSent p limit i o sent
    → Reports t (sent_line sent.frames sent.words (sent_slots p sent.words)) s → EncodeRun p limit i o t s
sent_cases p limit i o t sent Done all put = (
  all.0,
  record { reads = all.1.reads; within = all.1.within; slots = all.1.slots },
  all.2,
  put.0 ∙ ap (append_known t.old) (line_is p all.0 sent.frames sent.words all.1.frames all.1.words),
)
sent_cases p limit i o t sent ReportFault all put = (
  all.0,
  record { reads = all.1.reads; within = all.1.within; slots = all.1.slots },
  all.2,
  subst (GrowsByFront t.old t.new) (line_is p all.0 sent.frames sent.words all.1.frames all.1.words) put.1,
)
sent_cases p limit i o t sent s all put = absurd put

pub sent_run : (q p : Parameters) (limit : ℕ) (i o t : Change) (sent : Sent) (s : Status) → q ≡ p
    → AllSent q limit i o sent
    → Reports t (sent_line sent.frames sent.words (sent_slots p sent.words)) s → EncodeRun p limit i o t s
sent_run q p limit i o t sent s same all put =
    sent_cases p limit i o t sent s (subst (λ x. AllSent x limit i o sent) same all) put

-- whose count rose
pub sent_cause : (i o t : Change) (line : List ℕ) (s : Status) → Serves i → Serves o → Reports t line s
    → HasCause s i o t
sent_cause i o t line Done read wrote put = record { input = read; output = wrote; report = put.1 }
sent_cause i o t line ReportFault read wrote put = record { input = read; output = wrote; report = put.0 }
sent_cause i o t line s read wrote put = absurd put

-- ---- not all was sent

-- what the sender tells of its fault
abbrev RaggedEnd : Parameters → ℕ → Change → Change → SendFault → Type 0
RaggedEnd p limit i o f =
    IfRagged (Err f) (λ rest sent. (octets : List ℕ) × Sends p limit i.old i.new o.old o.new octets sent
    × (rest ≡ length octets % p.frame_octets) × (0 < rest))

abbrev CutShort : Parameters → ℕ → Change → Change → SendFault → Type 0
CutShort p limit i o f =
    IfCutOff (Err f) ((octets : List ℕ) × (i.old ≡ prepend_known octets i.new) × (length octets ≤ limit + 1)
    × GrowsByFront o.old o.new (slots_of p (take limit octets)))

unsent_cases : (p : Parameters) (limit : ℕ) (i o t : Change) (f : SendFault)
    → RaggedEnd p limit i o f → CutShort p limit i o f
    → (IsErrOf {T = Sent} (Err f) fault.TooLong → TakesCount i.old i.new (limit + 1))
    → IsTold t (fault_line (unsent limit f)) → EncodeRun p limit i o t (status_of (unsent limit f))
unsent_cases p limit i o t fault.Read ragged cut long put =
    (record { octets = cut.0; lost = cut.1; most = cut.2; slots = cut.3 }, put)
unsent_cases p limit i o t fault.Write ragged cut long put =
    (record { octets = cut.0; lost = cut.1; most = cut.2; slots = cut.3 }, put)
unsent_cases p limit i o t fault.TooLong ragged cut long put =
    (long refl, record { octets = cut.0; lost = cut.1; most = cut.2; slots = cut.3 }, put)
unsent_cases p limit i o t (fault.Ragged rest sent) ragged cut long put = (
  ragged.0,
  record { reads = ragged.1.reads; within = ragged.1.within; slots = ragged.1.slots },
  subst (λ (n : ℕ). 0 < n) ragged.2 ragged.3,
  subst (λ (n : ℕ). IsTold t (ragged_line n)) ragged.2 put,
)

pub unsent_run : (q p : Parameters) (limit : ℕ) (i o t : Change) (f : SendFault) (e : Ending) (s : Status)
    → q ≡ p → e ≡ unsent limit f → s ≡ status_of e → RaggedEnd q limit i o f → CutShort q limit i o f
    → (IsErrOf {T = Sent} (Err f) fault.TooLong → TakesCount i.old i.new (limit + 1))
    → IsTold t (fault_line e) → EncodeRun p limit i o t s
unsent_run q p limit i o t f e s same is status ragged cut long put =
    subst (EncodeRun p limit i o t) (sym (status ∙ ap status_of is))
    (subst (λ (x : Parameters). EncodeRun x limit i o t (status_of (unsent limit f))) same
    (unsent_cases q limit i o t f ragged cut long (subst (λ (x : Ending). IsTold t (fault_line x)) is put)))

unsent_causes : (limit : ℕ) (i o t : Change) (f : SendFault)
    → HasReadCause i.faults_old i.faults_new (Err f) → HasWriteCause o.faults_old o.faults_new (Err f)
    → HasCause (status_of (unsent limit f)) i o t
unsent_causes limit i o t fault.Read read wrote = record { input = read; output = wrote; report = tt }
unsent_causes limit i o t fault.Write read wrote = record { input = read; output = wrote; report = tt }
unsent_causes limit i o t fault.TooLong read wrote = record { input = read; output = wrote; report = tt }
unsent_causes limit i o t (fault.Ragged rest sent) read wrote = record { input = read; output = wrote; report = tt }

-- whose count rose
pub unsent_cause : (limit : ℕ) (i o t : Change) (f : SendFault) (e : Ending) (s : Status)
    → e ≡ unsent limit f → s ≡ status_of e
    → HasReadCause i.faults_old i.faults_new (Err f) → HasWriteCause o.faults_old o.faults_new (Err f)
    → HasCause s i o t
unsent_cause limit i o t f e s is status read wrote =
    subst (λ (x : Status). HasCause x i o t) (sym (status ∙ ap status_of is)) (unsent_causes limit i o t f read wrote)
