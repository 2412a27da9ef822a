-- What was received, as `decode` ends.
use Rattle.std.proofs.Common.{◌≡◌, ◌≢◌, ◌∙◌, ◌+◌, ◌==◌, ℕ, Bool, true, false, if◌then◌else◌, List, [], length, Option, Result, Ok, Err, refl, sym, ap, subst}
use Rattle.std.specs.Prelude.{IfOk, IsErrOf}
use Rattle.hpe_base.specs.Parameters.{Parameters, IsValid}
use Rattle.hpe_base.specs.Counts.{counts_of}
use Rattle.hpe_base.specs.Decoded.{tally_of}
use Rattle.hpe_base.specs.MarkerSearch.{Dark, offset_of}
use Rattle.hpe_io.specs.Devices.{Rose, TakesCount}
use Rattle.hpe_recv.specs.Causes.{HasFaultCause}
use Rattle.hpe_recv.specs.Receiving.{IfCutOff, IfNoMarker, IfReportStands, Receives, ReceivesPart, ReportsWords, tallied}
use Rattle.hpe_recv.specs.declared.receiver.Tally.{Tally}
use Rattle.hpe_recv.specs.declared.receiver.RecvFault.{RecvFault}
use Rattle.hpe_recv.specs.declared.receiver.RecvFault.TheVariants as fault
use Rattle.hpe_cmd.specs.declared.ending.Ending.{Ending}
use Rattle.hpe_cmd.specs.declared.ending.Ending.TheVariants as ending
use Rattle.hpe_cmd.specs.declared.ending.Status.{Status}
use Rattle.hpe_cmd.specs.declared.ending.Status.TheVariants.{Done, WordsLost, NoMarker}
use Rattle.hpe_cmd.specs.Causes.{HasCause}
use Rattle.hpe_cmd.specs.Changes.{Change}
use Rattle.hpe_cmd.specs.DecodeRun.{DecodeRun, Decoded, decode_status, received}
use Rattle.hpe_cmd.specs.FaultLines.{IsPut, fault_line}
use Rattle.hpe_cmd.specs.Statuses.{status_of}
use Rattle.hpe_cmd.proofs.ClearRun.{clear_run}
use Rattle.hpe_cmd.proofs.DecodeStatus.{status_after, status_dark}
use Rattle.hpe_cmd.proofs.Moved.{put_nothing}

-- ---- what the receiver tells, where it left the report at `mid`

abbrev Received : Parameters → ℕ → Change → Change → Option (List ℕ) → Option (List ℕ) → List ℕ → Type 0
Received p limit i o told mid octets = Receives p limit i.old i.new o.old o.new told mid octets

-- after a tally
abbrev Tallied : Parameters → ℕ → Change → Change → Change → Option (List ℕ) → Result Tally RecvFault → Type 0
Tallied p limit i o t mid a =
    IfOk a (λ tally. (octets : List ℕ) × Received p limit i o t.old mid octets
    × (tallied tally ≡ tally_of p octets) × (offset_of p (counts_of p octets) ≢ Dark))

-- where there is no marker
abbrev Unmarked : Parameters → ℕ → Change → Change → Change → Option (List ℕ) → Result Tally RecvFault → Type 0 → Type 0
Unmarked p limit i o t mid a Rest =
    IfNoMarker a (λ n. (octets : List ℕ) × Received p limit i o t.old mid octets
    × (n ≡ length (counts_of p octets)) × (offset_of p (counts_of p octets) ≡ Dark) × Rest)

-- where a device failed or the input is too long
abbrev CutShort : Parameters → ℕ → Change → Change → Change → Option (List ℕ) → Result Tally RecvFault → Type 0
CutShort p limit i o t mid a =
    IfCutOff a (ReceivesPart p limit i.old i.new o.old o.new t.old mid)
    × IfReportStands a (ReportsWords p limit i.old i.new t.old mid)
    × (IsErrOf a fault.TooLong → TakesCount i.old i.new (limit + 1))

-- whose count rose, where that of the report was then `rose`
abbrev CausedBy : Change → Change → Change → ℕ → Result Tally RecvFault → Type 0
CausedBy i o t rose a = HasFaultCause i.faults_old i.faults_new o.faults_old o.faults_new t.faults_old rose a

-- ---- the run

-- the whole input was received
decoded_run : (p : Parameters) (limit : ℕ) (i o t : Change) (mid : Option (List ℕ)) (octets : List ℕ) (s : Status)
    → IsValid p → Received p limit i o t.old mid octets → s ≡ decode_status p octets → t.new ≡ mid
    → Decoded p limit i o t s
decoded_run p limit i o t mid octets s v all is same = record {
  decoded = (octets, subst (λ (told : Option (List ℕ)). Received p limit i o t.old told octets) (sym same) all, is);
  clear = λ frames d small whole short known.
      clear_run p limit i.old i.new o.old o.new t.old mid octets frames d s v small whole short known all is;
}

-- and some of their words may be lost
lost_cases : (p : Parameters) (limit : ℕ) (i o t : Change) (mid : Option (List ℕ)) (rose : ℕ) (octets : List ℕ)
    (b : Bool) → IsValid p → Received p limit i o t.old mid octets
    → (if b then Done else WordsLost) ≡ decode_status p octets
    → IsPut rose t.faults_new mid t.new (fault_line (if b then ending.Done else ending.WordsLost))
    → DecodeRun p limit i o t (status_of (if b then ending.Done else ending.WordsLost))
lost_cases p limit i o t mid rose octets true v all is put =
    decoded_run p limit i o t mid octets Done v all is (put_nothing rose t.faults_new mid t.new put)
lost_cases p limit i o t mid rose octets false v all is put =
    decoded_run p limit i o t mid octets WordsLost v all is (put_nothing rose t.faults_new mid t.new put)

-- the report's count stood as at the start
put_since : (t : Change) (mid : Option (List ℕ)) (rose : ℕ) (line : List ℕ) → rose ≡ t.faults_old
    → IsPut rose t.faults_new mid t.new line → IsPut t.faults_old t.faults_new mid t.new line
put_since t mid rose line same put = subst (λ (n : ℕ). IsPut n t.faults_new mid t.new line) same put

received_cases : (p : Parameters) (limit : ℕ) (i o t : Change) (mid : Option (List ℕ)) (rose : ℕ)
    (a : Result Tally RecvFault) (Rest : Type 0) → IsValid p
    → Tallied p limit i o t mid a → Unmarked p limit i o t mid a Rest → CutShort p limit i o t mid a
    → CausedBy i o t rose a
    → IsPut rose t.faults_new mid t.new (fault_line (received limit a))
    → DecodeRun p limit i o t (status_of (received limit a))
received_cases p limit i o t mid rose (Ok tally) Rest v ok dark cut cause put =
    lost_cases p limit i o t mid rose ok.0 (tally.lost == 0) v ok.1 (status_after p ok.0 tally ok.2 ok.3) put
received_cases p limit i o t mid rose (Err (fault.NoMarker n)) Rest v ok dark cut cause put =
    decoded_run p limit i o t mid dark.0 NoMarker v dark.1 (status_dark p dark.0 dark.3)
    (put_nothing rose t.faults_new mid t.new put)
received_cases p limit i o t mid rose (Err fault.Read) Rest v ok dark cut cause put =
    record { told = mid; part = cut.0; lines = cut.1; put = put_since t mid rose _ cause.2 put }
received_cases p limit i o t mid rose (Err fault.Write) Rest v ok dark cut cause put =
    record { told = mid; part = cut.0; lines = cut.1; put = put_since t mid rose _ cause.2 put }
received_cases p limit i o t mid rose (Err fault.TooLong) Rest v ok dark cut cause put =
    (cut.2 refl, record { told = mid; part = cut.0; lines = cut.1; put = put_since t mid rose _ cause.2 put })
received_cases p limit i o t mid rose (Err fault.Report) Rest v ok dark cut cause put =
    subst (λ (told : Option (List ℕ)). ReceivesPart p limit i.old i.new o.old o.new t.old told)
    (sym (put_nothing rose t.faults_new mid t.new put)) cut.0

pub received_run : (q p : Parameters) (limit : ℕ) (i o t : Change) (mid : Option (List ℕ)) (rose : ℕ)
    (a : Result Tally RecvFault) (e : Ending) (s : Status) (Rest : Type 0)
    → q ≡ p → e ≡ received limit a → s ≡ status_of e → IsValid q
    → Tallied q limit i o t mid a → Unmarked q limit i o t mid a Rest → CutShort q limit i o t mid a
    → CausedBy i o t rose a
    → IsPut rose t.faults_new mid t.new (fault_line e) → DecodeRun p limit i o t s
received_run q p limit i o t mid rose a e s Rest same is status v ok dark cut cause put =
    subst (DecodeRun p limit i o t) (sym (status ∙ ap status_of is))
    (subst (λ (x : Parameters). DecodeRun x limit i o t (status_of (received limit a))) same
    (received_cases q limit i o t mid rose a Rest v ok dark cut cause
    (subst (λ (x : Ending). IsPut rose t.faults_new mid t.new (fault_line x)) is put)))

-- ---- whose count rose

tally_cause : (i o t : Change) (rose : ℕ) (b : Bool)
    → (i.faults_new ≡ i.faults_old) × (o.faults_new ≡ o.faults_old) × (rose ≡ t.faults_old)
    → (fault_line (if b then ending.Done else ending.WordsLost) ≡ [] → t.faults_new ≡ rose)
    → HasCause (status_of (if b then ending.Done else ending.WordsLost)) i o t
tally_cause i o t rose true same silent = record { input = same.0; output = same.1; report = silent refl ∙ same.2 }
tally_cause i o t rose false same silent = record { input = same.0; output = same.1; report = silent refl ∙ same.2 }

received_causes : (limit : ℕ) (i o t : Change) (rose : ℕ) (a : Result Tally RecvFault) → CausedBy i o t rose a
    → (fault_line (received limit a) ≡ [] → t.faults_new ≡ rose) → HasCause (status_of (received limit a)) i o t
received_causes limit i o t rose (Ok tally) cause silent = tally_cause i o t rose (tally.lost == 0) cause silent
received_causes limit i o t rose (Err (fault.NoMarker n)) cause silent =
    record { input = cause.0; output = cause.1; report = silent refl ∙ cause.2 }
received_causes limit i o t rose (Err fault.Read) cause silent =
    record { input = cause.0; output = cause.1; report = tt }
received_causes limit i o t rose (Err fault.Write) cause silent =
    record { input = cause.0; output = cause.1; report = tt }
received_causes limit i o t rose (Err fault.TooLong) cause silent =
    record { input = cause.0; output = cause.1; report = tt }
received_causes limit i o t rose (Err fault.Report) cause silent =
    record { input = cause.0; output = cause.1; report = subst (Rose t.faults_old) (sym (silent refl)) cause.2 }

pub received_cause : (limit : ℕ) (i o t : Change) (rose : ℕ) (a : Result Tally RecvFault) (e : Ending) (s : Status)
    → e ≡ received limit a → s ≡ status_of e → CausedBy i o t rose a
    → (fault_line e ≡ [] → t.faults_new ≡ rose) → HasCause s i o t
received_cause limit i o t rose a e s is status cause silent =
    subst (λ (x : Status). HasCause x i o t) (sym (status ∙ ap status_of is))
    (received_causes limit i o t rose a cause (λ none. silent (ap fault_line is ∙ none)))
