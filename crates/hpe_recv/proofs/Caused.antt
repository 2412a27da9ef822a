-- Whose count of faults rose, behind calls in which none did.
use Rattle.std.proofs.Common.{◌≡◌, ℕ, ◌∙◌, refl, subst, Ok, Err}
use Rattle.std.specs.Prelude.{Result}
use Rattle.hpe_io.specs.Devices.{Rose}
use Rattle.hpe_recv.specs.Causes.{IsCutBy, IsReadBy, IsLeftBy, HasUntakenCause, HasFaultCause}
use Rattle.hpe_recv.specs.Receiving.{fault_of}
use Rattle.hpe_recv.specs.declared.intake.Untaken.{Untaken}
use Rattle.hpe_recv.specs.declared.intake.Untaken.TheVariants as untaken
use Rattle.hpe_recv.specs.declared.receiver.Tally.{Tally}
use Rattle.hpe_recv.specs.declared.outlet.Cut.{Cut}
use Rattle.hpe_recv.specs.declared.outlet.Cut.TheVariants as cut

-- a failure of a sink
pub cut_after : (e : Cut) (f0 f1 f2 r0 r1 r2 : ℕ) → f1 ≡ f0 → r1 ≡ r0 → IsCutBy f1 f2 r1 r2 e → IsCutBy f0 f2 r0 r2 e
cut_after cut.Frames f0 f1 f2 r0 r1 r2 f r h = (subst (λ (n : ℕ). Rose n f2) f h.0, h.1 ∙ r)
cut_after cut.Report f0 f1 f2 r0 r1 r2 f r h = (h.0 ∙ f, subst (λ (n : ℕ). Rose n r2) r h.1)

-- a failure that isn't of a sink alone
pub left_after : (e : Untaken) (i0 i1 i2 f0 f1 f2 r0 r1 r2 : ℕ) → i1 ≡ i0 → f1 ≡ f0 → r1 ≡ r0 → IsLeftBy i1 i2 f1 f2 r1 r2 e → IsLeftBy i0 i2 f0 f2 r0 r2 e
left_after e i0 i1 i2 f0 f1 f2 r0 r1 r2 i f r h =
    subst (λ (n : ℕ). IsLeftBy n i2 f0 f2 r0 r2 e) i (subst (λ (n : ℕ). IsLeftBy i1 i2 n f2 r0 r2 e) f (subst (λ (n : ℕ). IsLeftBy i1 i2 f1 f2 n r2 e) r h))

-- any answer
pub untaken_cause-after : {T : Type 0} (result : Result T Untaken) (i0 i1 i2 f0 f1 f2 r0 r1 r2 : ℕ) → i1 ≡ i0 → f1 ≡ f0 → r1 ≡ r0
    → HasUntakenCause i1 i2 f1 f2 r1 r2 result → HasUntakenCause i0 i2 f0 f2 r0 r2 result
untaken_cause-after (Ok x) i0 i1 i2 f0 f1 f2 r0 r1 r2 i f r h = (h.0 ∙ i, h.1 ∙ f, h.2 ∙ r)
untaken_cause-after (Err e) i0 i1 i2 f0 f1 f2 r0 r1 r2 i f r h = left_after e i0 i1 i2 f0 f1 f2 r0 r1 r2 i f r h

-- a failure to read
pub left_read : (e : Untaken) (i i' f r : ℕ) → IsReadBy i i' e → IsLeftBy i i' f f r r e
left_read untaken.Read i i' f r h = (h, refl, refl)
left_read untaken.TooLong i i' f r h = (h, refl, refl)
left_read untaken.Frames i i' f r h = absurd h
left_read untaken.Report i i' f r h = absurd h

-- as a fault of the receiver
pub fault_left : (e : Untaken) (i i' f f' r r' : ℕ) → IsLeftBy i i' f f' r r' e → HasFaultCause {T = Tally} i i' f f' r r' (Err (fault_of e))
fault_left untaken.Read i i' f f' r r' h = h
fault_left untaken.TooLong i i' f f' r r' h = h
fault_left untaken.Frames i i' f f' r r' h = h
fault_left untaken.Report i i' f f' r r' h = h
