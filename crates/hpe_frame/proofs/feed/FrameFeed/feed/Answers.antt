use Rattle.std.proofs.Common.{◌≡◌, ◌∙◌, ap, sym, arith, length, ◌+◌, ◌%◌}
use Rattle.std.proofs.lemmas.Bool.{eq-eqb, eqb-true}
use Rattle.hpe_frame.specs.Feeding.{Feeding}
use Rattle.hpe_base.proofs.UnitLemmas.{IsPlace, unit_step, unit_completes}
use Rattle.hpe_frame.proofs.feed.FrameFeed.feed.Goals as goal
use Rattle.hpe_frame.proofs.feed.FrameFeed.feed.Goals.{then-self-size, else-self-size}

next : (c : goal.After-self-2-1) → IsPlace c.self.inside.profile.frame_octets c.self.inside.used c.if-self-size.place
next c =
    let i = c.self.invariant in
    elim c.if-self-size.branch [
      | then-self-size b ↦ record { new = λ _. b.place-is; on = λ less. absurd (omega arith) }
      | else-self-size b ↦ record { new = λ whole. absurd (omega arith); on = λ _. b.place-is }
    ]

pub returns-clause-stands : goal.returns-clause-stands
returns-clause-stands c = λ fed was.
    let i = c.self.invariant in
    unit_step c.self.inside.profile.frame_octets c.self.inside.octets.items fed c.self.inside.used c.if-self-size.place c.args.octet i.low i.size i.used (next c) (rw (← c.self.view_is) at was)

pub returns-clause-completes : goal.returns-clause-completes
returns-clause-completes c = λ fed was.
    let i = c.self.invariant in
    let same : c.self.inside.profile.frame_octets ≡ c.args.self.now.parameters.frame_octets = ap (λ (f : Feeding). f.parameters.frame_octets) c.self.view_is in
    let size : c.len-size.result ≡ c.self.inside.profile.frame_octets = omega arith in
    let both = unit_completes c.self.inside.profile.frame_octets c.self.inside.octets.items fed c.self.inside.used c.if-self-size.place c.args.octet i.low i.size i.used (next c) (rw (← c.self.view_is) at was) in (
      (λ yes. ap (λ n. (length fed + 1) % n) (sym same) ∙ both.0 (eqb-true (c.if-self-size.place + 1) c.len-size.result yes ∙ size)),
      (λ ends. eq-eqb (c.if-self-size.place + 1) c.len-size.result (both.1 (ap (λ n. (length fed + 1) % n) same ∙ ends) ∙ sym size)),
    )
