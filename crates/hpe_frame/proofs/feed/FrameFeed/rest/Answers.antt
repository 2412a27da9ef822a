use Rattle.std.proofs.Common.{◌≡◌, ◌∙◌, ap, sym, arith, ℕ, List, length, ◌%◌}
use Rattle.std.proofs.lemmas.List.{length-take-le}
use Rattle.hpe_base.specs.Units.{unit_of}
use Rattle.hpe_frame.specs.Feeding.{Feeding}
use Rattle.hpe_base.proofs.UnitLemmas.{unit_rest}
use Rattle.hpe_frame.proofs.feed.FrameFeed.rest.Goals as goal

pub returns-else-self-len : goal.returns-else-self-len
returns-else-self-len c = λ fed was.
    let i = c.self.invariant in
    let same = ap (λ (f : Feeding). f.parameters.frame_octets) c.self.view_is in
    let long : c.self.inside.used ≡ length (unit_of c.self.inside.profile.frame_octets fed) =
    sym (length-take-le c.self.inside.used c.self.inside.octets.items (omega arith)) ∙ ap (λ (l : List ℕ). length l) (rw (← c.self.view_is) at was) in
    let size : c.len.result ≡ c.self.inside.profile.frame_octets = omega arith in
    long ∙ (unit_rest c.self.inside.profile.frame_octets fed (omega arith) (omega arith) ∙ ap (λ n. length fed % n) same)
