-- What stands where nothing was taken and nothing put.
use Rattle.std.proofs.Common.{◌≡◌, ◌∙◌, ℕ, zero, suc, List, [], take, Option, Some, None, refl, sym, ap, arith, inl, inr}
use Rattle.std.specs.Io.KnownBytes.{append_known, prepend_known}
use Rattle.hpe_io.proofs.Known.{append_nothing}
use Rattle.hpe_io.specs.Devices.{GrowsByFront, Grows, TakesAtMost}
use Rattle.hpe_cmd.specs.FaultLines.{IsPut}

take_nothing : (n : ℕ) → take {A = ℕ} n [] ≡ []
take_nothing zero = refl
take_nothing (suc n) = refl

-- a front of nothing
front_nothing : (old new : Option (List ℕ)) → GrowsByFront old new [] → new ≡ old
front_nothing old new front =
    front.2 ∙ ap (λ (l : List ℕ). append_known old l) (take_nothing front.0) ∙ append_nothing old

-- no line was put
pub put_nothing : (faults faults' : ℕ) (old new : Option (List ℕ)) → IsPut faults faults' old new [] → new ≡ old
put_nothing faults faults' old new (inl all) = all.0 ∙ append_nothing old
put_nothing faults faults' old new (inr cut) = front_nothing old new cut.1

prepend_nothing : (known : Option (List ℕ)) → known ≡ prepend_known [] known
prepend_nothing None = refl
prepend_nothing (Some xs) = refl

-- nothing was taken
pub takes_nothing : (old new : Option (List ℕ)) (n : ℕ) → new ≡ old → TakesAtMost old new n
takes_nothing old new n same = record { octets = []; count = omega arith; lost = sym same ∙ prepend_nothing new }

-- nothing was written
pub grows_nothing : (old new : Option (List ℕ)) → new ≡ old → Grows old new
grows_nothing old new same = record { octets = []; grown = same ∙ sym (append_nothing old) }
