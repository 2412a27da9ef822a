-- What a run did to a device: what it tells before and after, and its counts of faults.
use Rattle.std.specs.Prelude.{◌≡◌, ℕ, List, Option}
use Rattle.hpe_io.specs.Devices.{Rose, GrowsByFront}
use Rattle.hpe_cmd.specs.FaultLines.{IsPut}

pub record Change : Type 0 where
  pub old : Option (List ℕ)
  pub new : Option (List ℕ)
  pub faults_old : ℕ
  pub faults_new : ℕ

-- the change of a device by the members of its trait, as in `change I.left I.faults input.old input.new`
abbrev pub change : {D : Type 0} → (D → Option (List ℕ)) → (D → ℕ) → D → D → Change
change known faults x y = record { old = known x; new = known y; faults_old = faults x; faults_new = faults y }

-- the device failed
abbrev pub Fails : Change → Type 0
Fails c = Rose c.faults_old c.faults_new

-- no call of the device failed
abbrev pub Serves : Change → Type 0
Serves c = c.faults_new ≡ c.faults_old

-- the device grew by a front of the octets
abbrev pub GrowsIn : Change → List ℕ → Type 0
GrowsIn c octets = GrowsByFront c.old c.new octets

-- the line was put, or a front of it where the device failed
abbrev pub IsTold : Change → List ℕ → Type 0
IsTold c line = IsPut c.faults_old c.faults_new c.old c.new line
