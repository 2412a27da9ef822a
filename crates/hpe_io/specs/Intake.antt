-- What an intake has taken from its input.
use Rattle.std.specs.Prelude.{ℕ, ◌≡◌, List, length, take, Result, Ok, Err}
use Rattle.std.specs.declared.option.Option.{Option}
use Rattle.std.specs.Io.KnownBytes.{prepend_known}
use Rattle.hpe_io.specs.Devices.{Rose}
use Rattle.hpe_io.specs.declared.intake.IntakeFault.{IntakeFault}
use Rattle.hpe_io.specs.declared.intake.IntakeFault.TheVariants.{Read, TooLong}

-- an intake: the most octets that the input may have, how many were taken, and the last piece of them
pub record IntakeState : Type 0 where
  pub limit : ℕ
  pub taken : ℕ
  pub piece : List ℕ

-- these octets were taken since the intake began, when `start` was left of the input
pub record HasCome (s : IntakeState) (start now : Option (List ℕ)) (octets : List ℕ) : Type 0 where
  pub lost : start ≡ prepend_known octets now
  pub count : length octets ≡ s.taken

-- the same, and of all of them these are within the limit
pub record HasStopped (s : IntakeState) (start now : Option (List ℕ)) (octets : List ℕ) : Type 0 where
  pub all : List ℕ
  pub come : HasCome s start now all
  pub within : take s.limit all ≡ octets

-- the input's count of faults rose where a read failed, and stays at each other answer
abbrev pub HasIntakeCause : {T : Type 0} → ℕ → ℕ → Result T IntakeFault → Type 0
HasIntakeCause before now (Ok _) = now ≡ before
HasIntakeCause before now (Err Read) = Rose before now
HasIntakeCause before now (Err TooLong) = now ≡ before
