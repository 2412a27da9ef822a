-- What an intake of counts has taken from its input.
use Rattle.std.specs.Prelude.{ℕ, ◌≡◌, ◌≤◌, ◌+◌, ◌*◌, List, [], ◌∷◌, length, drop, Some, None}
use Rattle.std.specs.declared.option.Option.{Option}
use Rattle.hpe_base.specs.Parameters.{Parameters}
use Rattle.hpe_base.specs.Counts.{counts_of}
use Rattle.hpe_io.specs.Intake.{IntakeState, HasCome, HasStopped}

-- an intake of counts: the octets that were taken, the octet of a count that isn't whole, and the last piece of counts
pub record CountIntakeState : Type 0 where
  pub parameters : Parameters
  pub octets : IntakeState
  pub half : List ℕ
  pub piece : List ℕ

-- an octet, if there is one
abbrev pub half_octets : Option ℕ → List ℕ
half_octets None = []
half_octets (Some octet) = octet ∷ []

-- these counts were taken since the intake began, when `start` was left of the input
pub record HasCounted (s : CountIntakeState) (start now : Option (List ℕ)) (counts : List ℕ) : Type 0 where
  pub octets : List ℕ
  pub come : HasCome s.octets start now octets
  pub written : counts ≡ counts_of s.parameters octets
  pub half : s.half ≡ drop (s.parameters.count_octets * length counts) octets

-- octets were taken, and those within the limit write these counts
pub record HasCountedPart (s : CountIntakeState) (start now : Option (List ℕ)) (counts : List ℕ) : Type 0 where
  pub octets : List ℕ
  pub stopped : HasStopped s.octets start now octets
  pub written : counts ≡ counts_of s.parameters octets

-- an intake of counts after any calls: at most one octet more than the limit was taken
pub record CountIntakeStands (old new : CountIntakeState) : Type 0 where
  pub same_parameters : new.parameters ≡ old.parameters
  pub same_limit : new.octets.limit ≡ old.octets.limit
  pub most : new.octets.taken ≤ old.octets.limit + 1
