-- How far the input has come, behind the counts that the marker search keeps.
use Rattle.std.specs.Prelude.{ℕ, ◌≡◌, ◌<◌, ◌≤◌, ◌+◌, ◌++◌, ◌^◌, ◌/◌, List, [], length, false}
use Rattle.std.specs.declared.option.Option.{Option}
use Rattle.std.specs.Io.KnownBytes.{IsAtEnd}
use Rattle.hpe_base.specs.Parameters.{Parameters}
use Rattle.hpe_find.specs.Finding.{Finding, finder_room}
use Rattle.hpe_recv.specs.Batching.{blocks_due}
use Rattle.hpe_recv.specs.Counting.{CountIntakeState, CountIntakeStands, HasCounted, HasCountedPart}
use Rattle.hpe_recv.specs.Streaming.{Streaming, HasTaken}
use Rattle.hpe_recv.specs.declared.reception.Reception.{Reception}

-- what holds where the search was not settled by the counts that it keeps
abbrev pub UnlessSettled : Parameters → List ℕ → Type 0 → Type 0
UnlessSettled p counts P = length counts < finder_room p → P

-- what no phase of a reception changes
pub record ReceptionStands (old new : Reception) : Type 0 where
  pub finder : new.finder ≡ old.finder
  pub period : new.period ≡ old.period
  pub lead : new.lead ≡ old.lead
  pub profile : new.stream.rows.parameters ≡ old.stream.rows.parameters
  pub intake : CountIntakeStands old.intake new.intake

-- a reception whose stream can take more, after more of the input within the limit
pub record CanFollow (old new : Reception) : Type 0 where
  pub later : old.intake.octets.taken ≤ new.intake.octets.taken
  pub within : new.intake.octets.taken ≤ old.intake.octets.limit
  pub unspent : new.stream.batch.outlet.scan.spent ≡ false
  pub few : blocks_due new.stream.batch ≤ new.intake.octets.taken

-- the search is over, all counts that came are kept, and the stream has taken nothing
pub record IsReady (f : Finding) (i : CountIntakeState) (s : Streaming) (frames report : Option (List ℕ)) : Type 0 where
  pub profile : s.rows.parameters ≡ f.parameters
  pub intake : i.parameters ≡ f.parameters
  pub stands : HasTaken s [] frames frames report report
  pub unspent : s.batch.outlet.scan.spent ≡ false
  pub blocks : blocks_due s.batch ≡ 0
  pub count : length f.counts ≡ i.octets.taken / f.parameters.count_octets
  pub few : length f.counts ≤ i.octets.taken
  pub within : i.octets.taken ≤ i.octets.limit
  pub limit : i.octets.limit ≤ 2 ^ 40

-- behind the counts that are kept these came, up to the end of the input, which is within the limit
pub record HasEnded (p : Parameters) (kept rest : List ℕ) (i : CountIntakeState) (start now : Option (List ℕ)) : Type 0 where
  pub unless : UnlessSettled p kept (rest ≡ [])
  pub come : HasCounted i start now (kept ++ rest)
  pub ended : IsAtEnd now
  pub within : i.octets.taken ≤ i.octets.limit

-- behind the counts that are kept these came within the limit
pub record HasBroken (p : Parameters) (kept rest : List ℕ) (i : CountIntakeState) (start now : Option (List ℕ)) : Type 0 where
  pub unless : UnlessSettled p kept (rest ≡ [])
  pub stopped : HasCountedPart i start now (kept ++ rest)
  pub most : i.octets.taken ≤ i.octets.limit + 1
