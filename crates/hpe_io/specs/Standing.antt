-- What no call changes of a device, and that its count of faults never falls. The functions are the members of the
-- device's trait, as in `SourceStands I.faults I.mark I.build input.old input.new`.
use Rattle.std.specs.Prelude.{◌≡◌, ◌≤◌, ℕ, List, Result, OnErr, OnOk}
use Rattle.hpe_io.specs.Devices.{Rose}

-- a source after any calls
pub record SourceStands {I : Type 0} (faults mark : I → ℕ) (build : I → List ℕ) (old new : I) : Type 0 where
  pub later : faults old ≤ faults new
  pub same_mark : mark new ≡ mark old
  pub same_build : build new ≡ build old

-- a sink after any calls
pub record SinkStands {O : Type 0} (faults mark : O → ℕ) (old new : O) : Type 0 where
  pub later : faults old ≤ faults new
  pub same_mark : mark new ≡ mark old

-- a source after calls of which none failed
pub record SourceServes {I : Type 0} (faults mark : I → ℕ) (build : I → List ℕ) (old new : I) : Type 0 where
  pub same_faults : faults new ≡ faults old
  pub same_mark : mark new ≡ mark old
  pub same_build : build new ≡ build old

-- a sink after calls of which none failed
pub record SinkServes {O : Type 0} (faults mark : O → ℕ) (old new : O) : Type 0 where
  pub same_faults : faults new ≡ faults old
  pub same_mark : mark new ≡ mark old

-- a source after calls of which a failure alone is answered, and without one its count of faults stays
pub record SourceAnswers {I T E : Type 0} (faults mark : I → ℕ) (build : I → List ℕ) (old new : I) (result : Result T E) : Type 0 where
  pub later : faults old ≤ faults new
  pub same_mark : mark new ≡ mark old
  pub same_build : build new ≡ build old
  pub failed : OnErr result (Rose (faults old) (faults new))
  pub kept : OnOk result (faults new ≡ faults old)

-- a sink after calls of which a failure alone is answered, and without one its count of faults stays
pub record SinkAnswers {O T E : Type 0} (faults mark : O → ℕ) (old new : O) (result : Result T E) : Type 0 where
  pub later : faults old ≤ faults new
  pub same_mark : mark new ≡ mark old
  pub failed : OnErr result (Rose (faults old) (faults new))
  pub kept : OnOk result (faults new ≡ faults old)
