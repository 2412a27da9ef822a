-- What contracts see of the adapters over readers and writers.
use Rattle.std.specs.Prelude.{ℕ, ◌≤◌, List, length, take, Result, MatchResult}
use Rattle.std.specs.declared.option.Option.{Option}
use Rattle.std.specs.Io.KnownBytes.{Appends}
use Rattle.hpe_io.specs.declared.system.OsSource.{OsSource}
use Rattle.hpe_io.specs.declared.system.OsSink.{OsSink}
use Rattle.hpe_io.specs.declared.os_shelf.OsShelf.{OsShelf}

-- the reader of a source
abbrev pub reader_of : {R : Type 0} → OsSource R → R
reader_of s = s.reader

-- the count of a source's faults
abbrev pub read_faults : {R : Type 0} → OsSource R → ℕ
read_faults s = s.faults

-- the writer of a sink
abbrev pub writer_of : {W : Type 0} → OsSink W → W
writer_of s = s.writer

-- the count of a sink's faults
abbrev pub write_faults : {W : Type 0} → OsSink W → ℕ
write_faults s = s.faults

-- the count of a shelf's faults
abbrev pub shelf_faults : {F File Dir : Type 0} → OsShelf F File Dir → ℕ
shelf_faults s = s.faults

-- a writer was passed all of the octets, or after a failure some front of them
abbrev pub PassesOn : {T E : Type 0} → Option (List ℕ) → Option (List ℕ) → Result T E → List ℕ → Type 0
PassesOn old new result octets =
    MatchResult result (λ _. Appends old new octets)
    (λ _. (n : ℕ) × (n ≤ length octets) × Appends old new (take n octets))
