-- What a frame scan holds, and after which blocks.
use Rattle.std.specs.Prelude.{ℕ, ◌≡◌, List, [], ◌∷◌, ◌++◌, Bool, drop, length}
use Rattle.std.specs.declared.option.Option.{Option}
use Rattle.hpe_base.specs.Parameters.{Parameters}
use Rattle.hpe_base.specs.FrameScan.{scan_from, scan_start, marks_of, delivered_frames, delivered, Standing}

-- a scan: whether it is on the grid of frames, the bits from its place on, of which 2 is one of a lost block, the numbers
-- of frames delivered and of blocks, and whether its sink has failed
pub record Scanning : Type 0 where
  pub parameters : Parameters
  pub grid : Bool
  pub held : List ℕ
  pub frames : ℕ
  pub blocks : ℕ
  pub spent : Bool

-- where the scan of blocks stands after the last of them
abbrev pub scanned : Parameters → List (Option (List ℕ)) → Standing
scanned p blocks = scan_from p (marks_of p blocks) scan_start

-- the scan is as it stands after these blocks, all that it was given since it was new
pub record HasScanned (scan : Scanning) (blocks : List (Option (List ℕ))) : Type 0 where
  pub grid : scan.grid ≡ (scanned scan.parameters blocks).grid
  pub held : scan.held ≡ drop (scanned scan.parameters blocks).place (marks_of scan.parameters blocks)
  pub frames : scan.frames ≡ length (delivered_frames scan.parameters blocks)
  pub count : scan.blocks ≡ length blocks

-- the octets of the frames that one more block delivers
abbrev pub newly : Parameters → List (Option (List ℕ)) → Option (List ℕ) → List ℕ
newly p blocks block = drop (length (delivered p blocks)) (delivered p (blocks ++ block ∷ []))
