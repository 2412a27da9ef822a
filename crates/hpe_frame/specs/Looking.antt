-- How a scan goes on by what stands at its place.
use Rattle.std.specs.Prelude.{ℕ, ◌≡◌, ◌+◌, List, ◌∷◌, ◌++◌, [], length, Bool, true, false}
use Rattle.hpe_base.specs.FrameScan.{Standing}
use Rattle.hpe_frame.specs.declared.span.Look.{Look}
use Rattle.hpe_frame.specs.declared.span.Look.TheVariants.{Frame, Gap, Other}

-- what stands there, by: on the grid, all bits of the span are known, the first 32 are the frame marker
abbrev pub look_of : Bool → Bool → Bool → Look
look_of grid true true = Frame
look_of grid true false = Other
look_of true false marked = Gap
look_of false false marked = Other

-- and the step over it
abbrev pub by_look : ℕ → Look → List ℕ → Standing → Standing
by_look span Frame frame s = record { grid = true; place = s.place + span; frames = s.frames ++ frame ∷ [] }
by_look span Gap frame s = record { grid = true; place = s.place + span; frames = s.frames }
by_look span Other frame s = record { grid = false; place = s.place + 1; frames = s.frames }

-- a scan stands at a place, on the grid or not, with so many frames delivered
pub record StandsAt (place : ℕ) (on_grid : Bool) (count : ℕ) (s : Standing) : Type 0 where
  pub at : s.place ≡ place
  pub grid : s.grid ≡ on_grid
  pub delivered : length s.frames ≡ count
