-- The stages of a trellis in windows, which sweeps cross one after the other.
use Rattle.std.specs.Prelude.{ℕ, ◌+◌, ◌-◌, ◌*◌, ◌/◌}

-- the stages of a window
abbrev pub window : ℕ
window = 64

-- the windows of so many stages, of which the last may have fewer
abbrev pub windows : ℕ → ℕ
windows stages = (stages + (window - 1)) / window

-- the end of the first windows: a whole window each, but no more than there are
abbrev pub windows_end : ℕ → ℕ → ℕ
windows_end stages w = stages - (stages - window * w)

-- the rows of states that sweeps need: one before each window, and those of one window
abbrev pub sweep_rows : ℕ → ℕ
sweep_rows stages = windows stages + window
