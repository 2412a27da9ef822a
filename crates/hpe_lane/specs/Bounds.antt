-- How large the numbers are that the stages of both trellises work with, so that no sum leaves 32 bits.
use Rattle.std.specs.Prelude.{ℕ, ◌+◌, ◌*◌, ◌<◌, ℤ, List}
use Rattle.hpe_base.specs.Parameters.{clamp}
use Rattle.hpe_base.specs.Sizes.{number_at, Within}

-- the size of an edge's score: a count and the numbers of eight bits, each of which is at most the clamp
abbrev pub edge_most : ℕ
edge_most = 147447

-- the size of an outer edge's score: the numbers of three outputs
abbrev pub outputs_most : ℕ
outputs_most = 3 * clamp

-- the size of a row's numbers, but for the one below
abbrev pub row_most : ℕ
row_most = 600000000

-- the size of a forward row of the inner trellis, where a start that no path has weighs a large negative number
abbrev pub fore_most : ℕ
fore_most = 1100000000

-- the size of what stands around an inner edge: a number of each row
abbrev pub around_most : ℕ
around_most = fore_most + row_most

-- the size of what an outer state scores from a stage on
abbrev pub after_most : ℕ
after_most = row_most + outputs_most

-- how far two scores of a stage of the inner trellis lie apart, whatever stands before it
abbrev pub apart_most : ℕ
apart_most = 2 * (row_most + edge_most)

-- a row of so many states, each of whose numbers is at most that in size
abbrev pub IsRow : ℕ → ℕ → List ℤ → Type 0
IsRow states most row = (s : ℕ) → s < states → Within most (number_at row s)
