-- Path metrics and survivors of the outer trellis: what the best path to each state scores, and where it comes from.
use Rattle.std.specs.Prelude.{ℕ, zero, suc, ◌+◌, ◌*◌, ◌/◌, ◌%◌, ℤ, ◌+ℤ◌, List, [], ◌∷◌, ◌++◌, Bool, if◌then◌else◌, int_lt}
use Rattle.std.specs.Int.{int_max}
use Rattle.hpe_base.specs.Lists.{tabulate}
use Rattle.hpe_trellis.specs.OuterTrellis.{outer_edge, outer_start}

-- what state p leads on to state q, by the metrics of the states and the scores of the edges
abbrev pub through : (ℕ → ℤ) → (ℕ → ℕ → ℤ) → ℕ → ℕ → ℤ
through metric edge p q = metric p +ℤ edge p (q / 2)

-- the metric of state q after a step: the greater of what the two states lead on that it can come from
abbrev pub metric_after : (ℕ → ℤ) → (ℕ → ℕ → ℤ) → ℕ → ℤ
metric_after metric edge q = int_max (through metric edge (2 * (q % 2)) q) (through metric edge (2 * (q % 2) + 1) q)

-- the path metric of state q before step t; a path begins in state 0, and the others start too low to be of the best
unfoldable pub path_metric : List (List Bool) → List ℤ → ℕ → ℕ → ℤ
path_metric columns l zero q = outer_start q
path_metric columns l (suc t) q = metric_after (path_metric columns l t) (outer_edge columns l t) q

-- those of the four states
abbrev pub metric_row : List (List Bool) → List ℤ → ℕ → List ℤ
metric_row columns l t = tabulate 4 (path_metric columns l t)

-- the rows of n steps, one before each and one after the last
abbrev pub metric_rows : List (List Bool) → List ℤ → ℕ → List (List ℤ)
metric_rows columns l n = tabulate (n + 1) (metric_row columns l)

-- the survivor of the two states that lead to state q: the one that leads on more, and on a tie the one with the
-- earlier input 0
abbrev pub survivor : (ℕ → ℤ) → (ℕ → ℕ → ℤ) → ℕ → ℕ
survivor metric edge q =
    if int_lt (through metric edge (2 * (q % 2)) q) (through metric edge (2 * (q % 2) + 1) q)
    then 2 * (q % 2) + 1 else 2 * (q % 2)

-- the state before step t on the best path to state q
unfoldable pub survivor_at : List (List Bool) → List ℤ → ℕ → ℕ → ℕ
survivor_at columns l t q = survivor (path_metric columns l t) (outer_edge columns l t) q

-- the inputs of t steps that lead to state q, by the states before
abbrev pub traced : (ℕ → ℕ → ℕ) → ℕ → ℕ → List ℕ
traced before zero q = []
traced before (suc t) q = traced before t (before t q) ++ (q / 2) ∷ []

-- and the state that they begin in
abbrev pub begins : (ℕ → ℕ → ℕ) → ℕ → ℕ → ℕ
begins before zero q = q
begins before (suc t) q = begins before t (before t q)
