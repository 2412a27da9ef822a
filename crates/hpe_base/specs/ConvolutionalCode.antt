-- The convolutional code with puncturing.
use Rattle.std.specs.Prelude.{if◌then◌else◌, ℕ, ◌+◌, ◌-◌, ◌%◌, ◌≤◌, List, [], ◌∷◌, ◌++◌, length, slice_index, slice_index_or, Bool, nat_le, All}
use Rattle.hpe_base.specs.Lists.{joined}
use Rattle.hpe_base.specs.Parameters.{flags_set}

-- the bit that entered d steps before step t, and 0 before the start
abbrev pub earlier : List ℕ → ℕ → ℕ → ℕ
earlier u t d = if nat_le d t then slice_index u (t - d) else 0

-- the three outputs of step t
abbrev pub outputs : List ℕ → ℕ → List ℕ
outputs u t =
    let c1 = (earlier u t 0 + earlier u t 2) % 2 in
    let c2 = (earlier u t 0 + earlier u t 1 + earlier u t 2) % 2 in
    c1 ∷ c2 ∷ c2 ∷ []

-- the bits whose flag is set
abbrev pub selected : List Bool → List ℕ → List ℕ
selected [] bits = []
selected (flag ∷ flags) [] = []
selected (flag ∷ flags) (b ∷ bits) = (if flag then b ∷ [] else []) ++ selected flags bits

-- the outputs of step t that its puncturing column keeps; the columns serve in turn
abbrev pub kept_at : List (List Bool) → List ℕ → ℕ → List ℕ
kept_at columns u t = selected (slice_index_or columns (t % length columns) []) (outputs u t)

-- the code bits that are kept, step by step
abbrev pub code_bits : List (List Bool) → List ℕ → List ℕ
code_bits columns u = joined (length u) (kept_at columns u)

-- the columns that the code takes: 1 to 12, each with a flag set
pub record AreColumns (columns : List (List Bool)) : Type 0 where
  pub some : 1 ≤ length columns
  pub few : length columns ≤ 12
  pub each : All (λ column. 1 ≤ flags_set column) columns
