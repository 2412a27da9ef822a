-- The accumulator.
use Rattle.std.specs.Prelude.{ℕ, ◌+◌, ◌%◌, List, length, sum, take}
use Rattle.hpe_base.specs.Lists.{tabulate}

-- the running sums modulo 2
abbrev pub accumulated : List ℕ → List ℕ
accumulated bits = tabulate (length bits) (λ j. sum (take (j + 1) bits) % 2)
