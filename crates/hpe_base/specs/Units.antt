-- Lists that come value by value and are handed on in units of one size.
use Rattle.std.specs.Prelude.{ℕ, ◌-◌, ◌*◌, ◌/◌, List, length, drop}

-- the unit of n values that is begun, or was just completed
abbrev pub unit_of : ℕ → List ℕ → List ℕ
unit_of n xs = drop ((length xs - 1) / n * n) xs
