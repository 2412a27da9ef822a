-- The long division of the check over a register of 32 bits, which holds what was added to the next 32 bits.
use Rattle.std.specs.Prelude.{ℕ, ◌*◌, ◌/◌, ◌%◌, ◌^◌, List, [], ◌∷◌, bit_xor}

-- the register after one more bit
abbrev pub divided : ℕ → ℕ → ℕ → ℕ
divided check register bit = bit_xor (register * 2 % 2 ^ 32) (bit_xor (register / 2 ^ 31) bit * check)

-- the register after these bits
unfoldable pub divided_by : ℕ → ℕ → List ℕ → ℕ
divided_by check register [] = register
divided_by check register (b ∷ bits) = divided_by check (divided check register b) bits
