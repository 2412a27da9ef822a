-- Scores that are compared in lanes, side by side.
use Rattle.std.specs.Prelude.{if◌then◌else◌, ◌==◌, ◌≡◌, ◌⊎◌, ℕ, ◌%◌, ℤ, negsuc, ◌≤ℤ◌, List, bit_and, count_ones}
use Rattle.hpe_base.specs.Sizes.{number_at}

-- no chosen place scores more than `top`, which one of them scores, or which is the least of all numbers of 32 bits
pub record IsBest (chosen : ℕ → Type 0) (score : ℕ → ℤ) (top : ℤ) : Type 0 where
  pub reached : (top ≡ negsuc 2147483647) ⊎ ((v : ℕ) × (chosen v × (score v ≡ top)))
  pub bound : (v : ℕ) → chosen v → score v ≤ℤ top

-- the score of lane i: of the first list where the lane's bits under the mask are even in number, else of the second
abbrev pub lane_of : List ℤ → List ℤ → ℕ → ℕ → ℤ
lane_of same other mask i = if count_ones (bit_and i mask) % 2 == 0 then number_at same i else number_at other i
