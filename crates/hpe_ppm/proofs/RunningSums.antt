-- Running sums modulo 2.
use Rattle.std.proofs.Common.{◌≡◌, ◌≤◌, ◌<◌, ◌+◌, ◌%◌, ℕ, List, get_or, take, sum}

-- the places below n hold the running sums, and the others are as before
pub record Summing (n total : ℕ) (before now : List ℕ) : Type 0 where
  pub total_is : total ≡ sum (take n before) % 2
  pub done : (k : ℕ) → k < n → get_or now k 0 ≡ sum (take (k + 1) before) % 2
  pub rest : (k : ℕ) → n ≤ k → get_or now k 0 ≡ get_or before k 0
