-- The best offset so far.
use Rattle.std.specs.Prelude.{ℕ, ◌<◌, ◌≡◌}
use Rattle.hpe_base.specs.MarkerSearch.{least_greatest}

-- of the first n offsets, the least with the greatest score, and that score; 0 where there is none
pub record Leads (f : ℕ → ℕ) (n offset best : ℕ) : Type 0 where
  pub place : offset ≡ least_greatest f n
  pub value : 0 < n → best ≡ f offset
  pub none : n ≡ 0 → best ≡ 0
