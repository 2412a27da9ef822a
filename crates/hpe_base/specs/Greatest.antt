-- The greatest score of the things that are chosen.
use Rattle.std.specs.Prelude.{◌≡◌, ℕ, ℤ, ◌-ℤ◌, ◌≤ℤ◌}

-- one chosen thing scores `top`, and no chosen thing scores more
pub record IsGreatest {A : Type 0} (chosen : A → Type 0) (score : A → ℤ) (top : ℤ) : Type 0 where
  pub reached : (x : A) × (chosen x × (score x ≡ top))
  pub bound : (x : A) → chosen x → score x ≤ℤ top

-- the greatest score with the bit 1 less the greatest with it 0
pub record IsSoft {A : Type 0} (chosen : A → Type 0) (bit : A → ℕ) (score : A → ℤ) (soft : ℤ) : Type 0 where
  pub one : ℤ
  pub zero : ℤ
  pub with_one : IsGreatest (λ (x : A). chosen x × (bit x ≡ 1)) score one
  pub with_zero : IsGreatest (λ (x : A). chosen x × (bit x ≡ 0)) score zero
  pub value : soft ≡ one -ℤ zero
