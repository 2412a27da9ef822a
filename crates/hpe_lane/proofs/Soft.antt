-- Soft values of scores that are told in another way.
use Rattle.std.proofs.Common.{◌≡◌, ℕ, ℤ, sym}
use Rattle.hpe_base.specs.Greatest.{IsGreatest, IsSoft}
use Rattle.hpe_base.proofs.Greatest.{IsGreatest-carry}

-- the same score by another name
pub IsGreatest-score : {A : Type 0} {P : A → Type 0} {f g : A → ℤ} {z : ℤ} → ((x : A) → P x → g x ≡ f x) → IsGreatest P f z → IsGreatest P g z
IsGreatest-score {A} {P} {f} {g} {z} same h = IsGreatest-carry (λ x p. (x, (p, same x p))) (λ x p. (x, (p, sym (same x p)))) h

pub IsSoft-score : {A : Type 0} {P : A → Type 0} {bit : A → ℕ} {f g : A → ℤ} {z : ℤ} → ((x : A) → P x → g x ≡ f x) → IsSoft P bit f z → IsSoft P bit g z
IsSoft-score {A} {P} {bit} {f} {g} {z} same h = record {
  one = h.one;
  zero = h.zero;
  with_one = IsGreatest-score (λ x p. same x p.0) h.with_one;
  with_zero = IsGreatest-score (λ x p. same x p.0) h.with_zero;
  value = h.value;
}
