-- The sign of a soft value, where one word leads all others.
use Rattle.std.proofs.Common.{◌≡◌, ◌<◌, ◌≤◌, ◌⊎◌, ⊎_elim, ℕ, zero, suc, ℤ, pos, negsuc, ◌-ℤ◌, ◌≤ℤ◌, ◌<ℤ◌, List, [], true, Option, Some, replicate, sym, ap, ap₂, subst, refl, arith, eq-eqb}
use Rattle.std.specs.Prelude.{◌==◌, slice_index}
use Rattle.std.proofs.lemmas.Bool.{eqb-true}
use Rattle.std.proofs.lemmas.Int.{ints, clamps}
use Rattle.std.proofs.lemmas.List.{get_or-replicate}
use Rattle.hpe_base.specs.Greatest.{IsGreatest}
use Rattle.hpe_base.specs.Trellis.{IsPath}
use Rattle.hpe_base.specs.GreatestScores.{top_from}
use Rattle.hpe_base.specs.SoftValues.{difference, clamped, scaled}
use Rattle.hpe_base.proofs.Scaling.{eighths-pos}
use Rattle.hpe_base.specs.Rounds.{hard_bit}
use Rattle.hpe_base.proofs.Greatest.{IsGreatest-widen}
use Rattle.hpe_base.proofs.GreatestScores.{top-whole, some_top}
use Rattle.hpe_base.proofs.Trellis.{replicate-path}

-- the value is above 0 where the bit is 1, and below 0 where it is 0
pub record IsSigned (bit : ℕ) (value : ℤ) : Type 0 where
  pub one : bit ≡ 1 → pos 1 ≤ℤ value
  pub zero : bit ≡ 0 → value ≤ℤ negsuc 0

-- ---- the soft value of one bit of words
reaches : (hi lo x y : ℤ) → x ≤ℤ hi → y ≡ lo → y <ℤ x → pos 1 ≤ℤ (hi -ℤ lo)
reaches hi lo x y h e k = omega (arith, ints)

falls : (hi lo x y : ℤ) → x ≤ℤ lo → y ≡ hi → y <ℤ x → (hi -ℤ lo) ≤ℤ negsuc 0
falls hi lo x y h e k = omega (arith, ints)

differ : (a b : ℕ) → a ≡ 0 → b ≡ 1 → a ≡ b → ⊥
differ a b e f g = omega arith

module _ (n j : ℕ) (score : List ℕ → ℤ) (sent : List ℕ) (below : j < n) (path : IsPath 2 n sent)
    (lead : (x : List ℕ) → IsPath 2 n x → (x ≡ sent) ⊎ (score x <ℤ score sent)) where
  abbrev bit : List ℕ → ℕ
  bit x = slice_index x j

  abbrev top : ℕ → Option ℤ
  top b = top_from (λ x. slice_index x j == b) score n []

  top_with : (b : ℕ) → b < 2 → (z : ℤ) × ((top b ≡ Some z) × IsGreatest (λ (x : List ℕ). IsPath 2 n x × (bit x ≡ b)) score z)
  top_with b h =
      let t = some_top (λ (x : List ℕ). IsPath 2 n x × ((bit x == b) ≡ true)) score (top b) (top-whole (λ x. bit x == b) score n)
      (replicate n b) (replicate-path 2 n b h, eq-eqb (bit (replicate n b)) b (get_or-replicate n j b 0 below)) in
      (t.0, (t.1.0, IsGreatest-widen (λ x k. (k.0, eqb-true (bit x) b k.1)) (λ x k. (k.0, eq-eqb (bit x) b k.1)) t.1.1))

  signed_difference : (hi lo : ℤ) → IsGreatest (λ (x : List ℕ). IsPath 2 n x × (bit x ≡ 1)) score hi
      → IsGreatest (λ (x : List ℕ). IsPath 2 n x × (bit x ≡ 0)) score lo → IsSigned (bit sent) (hi -ℤ lo)
  signed_difference hi lo g h = record {
    one = λ b.
        let y : List ℕ = h.reached.0 in
        ⊎_elim (λ same. absurd (differ (bit y) (bit sent) h.reached.1.0.1 b (ap bit same)))
        (λ less. reaches hi lo (score sent) (score y) (g.bound sent (path, b)) h.reached.1.1 less) (lead y h.reached.1.0.0);
    zero = λ b.
        let y : List ℕ = g.reached.0 in
        ⊎_elim (λ same. absurd (differ (bit sent) (bit y) b g.reached.1.0.1 (sym (ap bit same))))
        (λ less. falls hi lo (score sent) (score y) (h.bound sent (path, b)) g.reached.1.1 less) (lead y g.reached.1.0.0);
  }

  -- where every other word scores less, the soft value has the sign of the word's bit
  pub signed_soft : IsSigned (slice_index sent j) (difference (top_from (λ x. slice_index x j == 1) score n []) (top_from (λ x. slice_index x j == 0) score n []))
  signed_soft =
      let hi = top_with 1 (omega arith) in
      let lo = top_with 0 (omega arith) in
      subst (IsSigned (bit sent)) (sym (ap₂ difference hi.1.0 lo.1.0)) (signed_difference hi.0 lo.0 hi.1.1 lo.1.1)

-- ---- what keeps a sign
pub signed_clamped : (bit : ℕ) (v : ℤ) → IsSigned bit v → IsSigned bit (clamped (v -ℤ pos 0))
signed_clamped bit v s = record {
  one = λ e. let h = s.one e in omega (arith, ints, clamps);
  zero = λ e. let h = s.zero e in omega (arith, ints, clamps);
}

pub signed_scaled : (s bit : ℕ) (v : ℤ) → 1 ≤ s → IsSigned bit v → IsSigned bit (scaled s v)
signed_scaled s bit (pos zero) low h = record {
  one = λ e. let w = h.one e in absurd (omega (arith, ints));
  zero = λ e. let w = h.zero e in absurd (omega (arith, ints));
}
signed_scaled s bit (pos (suc n)) low h = record {
  one = λ e. let some = eighths-pos (suc n) s low (omega arith) in omega (arith, ints);
  zero = λ e. let w = h.zero e in absurd (omega (arith, ints));
}
signed_scaled s bit (negsuc n) low h = record {
  one = λ e. let w = h.one e in absurd (omega (arith, ints));
  zero = λ e. let some = eighths-pos (suc n) s low (omega arith) in omega (arith, ints);
}

pub signed_hard : (b : ℕ) (v : ℤ) → b < 2 → IsSigned b v → hard_bit v ≡ b
signed_hard zero (pos zero) h s = refl
signed_hard zero (pos (suc k)) h s = let w = s.zero refl in absurd (omega (arith, ints))
signed_hard zero (negsuc k) h s = refl
signed_hard (suc zero) (pos zero) h s = let w = s.one refl in absurd (omega (arith, ints))
signed_hard (suc zero) (pos (suc k)) h s = refl
signed_hard (suc zero) (negsuc k) h s = let w = s.one refl in absurd (omega (arith, ints))
signed_hard (suc (suc b)) v h s = absurd (omega arith)
