-- Along a path the potential rises by at least what the path scores.
use Rattle.std.proofs.Common.{◌≡◌, ℕ, zero, suc, ◌+◌, ◌<◌, ◌≤◌, ⊎_elim, get_or, sym, ◌∙◌, ap, subst, arith, ℤ, pos, ◌+ℤ◌, ◌≤ℤ◌, ◌<ℤ◌, List, [], ◌∷◌, ◌++◌, length, Bool, add-zero}
use Rattle.std.proofs.lemmas.Int.{ints}
use Rattle.std.proofs.lemmas.Bool.{cases_lt}
use Rattle.hpe_base.specs.Trellis.{walk, ends, IsPath}
use Rattle.hpe_base.specs.PathScores.{outer_score}
use Rattle.hpe_base.proofs.Trellis.{bits_path}
use Rattle.hpe_lane.specs.OuterStage.{outer_next}
use Rattle.hpe_lane.proofs.OuterEdges.{outer-stays}
use Rattle.hpe_trellis.specs.OuterTrellis.{outer_edge}
use Rattle.hpe_trellis.proofs.KeptBits.{outer-score-is}
use Rattle.hpe_trellis.proofs.Recursion.{StepIs}
use Rattle.hpe_trellis.proofs.Runs.{free-path, free-ends}
use Rattle.hpe_witness.specs.Potentials.{potential, IsRising, FallsSomewhere, RisesAlong, FallsAlong}
use Rattle.hpe_witness.specs.PathCheck.{IsBestScore}

ends_here : (a : ℤ) → (a +ℤ pos 0) ≤ℤ a
ends_here a = omega (arith, ints)

goes_on : (a e w b c : ℤ) → (a +ℤ e) ≤ℤ b → (b +ℤ w) ≤ℤ c → (a +ℤ (e +ℤ w)) ≤ℤ c
goes_on a e w b c h k = omega (arith, ints)

step_on : (t n : ℕ) → t + 1 + n ≡ t + suc n
step_on t n = omega arith

module _ (columns : List (List Bool)) (l : List ℤ) (rows : List (List ℤ)) (steps : ℕ) (rising : IsRising columns l steps rows) where
  pub path-rises : (n t p : ℕ) (us : List ℕ) → t + n ≤ steps → p < 4 → IsPath 2 n us
      → (potential rows t p +ℤ walk (outer_edge columns l) outer_next t p us) ≤ℤ potential rows (t + n) (ends outer_next p us)
  path-rises zero t p [] le low h = subst (λ (k : ℕ). (potential rows t p +ℤ pos 0) ≤ℤ potential rows k p) (sym (add-zero t)) (ends_here (potential rows t p))
  path-rises zero t p (u ∷ us) le low h = absurd h
  path-rises (suc n) t p [] le low h = absurd h
  path-rises (suc n) t p (u ∷ us) le low h =
      subst (λ (k : ℕ). (potential rows t p +ℤ (outer_edge columns l t p u +ℤ walk (outer_edge columns l) outer_next (t + 1) (outer_next p u) us)) ≤ℤ potential rows k (ends outer_next (outer_next p u) us)) (step_on t n)
      (goes_on (potential rows t p) (outer_edge columns l t p u) (walk (outer_edge columns l) outer_next (t + 1) (outer_next p u) us) (potential rows (t + 1) (outer_next p u)) (potential rows (t + 1 + n) (ends outer_next (outer_next p u) us))
      (rising.each t p u (omega arith) low h.0) (path-rises n (t + 1) (outer_next p u) us (omega arith) (outer-stays p u low h.0) h.1))

from_none : (a b c z : ℤ) → a ≡ pos 0 → (a +ℤ b) ≤ℤ c → c ≡ z → b ≤ℤ z
from_none a b c z e h f = omega (arith, ints)

-- so no word scores more than the last potential of state 0
pub best-score : (columns : List (List Bool)) (l : List ℤ) (u : List ℕ) (rows : List (List ℤ)) (b : ℤ)
    → potential rows 0 0 ≡ pos 0 → IsRising columns l (length u + 2) rows → outer_score columns l u ≡ b → potential rows (length u + 2) 0 ≡ b → IsBestScore columns l u b
best-score columns l u rows b start rising is end = record {
  score = is;
  best = λ v free.
      let n : ℕ = length u in
      let path : IsPath 2 n v = subst (λ (k : ℕ). IsPath 2 k v) free.long (bits_path v free.bits) in
      let whole : IsPath 2 (n + 2) (v ++ 0 ∷ 0 ∷ []) = free-path n v path in
      let rise = path-rises columns l rows (n + 2) rising (n + 2) 0 0 (v ++ 0 ∷ 0 ∷ []) (omega arith) (omega arith) whole in
      let last : potential rows (0 + (n + 2)) (ends outer_next 0 (v ++ 0 ∷ 0 ∷ [])) ≡ b =
      ap (λ (q : ℕ). potential rows (0 + (n + 2)) q) (free-ends n v path) ∙ ap (λ (k : ℕ). potential rows k 0) (let z : 0 + (n + 2) ≡ n + 2 = omega arith in z) ∙ end in
      subst (λ (z : ℤ). z ≤ℤ b) (sym (outer-score-is columns l (n + 2) (v ++ 0 ∷ 0 ∷ []) whole))
      (from_none (potential rows 0 0) (walk (outer_edge columns l) outer_next 0 0 (v ++ 0 ∷ 0 ∷ [])) (potential rows (0 + (n + 2)) (ends outer_next 0 (v ++ 0 ∷ 0 ∷ []))) b start rise last);
}

two_inputs : (P : ℕ → Type 0) → P 0 → P 1 → (x : ℕ) → x < 2 → P x
two_inputs P a b zero h = a
two_inputs P a b (suc zero) h = b
two_inputs P a b (suc (suc x)) h = absurd (omega arith)

-- one state more
pub along-more : (row l next : List ℤ) (s : ℕ) → ((p x : ℕ) → p < s → x < 2 → RisesAlong row l next p x) → RisesAlong row l next s 0 → RisesAlong row l next s 1
    → (p x : ℕ) → p < s + 1 → x < 2 → RisesAlong row l next p x
along-more row l next s before a b p x lt low =
    ⊎_elim (λ (h : p < s). before p x h low)
    (λ (h : s ≤ p). let e : s ≡ p = omega arith in subst (λ (k : ℕ). RisesAlong row l next k x) e (two_inputs (RisesAlong row l next s) a b x low))
    (cases_lt p s)

-- one step more
pub rising-more : (columns : List (List Bool)) (l : List ℤ) (t : ℕ) (r : List ℤ) (rows : List (List ℤ)) → StepIs columns l t r → IsRising columns l t rows
    → ((p x : ℕ) → p < 4 → x < 2 → RisesAlong (get_or rows t []) r (get_or rows (t + 1) []) p x) → IsRising columns l (t + 1) rows
rising-more columns l t r rows same before here = record {
  each = λ s p x lt lp lx.
      ⊎_elim (λ (h : s < t). before.each s p x h lp lx)
      (λ (h : t ≤ s). let e : t ≡ s = omega arith in
      subst (λ (k : ℕ). (potential rows k p +ℤ outer_edge columns l k p x) ≤ℤ potential rows (k + 1) (outer_next p x)) e
      (subst (λ (z : ℤ). (potential rows t p +ℤ z) ≤ℤ potential rows (t + 1) (outer_next p x)) (same p x) (here p x lp lx)))
      (cases_lt s t);
}

-- an edge of a step along which it falls
pub falls-here : (columns : List (List Bool)) (l : List ℤ) (n t : ℕ) (r : List ℤ) (rows : List (List ℤ)) → StepIs columns l t r → t < n
    → FallsAlong (get_or rows t []) r (get_or rows (t + 1) []) → FallsSomewhere columns l n rows
falls-here columns l n t r rows same lt h = record {
  step = t;
  state = h.state;
  input = h.input;
  step_low = lt;
  state_low = h.state_low;
  input_low = h.input_low;
  falls = subst (λ (z : ℤ). potential rows (t + 1) (outer_next h.state h.input) <ℤ (potential rows t h.state +ℤ z)) (same h.state h.input) h.falls;
}
