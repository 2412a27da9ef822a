-- The path of a word, step by step.
use Rattle.std.proofs.Common.{◌≡◌, ℕ, zero, suc, ◌+◌, ◌*◌, ◌<◌, ◌≤◌, sym, ◌∙◌, ap, subst, refl, arith, ℤ, pos, ◌+ℤ◌, List, [], ◌∷◌, ◌++◌, length, take, get_or, Bool, add-one, zero-add}
use Rattle.std.proofs.lemmas.Int.{ints}
use Rattle.std.proofs.Math.Seq.{take-suc}
use Rattle.hpe_base.specs.Bits.{AreBits}
use Rattle.hpe_base.specs.Trellis.{walk, ends, IsPath}
use Rattle.hpe_base.proofs.Trellis.{walk-append, ends-append, ends-below, path-length, bits_path}
use Rattle.hpe_base.specs.Sizes.{Within, AllWithin}
use Rattle.hpe_base.specs.Termination.{terminated}
use Rattle.hpe_lane.specs.OuterStage.{outer_next}
use Rattle.hpe_lane.proofs.OuterEdges.{outer-stays}
use Rattle.hpe_lane.proofs.Sizes.{wider}
use Rattle.hpe_trellis.specs.OuterTrellis.{kept_before, outer_edge}
use Rattle.hpe_trellis.proofs.Bounds.{kept_count, kept-count-all, outer-walk-within}
use Rattle.hpe_trellis.proofs.Recursion.{before-mono}
use Rattle.hpe_trellis.proofs.Runs.{free-path}

-- a path of no steps
pub path-none : (size : ℕ) (us : List ℕ) → IsPath size 0 us → us ≡ []
path-none size [] h = refl
path-none size (u ∷ us) h = absurd h

-- the first steps of a path are one
pub take-path : (size n t : ℕ) (us : List ℕ) → t ≤ n → IsPath size n us → IsPath size t (take t us)
take-path size n zero us le h = tt
take-path size zero (suc t) us le h = absurd (omega arith)
take-path size (suc n) (suc t) [] le h = absurd h
take-path size (suc n) (suc t) (u ∷ us) le h = (h.0, take-path size n t us (omega arith) h.1)

take_more : (t : ℕ) (us : List ℕ) → t < length us → take (t + 1) us ≡ take t us ++ get_or us t 0 ∷ []
take_more t us h = ap (λ (k : ℕ). take k us) (add-one t) ∙ take-suc us t 0 h

add_none : (w e : ℤ) → w +ℤ (e +ℤ pos 0) ≡ w +ℤ e
add_none w e = omega (arith, ints)

module _ (edge : ℕ → ℕ → ℕ → ℤ) (next : ℕ → ℕ → ℕ) (size n : ℕ) (us : List ℕ) (path : IsPath size n us) (t : ℕ) (lt : t < n) where
  long : t < length us
  long = let e = path-length size n us path in omega arith

  -- a step more of a path
  pub walk-more : (p : ℕ) → walk edge next 0 p (take (t + 1) us) ≡ walk edge next 0 p (take t us) +ℤ edge t (ends next p (take t us)) (get_or us t 0)
  walk-more p =
      let front = take-path size n t us (omega arith) path in
      ap (walk edge next 0 p) (take_more t us long)
      ∙ walk-append edge next 0 p (take t us) (get_or us t 0 ∷ [])
      ∙ ap (λ (k : ℕ). walk edge next 0 p (take t us) +ℤ (edge k (ends next p (take t us)) (get_or us t 0) +ℤ pos 0)) (zero-add (length (take t us)) ∙ path-length size t (take t us) front)
      ∙ add_none (walk edge next 0 p (take t us)) (edge t (ends next p (take t us)) (get_or us t 0))

  -- and the state after it
  pub ends-more : (p : ℕ) → ends next p (take (t + 1) us) ≡ next (ends next p (take t us)) (get_or us t 0)
  ends-more p = ap (ends next p) (take_more t us long) ∙ ends-append next p (take t us) (get_or us t 0 ∷ [])

-- the word and the two bits that end it, as a path
pub word-path : (u : List ℕ) → AreBits u → IsPath 2 (length u + 2) (terminated u)
word-path u h = free-path (length u) u (bits_path u h)

-- the state after the first steps
pub state-low : (n t : ℕ) (us : List ℕ) → t ≤ n → IsPath 2 n us → ends outer_next 0 (take t us) < 4
state-low n t us le h = ends-below 2 4 t outer_next outer-stays 0 (take t us) (omega arith) (take-path 2 n t us le h)

few_within : (k : ℕ) (z : ℤ) → k ≤ 15120 → Within (k * 16383) z → Within 247710960 z
few_within k z le h = wider (k * 16383) 247710960 z (omega arith) h

-- what the first steps score
pub score-within : (columns : List (List Bool)) (l : List ℤ) (n t : ℕ) (us : List ℕ) → AllWithin 16383 l → kept_before columns n ≤ 15120 → t ≤ n → IsPath 2 n us
    → Within 247710960 (walk (outer_edge columns l) outer_next 0 0 (take t us))
score-within columns l n t us within cap le h =
    let m : kept_before columns t ≤ kept_before columns n = before-mono columns n t le in
    few_within (kept_count columns 0 t) (walk (outer_edge columns l) outer_next 0 0 (take t us)) (subst (λ (k : ℕ). k ≤ 15120) (sym (kept-count-all columns t)) (omega arith))
    (outer-walk-within columns l within t 0 0 (take t us) (take-path 2 n t us le h))
