-- The rows and the soft values, step by step.
use Rattle.std.proofs.Common.{◌≡◌, ◌≢◌, ℕ, zero, suc, ◌+◌, ◌-◌, ◌%◌, ◌<◌, ◌≤◌, ⊎_elim, sym, ◌∙◌, ap, ap₂, subst, refl, arith, ℤ, pos, negsuc, ◌+ℤ◌, List, [], ◌∷◌, length, drop, get_or, Bool, add-one}
use Rattle.std.proofs.lemmas.Bool.{cases_lt}
use Rattle.std.proofs.Math.Nat.{mod-add-mod, add-mod_right}
use Rattle.hpe_base.specs.Greatest.{IsGreatest, IsSoft}
use Rattle.hpe_base.specs.Trellis.{IsEdge}
use Rattle.hpe_base.specs.PathScores.{chosen_sum}
use Rattle.hpe_base.specs.Parameters.{flags_set}
use Rattle.hpe_base.proofs.KeptLength.{length-selected}
use Rattle.hpe_base.proofs.Greatest.{IsGreatest-widen}
use Rattle.hpe_base.proofs.Trellis.{Fore, Back, fore_first, fore_step, back_last, back_step}
use Rattle.hpe_base.specs.Sizes.{number_at, AllWithin}
use Rattle.hpe_base.specs.ConvolutionalCode.{selected}
use Rattle.hpe_lane.specs.OuterStage.{edge_outputs, outer_next, edge_sum, soft_bit}
use Rattle.hpe_lane.proofs.OuterEdges.{outer-stays}
use Rattle.hpe_lane.proofs.Soft.{IsGreatest-score, IsSoft-score}
use Rattle.hpe_trellis.specs.OuterTrellis.{column, width, kept_before, outer_edge, outer_start, OuterFore, OuterBack, IsInformationSoft, IsCodeSoft, SoftFrom, put_all}
use Rattle.hpe_lane.proofs.OuterEdges.{at_four}
use Rattle.hpe_trellis.proofs.Runs.{code_bit, soft-info, soft-code}
use Rattle.hpe_trellis.proofs.StepOutputs.{flag_index, selected-index, put-at, put-above}
use Rattle.hpe_base.proofs.Selected.{length-selected-same}

-- the soft value of equal bits
IsSoft-bits : {A : Type 0} {P : A → Type 0} {b c : A → ℕ} {f : A → ℤ} {z : ℤ} → ((x : A) → b x ≡ c x) → IsSoft P b f z → IsSoft P c f z
IsSoft-bits {A} {P} {b} {c} {f} {z} same g = record {
  one = g.one;
  zero = g.zero;
  with_one = IsGreatest-widen (λ x h. (h.0, sym (same x) ∙ h.1)) (λ x h. (h.0, same x ∙ h.1)) g.with_one;
  with_zero = IsGreatest-widen (λ x h. (h.0, sym (same x) ∙ h.1)) (λ x h. (h.0, same x ∙ h.1)) g.with_zero;
  value = g.value;
}

-- the row before the first step, and after the last
abbrev pub first_row : List ℤ
first_row = pos 0 ∷ negsuc 499999999 ∷ negsuc 499999999 ∷ negsuc 499999999 ∷ []

first_value : (q : ℕ) → q < 4 → outer_start q ≡ number_at first_row q
first_value = at_four (λ q. outer_start q ≡ number_at first_row q) refl refl refl refl

-- before the first step
pub OuterFore-first : (columns : List (List Bool)) (l : List ℤ) → OuterFore 0 columns l first_row
OuterFore-first columns l = record {
  top = λ q low. subst (Fore 2 4 (outer_edge columns l) outer_next outer_start 0 q) (first_value q low) (fore_first 2 4 (outer_edge columns l) outer_next outer_start q low);
}

-- after the last step
pub OuterBack-last : (columns : List (List Bool)) (l : List ℤ) (t : ℕ) → OuterBack t 0 columns l first_row
OuterBack-last columns l t = record {
  top = λ q low. subst (Back 2 (outer_edge columns l) outer_next outer_start t 0 q) (first_value q low) (back_last 2 (outer_edge columns l) outer_next outer_start t q);
}

-- the kernel's edges are those of the step
abbrev pub StepIs : List (List Bool) → List ℤ → ℕ → List ℤ → Type 0
StepIs columns l t r = (p x : ℕ) → edge_sum r p x ≡ outer_edge columns l t p x

-- one step on
pub OuterFore-more : (columns : List (List Bool)) (l : List ℤ) (t : ℕ) (r row next : List ℤ) → StepIs columns l t r → OuterFore t columns l row
    → ((q : ℕ) → q < 4 → IsGreatest (λ (e : ℕ × ℕ). IsEdge 2 4 e × (outer_next e.0 e.1 ≡ q)) (λ e. number_at row e.0 +ℤ edge_sum r e.0 e.1) (number_at next q))
    → OuterFore (t + 1) columns l next
OuterFore-more columns l t r row next same before best = record {
  top = λ q low. fore_step 2 4 (outer_edge columns l) outer_next outer_start outer-stays t q (number_at next q) (number_at row) before.top
      (IsGreatest-score (λ e p. ap (λ (z : ℤ). number_at row e.0 +ℤ z) (sym (same e.0 e.1))) (best q low));
}

-- one step back
pub OuterBack-more : (columns : List (List Bool)) (l : List ℤ) (t left : ℕ) (r row next : List ℤ) → StepIs columns l t r → OuterBack (t + 1) left columns l row
    → ((p : ℕ) → p < 4 → IsGreatest (λ (x : ℕ). x < 2) (λ x. edge_sum r p x +ℤ number_at row (outer_next p x)) (number_at next p))
    → OuterBack t (suc left) columns l next
OuterBack-more columns l t left r row next same later best = record {
  top = λ q h. back_step 2 4 (outer_edge columns l) outer_next outer_start outer-stays t left q (number_at next q) (number_at row) h later.top
      (IsGreatest-score (λ x p. ap (λ (z : ℤ). z +ℤ number_at row (outer_next q x)) (sym (same q x))) (best q h));
}

module _ (columns : List (List Bool)) (l : List ℤ) (within : AllWithin 16383 l) (n t : ℕ) (two : 2 ≤ n) (cap : kept_before columns (n + 2) ≤ 15120) (long : length l ≡ kept_before columns (n + 2))
    (left : ℕ) (all : t + suc left ≡ n + 2) (fore brow r soft : List ℤ) (same : StepIs columns l t r)
    (so_far : OuterFore t columns l fore) (later : OuterBack (t + 1) left columns l brow)
    (values : (k : ℕ) → k < 4 → IsSoft (IsEdge 2 4) (λ (e : ℕ × ℕ). soft_bit k e.0 e.1) (λ e. number_at fore e.0 +ℤ (edge_sum r e.0 e.1 +ℤ number_at brow (outer_next e.0 e.1))) (number_at soft k)) where
  values_are : (k : ℕ) → k < 4 → IsSoft (IsEdge 2 4) (λ (e : ℕ × ℕ). soft_bit k e.0 e.1) (λ e. number_at fore e.0 +ℤ (outer_edge columns l t e.0 e.1 +ℤ number_at brow (outer_next e.0 e.1))) (number_at soft k)
  values_are k h = IsSoft-score (λ e p. ap (λ (z : ℤ). number_at fore e.0 +ℤ (z +ℤ number_at brow (outer_next e.0 e.1))) (sym (same e.0 e.1))) (values k h)

  -- the soft value of the information bit of a step
  pub info-here : t < n → IsInformationSoft columns l n t (number_at soft 0)
  info-here lt = soft-info columns l within n t cap left all fore brow so_far later (number_at soft 0) lt (values_are 0 (omega arith))

  index_low : (i : ℕ) → i < width columns t → suc (flag_index (column columns t) i) < 4
  index_low i h = let w = selected-index (column columns t) (0 ∷ 0 ∷ 0 ∷ []) i h in omega (arith, w.0)

  -- the soft values of the code bits of a step
  pub code-here : (i : ℕ) → i < width columns t → IsCodeSoft columns l n (kept_before columns t + i) (number_at soft (suc (flag_index (column columns t) i)))
  code-here i h =
      let k : ℕ = suc (flag_index (column columns t) i) in
      let bit : (p x : ℕ) → soft_bit k p x ≡ code_bit columns t i p x = λ p x.
      sym (selected-index (column columns t) (edge_outputs p x) i (subst (λ (j : ℕ). i < j) (length-selected-same (column columns t) (0 ∷ 0 ∷ 0 ∷ []) (edge_outputs p x) refl) h)).1 in
      soft-code columns l within n t cap left all fore brow so_far later i (number_at soft k) two h (IsSoft-bits (λ e. bit e.0 e.1) (values_are k (index_low i h)))

-- later steps have more kept bits before them
pub before-mono : (columns : List (List Bool)) (n t : ℕ) → t ≤ n → kept_before columns t ≤ kept_before columns n
before-mono columns zero t h = let e : t ≡ 0 = omega arith in subst (λ (k : ℕ). kept_before columns k ≤ 0) (sym e) (omega arith)
before-mono columns (suc n) t h =
    ⊎_elim (λ (s : t < suc n). let r = before-mono columns n t (omega arith) in omega arith)
    (λ (s : suc n ≤ t). let e : t ≡ suc n = omega arith in subst (λ (k : ℕ). kept_before columns k ≤ kept_before columns (suc n)) (sym e) (omega arith))
    (cases_lt t (suc n))

-- the bits of a step are among those of all steps
pub step_room : (columns : List (List Bool)) (n t at len : ℕ) → t < n → at ≡ kept_before columns t → len ≡ kept_before columns n → at + width columns t ≤ len
step_room columns n t at len h e f = let m : kept_before columns (suc t) ≤ kept_before columns n = before-mono columns n (suc t) (omega arith) in omega arith

-- no step has more kept bits before it than there are
pub before_cap : (columns : List (List Bool)) (n t len : ℕ) → t ≤ n → len ≡ kept_before columns n → len ≤ 15120 → kept_before columns t ≤ 15120
before_cap columns n t len h e k = let m = before-mono columns n t h in omega arith

pub same_start : (s : ℕ) → s ≡ s + 0
same_start s = omega arith

pub next_start : (s i : ℕ) → s + i + 1 ≡ s + (i + 1)
next_start s i = omega arith

-- one step more
pub before_next : (columns : List (List Bool)) (t : ℕ) → kept_before columns (t + 1) ≡ kept_before columns t + width columns t
before_next columns t = ap (kept_before columns) (add-one t)

-- one step less
pub back_place : (columns : List (List Bool)) (t at w : ℕ) → 0 < t → at ≡ kept_before columns t → w ≡ width columns (t - 1) → (w ≤ at) × (at - w ≡ kept_before columns (t - 1))
back_place columns t at w h e f =
    let m : t ≡ t - 1 + 1 = omega arith in
    let g : at ≡ kept_before columns (t - 1) + width columns (t - 1) = e ∙ ap (kept_before columns) m ∙ before_next columns (t - 1) in
    (omega arith, omega arith)

-- the column of step t stands at its place
pub width_at : (columns : List (List Bool)) (t place : ℕ) → place ≡ t % length columns → length (get_or columns place []) ≡ 3 → flags_set (get_or columns place []) ≡ width columns t
width_at columns t place e h =
    sym (length-selected (get_or columns place []) (0 ∷ 0 ∷ 0 ∷ []) h) ∙ ap (λ (k : ℕ). length (selected (get_or columns k []) (0 ∷ 0 ∷ 0 ∷ []))) e

-- the numbers that are read at that column are those of the step
pub step_is : (columns : List (List Bool)) (l : List ℤ) (t place at : ℕ) (r : List ℤ) → place ≡ t % length columns → at ≡ kept_before columns t
    → ((p x : ℕ) → edge_sum r p x ≡ chosen_sum (drop at l) (selected (get_or columns place []) (edge_outputs p x))) → StepIs columns l t r
step_is columns l t place at r e f h p x = h p x ∙ ap₂ (λ (i k : ℕ). chosen_sum (drop k l) (selected (get_or columns i []) (edge_outputs p x))) e f

-- the place of the next column
pub place_on : (t len place : ℕ) → place ≡ t % len → (place + 1) % len ≡ (t + 1) % len
place_on t len place e = ap (λ (k : ℕ). (k + 1) % len) e ∙ mod-add-mod t len 1

-- and of the one before
pub place_back : (t len place : ℕ) → 0 < len → 0 < t → place ≡ t % len → (place + (len - 1)) % len ≡ (t - 1) % len
place_back t len place h k e =
    let m : t + (len - 1) ≡ t - 1 + len = omega arith in
    ap (λ (k : ℕ). (k + (len - 1)) % len) e ∙ mod-add-mod t len (len - 1) ∙ ap (λ (k : ℕ). k % len) m ∙ add-mod_right (t - 1) len

-- the values of the outputs, after that of the input
three_shift : (soft : List ℤ) (k : ℕ) → k < 3 → number_at (number_at soft 1 ∷ number_at soft 2 ∷ number_at soft 3 ∷ []) k ≡ number_at soft (suc k)
three_shift soft zero h = refl
three_shift soft (suc zero) h = refl
three_shift soft (suc (suc zero)) h = refl
three_shift soft (suc (suc (suc k))) h = absurd (omega arith)

split_place : (a j : ℕ) → a ≤ j → j ≡ a + (j - a)
split_place a j h = omega arith

-- one step back, the soft values reach one step further
pub SoftFrom-more : (columns : List (List Bool)) (l : List ℤ) (n t now : ℕ) (info code more soft : List ℤ) → length code ≡ length l → kept_before columns (t + 1) ≤ length l → now ≡ kept_before columns t
    → SoftFrom columns l n (t + 1) info code
    → (t < n → number_at more t ≡ number_at soft 0) → ((j : ℕ) → j ≢ t → number_at more j ≡ number_at info j)
    → (t < n → IsInformationSoft columns l n t (number_at soft 0)) → ((i : ℕ) → i < width columns t → IsCodeSoft columns l n (kept_before columns t + i) (number_at soft (suc (flag_index (column columns t) i))))
    → SoftFrom columns l n t more (put_all (column columns t) (number_at soft 1 ∷ number_at soft 2 ∷ number_at soft 3 ∷ []) code now)
SoftFrom-more columns l n t now info code more soft lc cap en s here others free bits =
    let ss : List ℤ = number_at soft 1 ∷ number_at soft 2 ∷ number_at soft 3 ∷ [] in
    let fs : List Bool = column columns t in
    let step = before_next columns t in
    record {
      information = λ j le lt.
          ⊎_elim
          (λ (h : t < j). let ne : j ≢ t = omega arith in subst (IsInformationSoft columns l n j) (sym (others j ne)) (s.information j (omega arith) lt))
          (λ (h : j ≤ t). let eq : t ≡ j = omega arith in
          subst (λ (k : ℕ). IsInformationSoft columns l n k (number_at more k)) eq (let below : t < n = omega arith in subst (IsInformationSoft columns l n t) (sym (here below)) (free below)))
          (cases_lt t j);
      code_bits = λ j le lt.
          ⊎_elim
          (λ (h : j < kept_before columns (t + 1)).
          let i : ℕ = j - now in
          let is : j ≡ now + i = split_place now j (omega arith) in
          let li : i < width columns t = omega arith in
          let low = selected-index fs (0 ∷ 0 ∷ 0 ∷ []) i li in
          let room : now + length (selected fs (0 ∷ 0 ∷ 0 ∷ [])) ≤ length code = omega arith in
          let value : number_at (put_all fs ss code now) (now + i) ≡ number_at soft (suc (flag_index fs i)) = put-at fs ss (0 ∷ 0 ∷ 0 ∷ []) code now i refl li room ∙ three_shift soft (flag_index fs i) low.0 in
          let at_place : IsCodeSoft columns l n (now + i) (number_at soft (suc (flag_index fs i))) = subst (λ (k : ℕ). IsCodeSoft columns l n (k + i) (number_at soft (suc (flag_index fs i)))) (sym en) (bits i li) in
          subst (λ (k : ℕ). IsCodeSoft columns l n k (number_at (put_all fs ss code now) k)) (sym is) (subst (IsCodeSoft columns l n (now + i)) (sym value) at_place))
          (λ (h : kept_before columns (t + 1) ≤ j).
          let past : now + length (selected fs (0 ∷ 0 ∷ 0 ∷ [])) ≤ j = omega arith in
          subst (IsCodeSoft columns l n j) (sym (put-above fs ss (0 ∷ 0 ∷ 0 ∷ []) code now j refl past)) (s.code_bits j h lt))
          (cases_lt j (kept_before columns (t + 1)));
    }
