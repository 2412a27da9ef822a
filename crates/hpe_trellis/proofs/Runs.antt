-- What the rows meet in is the top score of all free words.
use Rattle.std.proofs.Common.{◌≡◌, ℕ, zero, suc, ◌+◌, ◌-◌, ◌*◌, ◌/◌, ◌%◌, ◌<◌, ◌≤◌, ◌⊎◌, inl, inr, ⊎_elim, sym, ◌∙◌, ap, ap₂, subst, refl, arith, ℤ, pos, negsuc, ◌+ℤ◌, ◌-ℤ◌, ◌≤ℤ◌, ◌<ℤ◌, List, [], ◌∷◌, ◌++◌, length, get_or, Bool, true, Option, Some, replicate, add-zero, zero-add, append_assoc, eq-eqb}
use Rattle.std.specs.Prelude.{nat_eq, IsSome}
use Rattle.std.proofs.lemmas.Int.{ints}
use Rattle.std.proofs.lemmas.Bool.{eqb-true, cases_lt}
use Rattle.std.proofs.Math.ListN.{get_or-append}
use Rattle.std.proofs.lemmas.List.{get_or-append-add}
use Rattle.hpe_base.specs.Greatest.{IsGreatest, IsSoft}
use Rattle.hpe_base.specs.Trellis.{walk, ends, IsPath, IsEdge, state_at}
use Rattle.hpe_base.specs.GreatestScores.{top_from, information_top, code_top}
use Rattle.hpe_base.specs.SoftValues.{difference, information_soft_value, code_soft_value}
use Rattle.hpe_base.proofs.Greatest.{IsGreatest-exclude, IsGreatest-carry}
use Rattle.hpe_base.proofs.Trellis.{IsRun, cut, path-append, path-length, ends-append, ends-below, state-append, input-append, meet, replicate-path, stage-suc, zero-walk-zero}
use Rattle.hpe_base.proofs.GreatestScores.{top-is}
use Rattle.hpe_base.specs.Sizes.{number_at, Within, AllWithin}
use Rattle.hpe_base.specs.ConvolutionalCode.{selected, code_bits}
use Rattle.hpe_base.specs.PathScores.{outer_score}
use Rattle.hpe_lane.specs.OuterStage.{edge_outputs, outer_next}
use Rattle.hpe_lane.proofs.OuterEdges.{outer-stays}
use Rattle.hpe_trellis.proofs.KeptBits.{outer-score-is, kept_from, code_bits-are, halves, parity}
use Rattle.hpe_trellis.specs.OuterTrellis.{column, width, kept_before, outer_edge, outer_start, OuterFore, OuterBack, IsInformationSoft, IsCodeSoft}
use Rattle.hpe_trellis.proofs.Bounds.{kept_count, kept-count-all, outer-walk-within, start_cases, start_high}
use Rattle.hpe_base.proofs.Selected.{length-selected-same, selected-all}

assoc3 : (a b c : ℕ) → a + b + c ≡ a + (b + c)
assoc3 a b c = omega arith

-- bit `i` of what step `t` keeps from state `p` on input `x`
abbrev pub code_bit : List (List Bool) → ℕ → ℕ → ℕ → ℕ → ℕ
code_bit columns t i p x = get_or (selected (column columns t) (edge_outputs p x)) i 0

-- it is the bit that is kept there, among those that are kept from step t on
pub kept-bit : (columns : List (List Bool)) (s n t p i : ℕ) (us : List ℕ) → p < 4 → IsPath 2 n us → s < n → i < width columns (t + s)
    → get_or (kept_from columns t (p / 2) (p % 2) us) (kept_count columns t s + i) 0 ≡ code_bit columns (t + s) i (state_at outer_next p us s) (get_or us s 0)
kept-bit columns s zero t p i us low h lt li = absurd (omega arith)
kept-bit columns s (suc n) t p i [] low h lt li = absurd h
kept-bit columns zero (suc n) t p i (x ∷ us) low h lt li =
    let F : List ℕ = selected (column columns t) (edge_outputs p x) in
    let long : length F ≡ width columns t = length-selected-same (column columns t) (edge_outputs p x) (0 ∷ 0 ∷ 0 ∷ []) refl in
    let li2 : i < width columns t = subst (λ (k : ℕ). i < width columns k) (add-zero t) li in
    let li3 : i < length F = subst (λ (k : ℕ). i < k) (sym long) li2 in
    ap (λ (k : ℕ). get_or (F ++ kept_from columns (t + 1) x (p / 2) us) k 0) (zero-add i)
    ∙ get_or-append F (kept_from columns (t + 1) x (p / 2) us) 0 i li3
    ∙ ap (λ (k : ℕ). code_bit columns k i p x) (sym (add-zero t))
kept-bit columns (suc s) (suc n) t p i (x ∷ us) low h lt li =
    let F : List ℕ = selected (column columns t) (edge_outputs p x) in
    let q : ℕ = 2 * x + p / 2 in
    let long : length F ≡ width columns t = length-selected-same (column columns t) (edge_outputs p x) (0 ∷ 0 ∷ 0 ∷ []) refl in
    let rest : List ℕ = kept_from columns (t + 1) x (p / 2) us in
    let states : rest ≡ kept_from columns (t + 1) (q / 2) (q % 2) us = ap₂ (λ (a b : ℕ). kept_from columns (t + 1) a b us) (sym (halves x p low)) (sym (parity x p low)) in
    let li2 : i < width columns (t + 1 + s) = subst (λ (k : ℕ). i < width columns k) (stage-suc t s) li in
    ap (λ (k : ℕ). get_or (F ++ rest) k 0) (assoc3 (width columns t) (kept_count columns (t + 1) s) i ∙ ap (λ (k : ℕ). k + (kept_count columns (t + 1) s + i)) (sym long))
    ∙ get_or-append-add F rest (kept_count columns (t + 1) s + i) 0
    ∙ ap (λ (ys : List ℕ). get_or ys (kept_count columns (t + 1) s + i) 0) states
    ∙ kept-bit columns s n (t + 1) q i us (outer-stays p x low h.0) h.1 (omega arith) li2
    ∙ ap (λ (k : ℕ). code_bit columns k i (state_at outer_next q us s) (get_or us s 0)) (sym (stage-suc t s))

-- the same of a whole word
pub code-bit-is : (columns : List (List Bool)) (n t i : ℕ) (us : List ℕ) → IsPath 2 n us → t < n → i < width columns t
    → get_or (code_bits columns us) (kept_before columns t + i) 0 ≡ code_bit columns t i (state_at outer_next 0 us t) (get_or us t 0)
code-bit-is columns n t i us h lt li =
    ap (λ (ks : List ℕ). get_or ks (kept_before columns t + i) 0) (code_bits-are columns us)
    ∙ ap (λ (k : ℕ). get_or (kept_from columns 0 0 0 us) (k + i) 0) (sym (kept-count-all columns t))
    ∙ kept-bit columns t n 0 0 i us (omega arith) h lt (subst (λ (k : ℕ). i < width columns k) (sym (zero-add t)) li)
    ∙ ap (λ (k : ℕ). code_bit columns k i (state_at outer_next 0 us t) (get_or us t 0)) (zero-add t)

pub free-path : (n : ℕ) (w : List ℕ) → IsPath 2 n w → IsPath 2 (n + 2) (w ++ 0 ∷ 0 ∷ [])
free-path n w h = path-append 2 n 2 w (0 ∷ 0 ∷ []) h (omega arith, (omega arith, tt))

to_zero : (p : ℕ) → p < 4 → 2 * 0 + (2 * 0 + p / 2) / 2 ≡ 0
to_zero p h = omega arith

pub free-ends : (n : ℕ) (w : List ℕ) → IsPath 2 n w → ends outer_next 0 (w ++ 0 ∷ 0 ∷ []) ≡ 0
free-ends n w h = ends-append outer_next 0 w (0 ∷ 0 ∷ []) ∙ to_zero (ends outer_next 0 w) (ends-below 2 4 n outer_next outer-stays 0 w (omega arith) h)

both_none : (p y z : ℕ) → p < 4 → y < 2 → z < 2 → 2 * z + (2 * y + p / 2) / 2 ≡ 0 → (y ≡ 0) × (z ≡ 0)
both_none p y z h k l e = (omega arith, omega arith)

last_two : (p y : ℕ) (rest : List ℕ) → p < 4 → y < 2 → IsPath 2 1 rest → ends outer_next p (y ∷ rest) ≡ 0 → y ∷ rest ≡ 0 ∷ 0 ∷ []
last_two p y [] low h k e = absurd k
last_two p y (z ∷ []) low h k e = let w = both_none p y z low h k.0 e in ap₂ (λ (a b : ℕ). a ∷ b ∷ []) w.0 w.1
last_two p y (z ∷ x ∷ rest) low h k e = absurd k.1

-- a run that ends in state 0 ends in two zeros
pub zero_ended : (n : ℕ) (us : List ℕ) → IsPath 2 (n + 2) us → ends outer_next 0 us ≡ 0 → (w : List ℕ) × (IsPath 2 n w × (us ≡ w ++ 0 ∷ 0 ∷ []))
zero_ended n us h e =
    let c = cut 2 n 1 us h in
    let p : ℕ = ends outer_next 0 c.front in
    let low : p < 4 = ends-below 2 4 n outer_next outer-stays 0 c.front (omega arith) c.front_path in
    let e2 : ends outer_next p (c.here ∷ c.rest) ≡ 0 = sym (ends-append outer_next 0 c.front (c.here ∷ c.rest)) ∙ ap (ends outer_next 0) (sym c.whole) ∙ e in
    (c.front, (c.front_path, c.whole ∙ ap (λ (vs : List ℕ). c.front ++ vs) (last_two p c.here c.rest low c.here_low c.rest_path e2)))

low_start : (n : ℕ) (w f : ℤ) → n ≤ 15120 → Within (n * 16383) w → f ≤ℤ pos 0 → ((negsuc 499999999 +ℤ w) +ℤ f) ≤ℤ negsuc 250000000
low_start n w f h k l = let a = k.0 in omega (arith, ints)

low_end : (n : ℕ) (w i : ℤ) → n ≤ 15120 → Within (n * 16383) w → i ≤ℤ pos 0 → ((i +ℤ w) +ℤ negsuc 499999999) ≤ℤ negsuc 250000000
low_end n w i h k l = let a = k.0 in omega (arith, ints)

high_real : (n : ℕ) (w : ℤ) → n ≤ 15120 → Within (n * 16383) w → negsuc 250000000 <ℤ ((pos 0 +ℤ w) +ℤ pos 0)
high_real n w h k = let a = k.1 in omega (arith, ints)

-- a word that a class has, as a run from state 0 to state 0
pub record Sample (n t : ℕ) (class : ℕ → ℕ → Type 0) : Type 0 where
  pub inputs : List ℕ
  pub path : IsPath 2 (n + 2) inputs
  pub ended : ends outer_next 0 inputs ≡ 0
  pub here : class (state_at outer_next 0 inputs t) (get_or inputs t 0)

module _ (columns : List (List Bool)) (l : List ℤ) (within : AllWithin 16383 l) (n t : ℕ) (cap : kept_before columns (n + 2) ≤ 15120)
    (class : ℕ → ℕ → Type 0) (asked : List ℕ → Bool) (sample : Sample n t class)
    (there : (w : List ℕ) → IsPath 2 n w → asked w ≡ true → class (state_at outer_next 0 (w ++ 0 ∷ 0 ∷ []) t) (get_or (w ++ 0 ∷ 0 ∷ []) t 0))
    (back : (w : List ℕ) → IsPath 2 n w → class (state_at outer_next 0 (w ++ 0 ∷ 0 ∷ []) t) (get_or (w ++ 0 ∷ 0 ∷ []) t 0) → asked w ≡ true) where
  abbrev Class : ℕ × List ℕ → Type 0
  Class r = class (state_at outer_next r.0 r.1 t) (get_or r.1 t 0)

  abbrev scored_run : ℕ × List ℕ → ℤ
  scored_run r = (outer_start r.0 +ℤ walk (outer_edge columns l) outer_next 0 r.0 r.1) +ℤ outer_start (ends outer_next r.0 r.1)

  -- the runs that are words' paths
  abbrev Real : ℕ × List ℕ → Type 0
  Real r = (IsRun 2 4 (n + 2) r × Class r) × ((r.0 ≡ 0) × (ends outer_next r.0 r.1 ≡ 0))

  walk_small : (p : ℕ) (us : List ℕ) → IsPath 2 (n + 2) us → Within (kept_before columns (n + 2) * 16383) (walk (outer_edge columns l) outer_next 0 p us)
  walk_small p us h = subst (λ (k : ℕ). Within (k * 16383) (walk (outer_edge columns l) outer_next 0 p us)) (kept-count-all columns (n + 2)) (outer-walk-within columns l within (n + 2) 0 p us h)

  -- the others score too little
  real_split : (r : ℕ × List ℕ) → IsRun 2 4 (n + 2) r × Class r → Real r ⊎ (scored_run r ≤ℤ negsuc 250000000)
  real_split r h =
      let w : ℤ = walk (outer_edge columns l) outer_next 0 r.0 r.1 in
      let k = walk_small r.0 r.1 h.0.1 in
      ⊎_elim
      (λ s. ⊎_elim
      (λ e. inl (h, (s, e)))
      (λ e. inr (subst (λ (f : ℤ). ((outer_start r.0 +ℤ w) +ℤ f) ≤ℤ negsuc 250000000) (sym e) (low_end (kept_before columns (n + 2)) w (outer_start r.0) cap k (start_high r.0))))
      (start_cases (ends outer_next r.0 r.1)))
      (λ s. inr (subst (λ (i : ℤ). ((i +ℤ w) +ℤ outer_start (ends outer_next r.0 r.1)) ≤ℤ negsuc 250000000) (sym s) (low_start (kept_before columns (n + 2)) w (outer_start (ends outer_next r.0 r.1)) cap k (start_high (ends outer_next r.0 r.1)))))
      (start_cases r.0)

  -- and some word scores more
  sample_high : negsuc 250000000 <ℤ scored_run (0, sample.inputs)
  sample_high =
      subst (λ (q : ℕ). negsuc 250000000 <ℤ ((pos 0 +ℤ walk (outer_edge columns l) outer_next 0 0 sample.inputs) +ℤ outer_start q)) (sym sample.ended)
      (high_real (kept_before columns (n + 2)) (walk (outer_edge columns l) outer_next 0 0 sample.inputs) cap (walk_small 0 sample.inputs sample.path))

  -- so the greatest of all runs is that of the words' paths
  only_real : (z : ℤ) → IsGreatest (λ (r : ℕ × List ℕ). IsRun 2 4 (n + 2) r × Class r) scored_run z → IsGreatest Real scored_run z
  only_real z g = IsGreatest-exclude (negsuc 250000000) real_split (λ r h. h.0) (0, sample.inputs) ((omega arith, sample.path), sample.here) sample_high g

  -- a word scores what its path does
  score_of : (w : List ℕ) → IsPath 2 n w → outer_score columns l w ≡ scored_run (0, w ++ 0 ∷ 0 ∷ [])
  score_of w h =
      outer-score-is columns l (n + 2) (w ++ 0 ∷ 0 ∷ []) (free-path n w h)
      ∙ sym (zero-walk-zero (walk (outer_edge columns l) outer_next 0 0 (w ++ 0 ∷ 0 ∷ [])))
      ∙ ap (λ (q : ℕ). (pos 0 +ℤ walk (outer_edge columns l) outer_next 0 0 (w ++ 0 ∷ 0 ∷ [])) +ℤ outer_start q) (sym (free-ends n w h))

  -- and is the greatest of the words
  words : (z : ℤ) → IsGreatest Real scored_run z → IsGreatest (λ (w : List ℕ). IsPath 2 n w × (asked w ≡ true)) (outer_score columns l) z
  words z g = IsGreatest-carry
      (λ r h.
      let e : ends outer_next 0 r.1 ≡ 0 = subst (λ (p : ℕ). ends outer_next p r.1 ≡ 0) h.1.0 h.1.1 in
      let f = zero_ended n r.1 h.0.0.1 e in
      let c : class (state_at outer_next 0 r.1 t) (get_or r.1 t 0) = subst (λ (p : ℕ). class (state_at outer_next p r.1 t) (get_or r.1 t 0)) h.1.0 h.0.1 in
      let c2 : class (state_at outer_next 0 (f.0 ++ 0 ∷ 0 ∷ []) t) (get_or (f.0 ++ 0 ∷ 0 ∷ []) t 0) = subst (λ (us : List ℕ). class (state_at outer_next 0 us t) (get_or us t 0)) f.1.1 c in
      (f.0, ((f.1.0, back f.0 f.1.0 c2), score_of f.0 f.1.0 ∙ ap (λ (us : List ℕ). scored_run (0, us)) (sym f.1.1) ∙ ap (λ (p : ℕ). scored_run (p, r.1)) (sym h.1.0))))
      (λ w h. ((0, w ++ 0 ∷ 0 ∷ []), ((((omega arith, free-path n w h.0), there w h.0 h.1), (refl, free-ends n w h.0)), sym (score_of w h.0))))
      g

  -- the greatest of all runs is the branching definition's top
  pub outer-top : (z : ℤ) → IsGreatest (λ (r : ℕ × List ℕ). IsRun 2 4 (n + 2) r × Class r) scored_run z → top_from asked (outer_score columns l) n [] ≡ Some z
  outer-top z g = top-is asked (outer_score columns l) n z (words z (only_real z g))

  module _ (left : ℕ) (all : t + suc left ≡ n + 2) (fore brow : List ℤ) (so_far : OuterFore t columns l fore) (later : OuterBack (t + 1) left columns l brow) where
    -- so a row, the edges of its step and a row from the other side meet in the top
    pub outer-meets : (z : ℤ)
        → IsGreatest (λ (e : ℕ × ℕ). IsEdge 2 4 e × class e.0 e.1) (λ e. number_at fore e.0 +ℤ (outer_edge columns l t e.0 e.1 +ℤ number_at brow (outer_next e.0 e.1))) z
        → top_from asked (outer_score columns l) n [] ≡ Some z
    outer-meets z best =
        let runs = meet 2 4 (outer_edge columns l) outer_next outer_start outer-stays outer_start class t left (number_at fore) (number_at brow)
        so_far.top later.top z best in
        outer-top z (subst (λ (k : ℕ). IsGreatest (λ (r : ℕ × List ℕ). IsRun 2 4 k r × Class r) scored_run z) all runs)

abbrev unit_run : ℕ → ℕ → ℕ → List ℕ
unit_run a b c = replicate a 0 ++ b ∷ 0 ∷ 0 ∷ replicate c 0

unit-path : (a b c : ℕ) → b < 2 → IsPath 2 (a + suc (suc (suc c))) (unit_run a b c)
unit-path a b c h = path-append 2 a (suc (suc (suc c))) (replicate a 0) (b ∷ 0 ∷ 0 ∷ replicate c 0) (replicate-path 2 a 0 (omega arith)) (h, (omega arith, (omega arith, replicate-path 2 c 0 (omega arith))))

zeros-end : (k : ℕ) → ends outer_next 0 (replicate k 0) ≡ 0
zeros-end zero = refl
zeros-end (suc k) = zeros-end k

bit_gone : (b p : ℕ) → b < 2 → p ≡ 0 → 2 * 0 + (2 * 0 + (2 * b + p / 2) / 2) / 2 ≡ 0
bit_gone b p h e = omega arith

bit_there : (b p : ℕ) → b < 2 → p ≡ 0 → 2 * 0 + (2 * b + p / 2) / 2 ≡ b
bit_there b p h e = omega arith

unit-ends : (a b c : ℕ) → b < 2 → ends outer_next 0 (unit_run a b c) ≡ 0
unit-ends a b c h =
    ends-append outer_next 0 (replicate a 0) (b ∷ 0 ∷ 0 ∷ replicate c 0)
    ∙ ap (λ (p : ℕ). ends outer_next p (replicate c 0)) (bit_gone b (ends outer_next 0 (replicate a 0)) h (zeros-end a))
    ∙ zeros-end c

unit-state : (a b c : ℕ) → state_at outer_next 0 (unit_run a b c) a ≡ 0
unit-state a b c = state-append outer_next 2 a 0 (replicate a 0) (b ∷ 0 ∷ 0 ∷ replicate c 0) (replicate-path 2 a 0 (omega arith)) ∙ zeros-end a

unit-input : (a b c : ℕ) → get_or (unit_run a b c) a 0 ≡ b
unit-input a b c = input-append 2 a b (replicate a 0) (0 ∷ 0 ∷ replicate c 0) (replicate-path 2 a 0 (omega arith))

regroup_unit : (a b c : ℕ) → unit_run a b c ≡ (replicate a 0 ++ b ∷ 0 ∷ []) ++ 0 ∷ replicate c 0
regroup_unit a b c = sym (append_assoc (replicate a 0) (b ∷ 0 ∷ []) (0 ∷ replicate c 0))

front-path : (a b : ℕ) → b < 2 → IsPath 2 (a + 2) (replicate a 0 ++ b ∷ 0 ∷ [])
front-path a b h = path-append 2 a 2 (replicate a 0) (b ∷ 0 ∷ []) (replicate-path 2 a 0 (omega arith)) (h, (omega arith, tt))

unit-state-2 : (a b c : ℕ) → b < 2 → state_at outer_next 0 (unit_run a b c) (a + 2) ≡ b
unit-state-2 a b c h =
    ap (λ (us : List ℕ). state_at outer_next 0 us (a + 2)) (regroup_unit a b c)
    ∙ state-append outer_next 2 (a + 2) 0 (replicate a 0 ++ b ∷ 0 ∷ []) (0 ∷ replicate c 0) (front-path a b h)
    ∙ ends-append outer_next 0 (replicate a 0) (b ∷ 0 ∷ [])
    ∙ bit_there b (ends outer_next 0 (replicate a 0)) h (zeros-end a)

unit-input-2 : (a b c : ℕ) → b < 2 → get_or (unit_run a b c) (a + 2) 0 ≡ 0
unit-input-2 a b c h =
    ap (λ (us : List ℕ). get_or us (a + 2) 0) (regroup_unit a b c)
    ∙ input-append 2 (a + 2) 0 (replicate a 0 ++ b ∷ 0 ∷ []) (replicate c 0) (front-path a b h)

three_alike : (x y z b k : ℕ) → x ≡ b → y ≡ b → z ≡ b → k < 3 → get_or (x ∷ y ∷ z ∷ []) k 0 ≡ b
three_alike x y z b zero e f g h = e
three_alike x y z b (suc zero) e f g h = f
three_alike x y z b (suc (suc zero)) e f g h = g
three_alike x y z b (suc (suc (suc k))) e f g h = absurd (omega arith)

outputs_first : (b k : ℕ) → b < 2 → k < 3 → get_or (edge_outputs 0 b) k 0 ≡ b
outputs_first b k h l = three_alike ((b + 0 % 2) % 2) ((b + 0 / 2 + 0 % 2) % 2) ((b + 0 / 2 + 0 % 2) % 2) b k (omega arith) (omega arith) (omega arith) l

outputs_last : (b k : ℕ) → b < 2 → k < 3 → get_or (edge_outputs b 0) k 0 ≡ b
outputs_last b k h l = three_alike ((0 + b % 2) % 2) ((0 + b / 2 + b % 2) % 2) ((0 + b / 2 + b % 2) % 2) b k (omega arith) (omega arith) (omega arith) l

-- the edges whose kept bit i is b
abbrev pub CodeClass : List (List Bool) → ℕ → ℕ → ℕ → ℕ → ℕ → Type 0
CodeClass columns t i b p x = code_bit columns t i p x ≡ b

-- an input b after zeros gives b as each output
class_first : (columns : List (List Bool)) (t i b : ℕ) → b < 2 → i < width columns t → code_bit columns t i 0 b ≡ b
class_first columns t i b h li =
    selected-all (column columns t) (edge_outputs 0 b) b i (λ k lt. outputs_first b k h lt)
    (subst (λ (k : ℕ). i < k) (length-selected-same (column columns t) (0 ∷ 0 ∷ 0 ∷ []) (edge_outputs 0 b) refl) li)

-- and again two steps later
class_last : (columns : List (List Bool)) (t i b : ℕ) → b < 2 → i < width columns t → code_bit columns t i b 0 ≡ b
class_last columns t i b h li =
    selected-all (column columns t) (edge_outputs b 0) b i (λ k lt. outputs_last b k h lt)
    (subst (λ (k : ℕ). i < k) (length-selected-same (column columns t) (0 ∷ 0 ∷ 0 ∷ []) (edge_outputs b 0) refl) li)

-- so there is a word with that bit, for a step with an information bit
sample_at : (columns : List (List Bool)) (a c n i b : ℕ) → b < 2 → i < width columns a → a + suc (suc (suc c)) ≡ n + 2 → Sample n a (CodeClass columns a i b)
sample_at columns a c n i b h li e = record {
  inputs = unit_run a b c;
  path = subst (λ (k : ℕ). IsPath 2 k (unit_run a b c)) e (unit-path a b c h);
  ended = unit-ends a b c h;
  here = ap₂ (λ (p x : ℕ). code_bit columns a i p x) (unit-state a b c) (unit-input a b c) ∙ class_first columns a i b h li;
}

-- for a step two after an information bit
sample_after : (columns : List (List Bool)) (a c n i b : ℕ) → b < 2 → i < width columns (a + 2) → a + suc (suc (suc c)) ≡ n + 2 → Sample n (a + 2) (CodeClass columns (a + 2) i b)
sample_after columns a c n i b h li e = record {
  inputs = unit_run a b c;
  path = subst (λ (k : ℕ). IsPath 2 k (unit_run a b c)) e (unit-path a b c h);
  ended = unit-ends a b c h;
  here = ap₂ (λ (p x : ℕ). code_bit columns (a + 2) i p x) (unit-state-2 a b c h) (unit-input-2 a b c h) ∙ class_last columns (a + 2) i b h li;
}

-- the words whose code bit j is b
abbrev code_asked : List (List Bool) → ℕ → ℕ → List ℕ → Bool
code_asked columns j b w = nat_eq (get_or (code_bits columns (w ++ 0 ∷ 0 ∷ [])) j 0) b

-- the words whose information bit j is b
abbrev info_asked : ℕ → ℕ → List ℕ → Bool
info_asked j b w = nat_eq (get_or w j 0) b

two_before : (t n : ℕ) → n ≤ t → 2 ≤ n → (t ≡ (t - 2) + 2)
two_before t n h k = omega arith

-- for each step
sample_code : (columns : List (List Bool)) (n t i b : ℕ) → 2 ≤ n → b < 2 → t < n + 2 → i < width columns t → Sample n t (CodeClass columns t i b)
sample_code columns n t i b two h lt li =
    ⊎_elim
    (λ (s : t < n). sample_at columns t (n - 1 - t) n i b h li (omega arith))
    (λ (s : n ≤ t).
    let e : t ≡ (t - 2) + 2 = two_before t n s two in
    let li2 : i < width columns ((t - 2) + 2) = subst (λ (k : ℕ). i < width columns k) e li in
    subst (λ (k : ℕ). Sample n k (CodeClass columns k i b)) (sym e) (sample_after columns (t - 2) (n + 1 - t) n i b h li2 (omega arith)))
    (cases_lt t n)

-- there is a word with information bit b
sample_info : (n t b : ℕ) → b < 2 → t < n → Sample n t (λ (p x : ℕ). x ≡ b)
sample_info n t b h lt =
    let c : ℕ = n - 1 - t in
    let e : t + suc (suc (suc c)) ≡ n + 2 = omega arith in
    record {
      inputs = unit_run t b c;
      path = subst (λ (k : ℕ). IsPath 2 k (unit_run t b c)) e (unit-path t b c h);
      ended = unit-ends t b c h;
      here = unit-input t b c;
    }

-- a word has the code bit that its edge has
code_there : (columns : List (List Bool)) (n t i b : ℕ) → t < n + 2 → i < width columns t
    → (w : List ℕ) → IsPath 2 n w → code_asked columns (kept_before columns t + i) b w ≡ true → code_bit columns t i (state_at outer_next 0 (w ++ 0 ∷ 0 ∷ []) t) (get_or (w ++ 0 ∷ 0 ∷ []) t 0) ≡ b
code_there columns n t i b lt li w h e =
    sym (code-bit-is columns (n + 2) t i (w ++ 0 ∷ 0 ∷ []) (free-path n w h) lt li) ∙ eqb-true (get_or (code_bits columns (w ++ 0 ∷ 0 ∷ [])) (kept_before columns t + i) 0) b e

-- and the other way round
code_back : (columns : List (List Bool)) (n t i b : ℕ) → t < n + 2 → i < width columns t
    → (w : List ℕ) → IsPath 2 n w → code_bit columns t i (state_at outer_next 0 (w ++ 0 ∷ 0 ∷ []) t) (get_or (w ++ 0 ∷ 0 ∷ []) t 0) ≡ b → code_asked columns (kept_before columns t + i) b w ≡ true
code_back columns n t i b lt li w h e =
    eq-eqb (get_or (code_bits columns (w ++ 0 ∷ 0 ∷ [])) (kept_before columns t + i) 0) b (code-bit-is columns (n + 2) t i (w ++ 0 ∷ 0 ∷ []) (free-path n w h) lt li ∙ e)

free_get : (n t : ℕ) (w : List ℕ) → IsPath 2 n w → t < n → get_or (w ++ 0 ∷ 0 ∷ []) t 0 ≡ get_or w t 0
free_get n t w h lt = let e = path-length 2 n w h in get_or-append w (0 ∷ 0 ∷ []) 0 t (omega arith)

-- both tops are there
both_tops : (top : ℕ → Option ℤ) (one none : ℤ) → top 1 ≡ Some one → top 0 ≡ Some none → (b : ℕ) → b < 2 → IsSome (top b)
both_tops top one none e f zero h = subst IsSome (sym f) refl
both_tops top one none e f (suc zero) h = subst IsSome (sym e) refl
both_tops top one none e f (suc (suc b)) h = absurd (omega arith)

-- the soft value is the difference of the tops
information-soft : (columns : List (List Bool)) (l : List ℤ) (n j : ℕ) (z one none : ℤ) → z ≡ one -ℤ none → information_top columns l n j 1 ≡ Some one → information_top columns l n j 0 ≡ Some none
    → IsInformationSoft columns l n j z
unfolding information_soft_value
information-soft columns l n j z one none e a b = record { tops = both_tops (information_top columns l n j) one none a b; value = e ∙ sym (ap₂ difference a b) }

code-soft : (columns : List (List Bool)) (l : List ℤ) (n i : ℕ) (z one none : ℤ) → z ≡ one -ℤ none → code_top columns l n i 1 ≡ Some one → code_top columns l n i 0 ≡ Some none
    → IsCodeSoft columns l n i z
unfolding code_soft_value
code-soft columns l n i z one none e a b = record { tops = both_tops (code_top columns l n i) one none a b; value = e ∙ sym (ap₂ difference a b) }

module _ (columns : List (List Bool)) (l : List ℤ) (within : AllWithin 16383 l) (n t : ℕ) (cap : kept_before columns (n + 2) ≤ 15120)
    (left : ℕ) (all : t + suc left ≡ n + 2) (fore brow : List ℤ) (so_far : OuterFore t columns l fore) (later : OuterBack (t + 1) left columns l brow) where
  abbrev edge_score : ℕ × ℕ → ℤ
  edge_score e = number_at fore e.0 +ℤ (outer_edge columns l t e.0 e.1 +ℤ number_at brow (outer_next e.0 e.1))

  -- the top of an information bit
  info_best : (b : ℕ) (z : ℤ) → b < 2 → t < n → IsGreatest (λ (e : ℕ × ℕ). IsEdge 2 4 e × (e.1 ≡ b)) edge_score z → information_top columns l n t b ≡ Some z
  unfolding information_top
  info_best b z h lt best =
      outer-meets columns l within n t cap (λ (p x : ℕ). x ≡ b) (info_asked t b) (sample_info n t b h lt)
      (λ w p e. free_get n t w p lt ∙ eqb-true (get_or w t 0) b e)
      (λ w p e. eq-eqb (get_or w t 0) b (sym (free_get n t w p lt) ∙ e))
      left all fore brow so_far later z best

  -- the soft value of an information bit
  pub soft-info : (z : ℤ) → t < n → IsSoft (IsEdge 2 4) (λ (e : ℕ × ℕ). e.1) edge_score z → IsInformationSoft columns l n t z
  soft-info z lt g =
      information-soft columns l n t z g.one g.zero g.value (info_best 1 g.one (omega arith) lt g.with_one) (info_best 0 g.zero (omega arith) lt g.with_zero)

  -- the top of a code bit
  code_best : (i b : ℕ) (z : ℤ) → 2 ≤ n → b < 2 → i < width columns t → IsGreatest (λ (e : ℕ × ℕ). IsEdge 2 4 e × (code_bit columns t i e.0 e.1 ≡ b)) edge_score z
      → code_top columns l n (kept_before columns t + i) b ≡ Some z
  unfolding code_top
  code_best i b z two h li best =
      let lt : t < n + 2 = omega arith in
      outer-meets columns l within n t cap (CodeClass columns t i b) (code_asked columns (kept_before columns t + i) b) (sample_code columns n t i b two h lt li)
      (code_there columns n t i b lt li) (code_back columns n t i b lt li)
      left all fore brow so_far later z best

  -- the soft value of a code bit
  pub soft-code : (i : ℕ) (z : ℤ) → 2 ≤ n → i < width columns t → IsSoft (IsEdge 2 4) (λ (e : ℕ × ℕ). code_bit columns t i e.0 e.1) edge_score z → IsCodeSoft columns l n (kept_before columns t + i) z
  soft-code i z two li g =
      code-soft columns l n (kept_before columns t + i) z g.one g.zero g.value (code_best i 1 g.one two (omega arith) li g.with_one) (code_best i 0 g.zero two (omega arith) li g.with_zero)
