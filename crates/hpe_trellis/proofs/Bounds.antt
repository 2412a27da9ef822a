-- How large the rows of the outer trellis are.
use Rattle.std.proofs.Common.{◌≡◌, ℕ, zero, suc, ◌+◌, ◌*◌, ◌/◌, ◌%◌, ◌<◌, ◌≤◌, ◌⊎◌, inl, inr, sym, ◌∙◌, ap, subst, refl, arith, ℤ, pos, negsuc, ◌+ℤ◌, ◌≤ℤ◌, List, [], ◌∷◌, ◌++◌, drop, Bool, replicate, add-zero, zero-add, add-one}
use Rattle.std.proofs.lemmas.Int.{ints}
use Rattle.hpe_base.specs.Trellis.{walk, ends, IsPath}
use Rattle.hpe_base.proofs.Greatest.{le_trans}
use Rattle.hpe_base.proofs.Trellis.{Fore, Back, IsRun, path-append, ends-append, ends-below, stage-suc, replicate-path}
use Rattle.hpe_base.specs.Sizes.{Within, AllWithin}
use Rattle.hpe_base.specs.ConvolutionalCode.{selected}
use Rattle.hpe_lane.specs.OuterStage.{edge_outputs, outer_next}
use Rattle.hpe_lane.proofs.ChosenSums.{chosen-within}
use Rattle.hpe_lane.proofs.Sizes.{zero_within, drop_within}
use Rattle.hpe_lane.proofs.OuterEdges.{outer-stays}
use Rattle.hpe_trellis.specs.OuterTrellis.{column, width, kept_before, outer_edge, outer_start}
use Rattle.hpe_base.proofs.Selected.{length-selected-same, selected-fits}

-- the code bits that are kept of n steps from step t on
abbrev pub kept_count : List (List Bool) → ℕ → ℕ → ℕ
kept_count columns t zero = 0
kept_count columns t (suc n) = width columns t + kept_count columns (t + 1) n

regroup : (a b c : ℕ) → a + (b + c) ≡ a + b + c
regroup a b c = omega arith

-- they stand after those before step t
pub kept-count : (columns : List (List Bool)) (t n : ℕ) → kept_before columns t + kept_count columns t n ≡ kept_before columns (t + n)
kept-count columns t zero = add-zero (kept_before columns t) ∙ ap (kept_before columns) (sym (add-zero t))
kept-count columns t (suc n) =
    regroup (kept_before columns t) (width columns t) (kept_count columns (t + 1) n)
    ∙ ap (λ (k : ℕ). kept_before columns k + kept_count columns (t + 1) n) (sym (add-one t))
    ∙ kept-count columns (t + 1) n
    ∙ ap (kept_before columns) (sym (stage-suc t n))

-- from step 0 on they are all
pub kept-count-all : (columns : List (List Bool)) (n : ℕ) → kept_count columns 0 n ≡ kept_before columns n
kept-count-all columns n = sym (zero-add (kept_count columns 0 n)) ∙ kept-count columns 0 n ∙ ap (kept_before columns) (zero-add n)

sum_within : (a b : ℕ) (x z : ℤ) → Within (a * 16383) x → Within (b * 16383) z → Within ((a + b) * 16383) (x +ℤ z)
sum_within a b x z h k = (let p = h.0 in let q = k.0 in omega (arith, ints), let p = h.1 in let q = k.1 in omega (arith, ints))

-- a step keeps three outputs at most
pub width-small : (columns : List (List Bool)) (t : ℕ) → width columns t ≤ 3
width-small columns t = selected-fits (column columns t) (0 ∷ 0 ∷ 0 ∷ [])

-- the first and the last state add nothing above 0
pub start_high : (q : ℕ) → outer_start q ≤ℤ pos 0
start_high zero = omega (arith, ints)
start_high (suc q) = omega (arith, ints)

-- and not less than this
start_low : (q : ℕ) → negsuc 499999999 ≤ℤ outer_start q
start_low zero = omega (arith, ints)
start_low (suc q) = omega (arith, ints)

-- they are 0, or cost so much
pub start_cases : (q : ℕ) → (q ≡ 0) ⊎ (outer_start q ≡ negsuc 499999999)
start_cases zero = inl refl
start_cases (suc q) = inr refl

-- the state that two inputs lead to
two_ends : (p a b : ℕ) → p < 4 → b < 2 → 2 * a + (2 * b + p / 2) / 2 ≡ 2 * a + b
two_ends p a b h k = omega arith

halves : (q : ℕ) → 2 * (q / 2) + q % 2 ≡ q
halves q = omega arith

one_end : (q : ℕ) → q < 4 → 2 * (q / 2) + 2 * (q % 2) / 2 ≡ q
one_end q h = omega arith

two_more : (t : ℕ) → t + 2 ≡ suc (suc t)
two_more t = omega arith

-- the last two inputs of a path decide the state that it ends in
pub ends-two : (t p a b : ℕ) → p < 4 → b < 2 → ends outer_next p (replicate t 0 ++ b ∷ a ∷ []) ≡ 2 * a + b
ends-two t p a b h k =
    ends-append outer_next p (replicate t 0) (b ∷ a ∷ [])
    ∙ two_ends (ends outer_next p (replicate t 0)) a b (ends-below 2 4 t outer_next outer-stays p (replicate t 0) h (replicate-path 2 t 0 (omega arith))) k

-- zeros and two inputs are a path
two-path : (t a b : ℕ) → a < 2 → b < 2 → IsPath 2 (suc (suc t)) (replicate t 0 ++ b ∷ a ∷ [])
two-path t a b h k = subst (λ (n : ℕ). IsPath 2 n (replicate t 0 ++ b ∷ a ∷ [])) (two_more t) (path-append 2 t 2 (replicate t 0) (b ∷ a ∷ []) (replicate-path 2 t 0 (omega arith)) (k, (h, tt)))

low_whole : (n : ℕ) (w : ℤ) → n ≤ 15120 → Within (n * 16383) w → negsuc 599999999 ≤ℤ (pos 0 +ℤ w)
low_whole n w h k = let a = k.1 in omega (arith, ints)

low_whole_r : (n : ℕ) (w : ℤ) → n ≤ 15120 → Within (n * 16383) w → negsuc 599999999 ≤ℤ (w +ℤ pos 0)
low_whole_r n w h k = let a = k.1 in omega (arith, ints)

low_one : (n : ℕ) (i w : ℤ) → n ≤ 3 → Within (n * 16383) w → negsuc 499999999 ≤ℤ i → negsuc 599999999 ≤ℤ (i +ℤ w)
low_one n i w h k l = let a = k.1 in omega (arith, ints)

low_one_r : (n : ℕ) (i w : ℤ) → n ≤ 3 → Within (n * 16383) w → negsuc 499999999 ≤ℤ i → negsuc 599999999 ≤ℤ (w +ℤ i)
low_one_r n i w h k l = let a = k.1 in omega (arith, ints)

low_none : (i : ℤ) → negsuc 499999999 ≤ℤ i → negsuc 599999999 ≤ℤ (i +ℤ pos 0)
low_none i h = omega (arith, ints)

low_none_r : (i : ℤ) → negsuc 499999999 ≤ℤ i → negsuc 599999999 ≤ℤ (pos 0 +ℤ i)
low_none_r i h = omega (arith, ints)

high_whole : (n : ℕ) (i w : ℤ) → n ≤ 15120 → Within (n * 16383) w → i ≤ℤ pos 0 → (i +ℤ w) ≤ℤ pos 600000000
high_whole n i w h k l = let a = k.0 in omega (arith, ints)

high_whole_r : (n : ℕ) (i w : ℤ) → n ≤ 15120 → Within (n * 16383) w → i ≤ℤ pos 0 → (w +ℤ i) ≤ℤ pos 600000000
high_whole_r n i w h k l = let a = k.0 in omega (arith, ints)

within_of : (z : ℤ) → z ≤ℤ pos 600000000 → negsuc 599999999 ≤ℤ z → Within 600000000 z
within_of z h k = (omega (arith, ints), omega (arith, ints))

one_wide : (w : ℕ) → w ≤ 3 → w + 0 ≤ 3
one_wide w h = omega arith

module _ (columns : List (List Bool)) (l : List ℤ) (within : AllWithin 16383 l) where
  -- how large what an edge scores is
  pub outer-edge-within : (t p x : ℕ) → Within (width columns t * 16383) (outer_edge columns l t p x)
  outer-edge-within t p x =
      subst (λ (k : ℕ). Within (k * 16383) (outer_edge columns l t p x)) (length-selected-same (column columns t) (edge_outputs p x) (0 ∷ 0 ∷ 0 ∷ []) refl)
      (chosen-within (drop (kept_before columns t) l) (selected (column columns t) (edge_outputs p x)) (drop_within 16383 (kept_before columns t) l within))

  -- how large what a path scores is
  pub outer-walk-within : (n t p : ℕ) (us : List ℕ) → IsPath 2 n us → Within (kept_count columns t n * 16383) (walk (outer_edge columns l) outer_next t p us)
  outer-walk-within zero t p [] h = zero_within (0 * 16383)
  outer-walk-within zero t p (u ∷ us) h = absurd h
  outer-walk-within (suc n) t p [] h = absurd h
  outer-walk-within (suc n) t p (u ∷ us) h =
      sum_within (width columns t) (kept_count columns (t + 1) n) (outer_edge columns l t p u) (walk (outer_edge columns l) outer_next (t + 1) (outer_next p u) us)
      (outer-edge-within t p u) (outer-walk-within n (t + 1) (outer_next p u) us h.1)

  -- a path to a state that scores no less than this
  abbrev LowRun : ℕ → ℕ → Type 0
  LowRun t q = (r : ℕ × List ℕ) × ((IsRun 2 4 t r × (ends outer_next r.0 r.1 ≡ q)) × (negsuc 599999999 ≤ℤ (outer_start r.0 +ℤ walk (outer_edge columns l) outer_next 0 r.0 r.1)))

  low_run : (t q : ℕ) → q < 4 → kept_count columns 0 t ≤ 15120 → LowRun t q
  low_run zero q h k = ((q, []), (((h, tt), refl), low_none (outer_start q) (start_low q)))
  low_run (suc zero) q h k =
      let us : List ℕ = (q / 2) ∷ [] in
      let path : IsPath 2 1 us = (omega arith, tt) in (
        (2 * (q % 2), us),
        (
          ((omega arith, path), one_end q h),
          low_one (width columns 0 + 0) (outer_start (2 * (q % 2))) (walk (outer_edge columns l) outer_next 0 (2 * (q % 2)) us) (one_wide (width columns 0) (width-small columns 0)) (outer-walk-within 1 0 (2 * (q % 2)) us path) (start_low (2 * (q % 2))),
        ),
      )
  low_run (suc (suc t)) q h k =
      let us : List ℕ = replicate t 0 ++ (q % 2) ∷ (q / 2) ∷ [] in
      let path : IsPath 2 (suc (suc t)) us = two-path t (q / 2) (q % 2) (omega arith) (omega arith) in (
        (0, us),
        (
          ((omega arith, path), ends-two t 0 (q / 2) (q % 2) (omega arith) (omega arith) ∙ halves q),
          low_whole (kept_count columns 0 (suc (suc t))) (walk (outer_edge columns l) outer_next 0 0 us) k (outer-walk-within (suc (suc t)) 0 0 us path),
        ),
      )

  -- the greatest score of all paths to a state is within the size of a row
  pub fore_fits : (t q : ℕ) (f : ℤ) → kept_before columns t ≤ 15120 → q < 4 → Fore 2 4 (outer_edge columns l) outer_next outer_start t q f → Within 600000000 f
  fore_fits t q f cap low g =
      let k : kept_count columns 0 t ≤ 15120 = subst (λ (n : ℕ). n ≤ 15120) (sym (kept-count-all columns t)) cap in
      let r = g.reached.0 in
      let s = low_run t q low k in
      within_of f
      (subst (λ (z : ℤ). z ≤ℤ pos 600000000) g.reached.1.1 (high_whole (kept_count columns 0 t) (outer_start r.0) (walk (outer_edge columns l) outer_next 0 r.0 r.1) k (outer-walk-within t 0 r.0 r.1 g.reached.1.0.0.1) (start_high r.0)))
      (le_trans _ _ _ s.1.1 (g.bound s.0 s.1.0))

  -- a path from a state on that scores no less than this
  abbrev LowPath : ℕ → ℕ → ℕ → Type 0
  LowPath t n p = (us : List ℕ) × (IsPath 2 n us × (negsuc 599999999 ≤ℤ (walk (outer_edge columns l) outer_next t p us +ℤ outer_start (ends outer_next p us))))

  low_path : (t n p : ℕ) → p < 4 → kept_count columns t n ≤ 15120 → LowPath t n p
  low_path t zero p h k = ([], (tt, low_none_r (outer_start p) (start_low p)))
  low_path t (suc zero) p h k =
      (0 ∷ [], ((omega arith, tt), low_one_r (width columns t + 0) (outer_start (outer_next p 0)) (walk (outer_edge columns l) outer_next t p (0 ∷ [])) (one_wide (width columns t) (width-small columns t)) (outer-walk-within 1 t p (0 ∷ []) (omega arith, tt)) (start_low (outer_next p 0))))
  low_path t (suc (suc n)) p h k =
      let us : List ℕ = replicate n 0 ++ 0 ∷ 0 ∷ [] in
      let path : IsPath 2 (suc (suc n)) us = two-path n 0 0 (omega arith) (omega arith) in
      let at : ends outer_next p us ≡ 0 = ends-two n p 0 0 h (omega arith) in (
        us,
        (
          path,
          subst (λ (q : ℕ). negsuc 599999999 ≤ℤ (walk (outer_edge columns l) outer_next t p us +ℤ outer_start q)) (sym at)
              (low_whole_r (kept_count columns t (suc (suc n))) (walk (outer_edge columns l) outer_next t p us) k (outer-walk-within (suc (suc n)) t p us path)),
        ),
      )

  part_small : (t n : ℕ) → kept_before columns (t + n) ≤ 15120 → kept_count columns t n ≤ 15120
  part_small t n h = let e = kept-count columns t n in omega arith

  -- and so is that of all paths from a state on
  pub back_fits : (t n p : ℕ) (b : ℤ) → kept_before columns (t + n) ≤ 15120 → p < 4 → Back 2 (outer_edge columns l) outer_next outer_start t n p b → Within 600000000 b
  back_fits t n p b cap low g =
      let k : kept_count columns t n ≤ 15120 = part_small t n cap in
      let us = g.reached.0 in
      let s = low_path t n p low k in
      within_of b
      (subst (λ (z : ℤ). z ≤ℤ pos 600000000) g.reached.1.1 (high_whole_r (kept_count columns t n) (outer_start (ends outer_next p us)) (walk (outer_edge columns l) outer_next t p us) k (outer-walk-within n t p us g.reached.1.0) (start_high (ends outer_next p us))))
      (le_trans _ _ _ s.1.1 (g.bound s.0 s.1.0))
