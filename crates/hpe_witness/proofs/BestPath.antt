-- The word that is traced back along the survivors is the best.
use Rattle.std.proofs.Common.{◌≡◌, ℕ, suc, ◌+◌, ◌*◌, ◌<◌, ◌≤◌, ◌⊎◌, inl, inr, ⊎_elim, sym, ◌∙◌, ap, ap₂, subst, refl, arith, ℤ, pos, negsuc, ◌+ℤ◌, ◌≤ℤ◌, List, [], ◌∷◌, ◌++◌, length, get_or, replicate, Bool}
use Rattle.std.proofs.lemmas.Int.{ints}
use Rattle.std.proofs.lemmas.List.{ext_get_or}
use Rattle.std.proofs.Math.ListN.{get_or-append}
use Rattle.hpe_base.specs.Trellis.{walk, ends, IsPath}
use Rattle.hpe_base.specs.PathScores.{outer_score}
use Rattle.hpe_base.specs.Sizes.{Within, AllWithin}
use Rattle.hpe_base.proofs.Trellis.{bits_path, path_bits, path-length, replicate-path}
use Rattle.hpe_lane.specs.OuterStage.{outer_next}
use Rattle.hpe_trellis.specs.OuterTrellis.{kept_before, outer_edge, outer_start}
use Rattle.hpe_trellis.proofs.Bounds.{kept-count-all, outer-walk-within, start_cases, fore_fits}
use Rattle.hpe_trellis.proofs.KeptBits.{outer-score-is}
use Rattle.hpe_trellis.proofs.Runs.{free-path, free-ends, zero_ended}
use Rattle.hpe_witness.specs.BestWord.{IsBefore, IsBest}
use Rattle.hpe_witness.specs.PathMetrics.{metric_after, path_metric, survivor, survivor_at, traced, begins}
use Rattle.hpe_witness.proofs.Before.{before-front, same-front, before-rest}
use Rattle.hpe_witness.proofs.Traceback.{extended, score-fore, traced-path, traced-ends, traced-score, traced-first}

-- the metrics before the first step, and after each
pub path_metric-first : (columns : List (List Bool)) (l : List ℤ) (q : ℕ) → path_metric columns l 0 q ≡ outer_start q
unfolding path_metric
path_metric-first columns l q = refl

pub path_metric-more : (columns : List (List Bool)) (l : List ℤ) (t q : ℕ) → path_metric columns l (suc t) q ≡ metric_after (path_metric columns l t) (outer_edge columns l t) q
unfolding path_metric
path_metric-more columns l t q = refl

tails : (u v : List ℕ) → 0 ∷ 0 ∷ u ≡ 0 ∷ 0 ∷ v → u ≡ v
tails u v e = cc

plain : (w : ℤ) → pos 0 +ℤ w ≡ w
plain w = omega (arith, ints)

-- a path that begins elsewhere scores less than any word
too_low : (k m : ℕ) (i w z s : ℤ) → k ≤ 15120 → m ≤ 15120 → i ≡ negsuc 499999999 → Within (k * 16383) w → Within (m * 16383) z → i +ℤ w ≡ s → (pos 0 +ℤ z) ≤ℤ s → ⊥
too_low k m i w z s lk lm e hw hz f g = let a = hw.0 in let b = hz.1 in omega (arith, ints)

module _ (columns : List (List Bool)) (l : List ℤ) (within : AllWithin 16383 l) where
  abbrev edge : ℕ → ℕ → ℕ → ℤ
  edge = outer_edge columns l

  abbrev score : ℕ → ℕ → ℤ
  score = path_metric columns l

  first : (q : ℕ) → score 0 q ≡ outer_start q
  first = path_metric-first columns l

  more : (t q : ℕ) → score (suc t) q ≡ metric_after (score t) (edge t) q
  more = path_metric-more columns l

  -- the metrics fit
  pub path_metric-fits : (t q : ℕ) → kept_before columns t ≤ 15120 → q < 4 → Within 600000000 (score t q)
  path_metric-fits t q cap low = fore_fits columns l within t q (score t q) cap low (score-fore edge score first more t q low)

  module _ (n : ℕ) (cap : kept_before columns (n + 2) ≤ 15120) where
    abbrev before : ℕ → ℕ → ℕ
    before t q = survivor (score t) (edge t) q

    abbrev way : List ℕ
    way = traced before (n + 2) 0

    walk_size : (p : ℕ) (us : List ℕ) → IsPath 2 (n + 2) us → Within (kept_before columns (n + 2) * 16383) (walk edge outer_next 0 p us)
    walk_size p us h = subst (λ (k : ℕ). Within (k * 16383) (walk edge outer_next 0 p us)) (kept-count-all columns (n + 2)) (outer-walk-within columns l within (n + 2) 0 p us h)

    way_path : IsPath 2 (n + 2) way
    way_path = traced-path edge score first more (n + 2) 0 (omega arith)

    -- what a word scores is a run's score
    word_score : (v : List ℕ) → IsPath 2 n v → outer_score columns l v ≡ outer_start 0 +ℤ walk edge outer_next 0 0 (v ++ 0 ∷ 0 ∷ [])
    word_score v h = outer-score-is columns l (n + 2) (v ++ 0 ∷ 0 ∷ []) (free-path n v h) ∙ sym (plain (walk edge outer_next 0 0 (v ++ 0 ∷ 0 ∷ [])))

    run_bound : (v : List ℕ) → IsPath 2 n v → (outer_start 0 +ℤ walk edge outer_next 0 0 (v ++ 0 ∷ 0 ∷ [])) ≤ℤ score (n + 2) 0
    run_bound v h = (score-fore edge score first more (n + 2) 0 (omega arith)).bound (0, v ++ 0 ∷ 0 ∷ []) ((omega arith, free-path n v h), free-ends n v h)

    -- the way begins in state 0
    way_begins : begins before (n + 2) 0 ≡ 0
    way_begins =
        let b : ℕ = begins before (n + 2) 0 in
        let v : List ℕ = replicate n 0 in
        let hv : IsPath 2 n v = replicate-path 2 n 0 (omega arith) in
        ⊎_elim (λ e. e)
        (λ e. absurd (too_low (kept_before columns (n + 2)) (kept_before columns (n + 2)) (outer_start b) (walk edge outer_next 0 b way) (walk edge outer_next 0 0 (v ++ 0 ∷ 0 ∷ [])) (score (n + 2) 0) cap cap e
        (walk_size b way way_path) (walk_size 0 (v ++ 0 ∷ 0 ∷ []) (free-path n v hv)) (traced-score edge score first more (n + 2) 0 (omega arith)) (run_bound v hv)))
        (start_cases b)

    way_ends : ends outer_next 0 way ≡ 0
    way_ends = ap (λ (k : ℕ). ends outer_next k way) (sym way_begins) ∙ traced-ends edge score first more (n + 2) 0 (omega arith)

    way_score : outer_start 0 +ℤ walk edge outer_next 0 0 way ≡ score (n + 2) 0
    way_score = ap (λ (k : ℕ). outer_start k +ℤ walk edge outer_next 0 k way) (sym way_begins) ∙ traced-score edge score first more (n + 2) 0 (omega arith)

    strip : (u v : List ℕ) → length u ≡ length v → way ≡ u ++ 0 ∷ 0 ∷ []
        → (extended (begins before (n + 2) 0) way ≡ extended 0 (v ++ 0 ∷ 0 ∷ [])) ⊎ IsBefore (extended (begins before (n + 2) 0) way) (extended 0 (v ++ 0 ∷ 0 ∷ []))
        → (u ≡ v) ⊎ IsBefore u v
    strip u v long whole h =
        let e : extended (begins before (n + 2) 0) way ≡ 0 ∷ 0 ∷ (u ++ 0 ∷ 0 ∷ []) = ap₂ extended way_begins whole in
        ⊎_elim
        (λ k. inl (tails u v (same-front (0 ∷ 0 ∷ u) (0 ∷ 0 ∷ v) (0 ∷ 0 ∷ []) (omega arith) (sym e ∙ k))))
        (λ k. inr (before-front u v (0 ∷ 0 ∷ []) long
        (before-rest 0 (u ++ 0 ∷ 0 ∷ []) (v ++ 0 ∷ 0 ∷ []) (before-rest 0 (0 ∷ (u ++ 0 ∷ 0 ∷ [])) (0 ∷ (v ++ 0 ∷ 0 ∷ [])) (subst (λ (xs : List ℕ). IsBefore xs (extended 0 (v ++ 0 ∷ 0 ∷ []))) e k)))))
        h

    -- the word of the way is the best
    best_of : (u : List ℕ) → IsPath 2 n u → way ≡ u ++ 0 ∷ 0 ∷ [] → IsBest columns l n u × (outer_score columns l u ≡ score (n + 2) 0)
    best_of u path whole =
        let us : outer_score columns l u ≡ score (n + 2) 0 = word_score u path ∙ ap (λ (xs : List ℕ). outer_start 0 +ℤ walk edge outer_next 0 0 xs) (sym whole) ∙ way_score in
        let best : IsBest columns l n u = record {
          free = record { bits = path_bits n u path; long = path-length 2 n u path };
          top = λ v free.
              let hv : IsPath 2 n v = subst (λ (k : ℕ). IsPath 2 k v) free.long (bits_path v free.bits) in
              subst (λ (z : ℤ). z ≤ℤ outer_score columns l u) (sym (word_score v hv))
              (subst (λ (z : ℤ). (outer_start 0 +ℤ walk edge outer_next 0 0 (v ++ 0 ∷ 0 ∷ [])) ≤ℤ z) (sym us) (run_bound v hv));
          first = λ v free same.
              let hv : IsPath 2 n v = subst (λ (k : ℕ). IsPath 2 k v) free.long (bits_path v free.bits) in
              let as_much : outer_start 0 +ℤ walk edge outer_next 0 0 (v ++ 0 ∷ 0 ∷ []) ≡ score (n + 2) 0 = sym (word_score v hv) ∙ same ∙ us in
              strip u v (path-length 2 n u path ∙ sym free.long) whole
              (traced-first edge score first more (n + 2) 0 0 (v ++ 0 ∷ 0 ∷ []) (omega arith) (omega arith) (free-path n v hv) (free-ends n v hv) as_much);
        } in
        (best, us)

    -- the word whose bits are those of the way
    pub way-is-best : (u : List ℕ) → length u ≡ n → ((j : ℕ) → j < n → get_or u j 0 ≡ get_or (traced (survivor_at columns l) (n + 2) 0) j 0)
        → IsBest columns l n u × (outer_score columns l u ≡ path_metric columns l (n + 2) 0)
    unfolding survivor_at
    way-is-best u long same =
        let f = zero_ended n way way_path way_ends in
        let flong : length f.0 ≡ n = path-length 2 n f.0 f.1.0 in
        let is : u ≡ f.0 = ext_get_or 0 u f.0 (long ∙ sym flong)
        (λ j lt. same j (omega arith) ∙ ap (λ (xs : List ℕ). get_or xs j 0) f.1.1 ∙ get_or-append f.0 (0 ∷ 0 ∷ []) 0 j (omega arith)) in
        subst (λ (xs : List ℕ). IsBest columns l n xs × (outer_score columns l xs ≡ score (n + 2) 0)) (sym is) (best_of f.0 f.1.0 f.1.1)
