-- Rows of path metrics, and the way back through them.
use Rattle.std.proofs.Common.{◌≡◌, ◌≢◌, ℕ, suc, ◌+◌, ◌/◌, ◌%◌, ◌<◌, ◌≤◌, ⊎_elim, sym, ◌∙◌, ap, ap₂, subst, refl, arith, ℤ, pos, negsuc, ◌+ℤ◌, ◌≤ℤ◌, List, [], ◌∷◌, ◌++◌, length, get_or, set, get_or-set_same, get_or-set_other, Bool, add-one, append_assoc}
use Rattle.std.proofs.lemmas.Bool.{cases_lt}
use Rattle.std.proofs.lemmas.List.{get_or_past}
use Rattle.hpe_base.specs.Trellis.{IsPath}
use Rattle.hpe_base.specs.Sizes.{number_at, Within, AllWithin}
use Rattle.hpe_base.proofs.Greatest.{IsGreatest-unique}
use Rattle.hpe_base.proofs.Trellis.{input-append}
use Rattle.hpe_base.proofs.Tabulated.{length-tabulate, get_or-tabulate, tabulate_from_places}
use Rattle.hpe_lane.specs.OuterStage.{outer_next, edge_sum, IsOuterForward}
use Rattle.hpe_lane.proofs.OuterEdges.{at_four}
use Rattle.hpe_lane.proofs.Sizes.{zero_within}
use Rattle.hpe_lane.proofs.Soft.{IsGreatest-score}
use Rattle.hpe_trellis.specs.OuterTrellis.{kept_before, outer_edge, outer_start}
use Rattle.hpe_trellis.proofs.Recursion.{StepIs, before-mono}
use Rattle.hpe_witness.specs.Potentials.{potential, PotentialsWithin, IsRising}
use Rattle.hpe_witness.specs.PathMetrics.{metric_after, path_metric, metric_row, metric_rows, survivor, survivor_at, traced}
use Rattle.hpe_witness.proofs.Survivors.{metric_after-bound, metric_after-greatest, survivor-low, survivor-same}
use Rattle.hpe_witness.proofs.Traceback.{traced-path}
use Rattle.hpe_witness.proofs.BestPath.{path_metric-first, path_metric-more, path_metric-fits}

module _ (columns : List (List Bool)) (l : List ℤ) where
  abbrev metric : ℕ → ℕ → ℤ
  metric = path_metric columns l

  -- a row has the metric of each state at its place
  pub number_at-metric_row : (t q : ℕ) → q < 4 → number_at (metric_row columns l t) q ≡ metric t q
  number_at-metric_row t q low = get_or-tabulate 4 (metric t) q (pos 0) low

  -- the first row
  pub metric_row-first : (row : List ℤ) → length row ≡ 4 → ((q : ℕ) → q < 4 → number_at row q ≡ outer_start q) → row ≡ metric_row columns l 0
  metric_row-first row long h = tabulate_from_places 4 (metric 0) row (pos 0) long (λ q low. h q low ∙ sym (path_metric-first columns l q))

  -- a row after a step forward
  pub metric_row-next : (t : ℕ) (row r next : List ℤ) → row ≡ metric_row columns l t → StepIs columns l t r → length next ≡ 4 → IsOuterForward r row next → next ≡ metric_row columns l (t + 1)
  metric_row-next t row r next is same long h =
      tabulate_from_places 4 (metric (t + 1)) next (pos 0) long
      (λ q low.
      IsGreatest-unique
      (IsGreatest-score (λ e p. ap₂ (λ (y z : ℤ). y +ℤ z) (sym (ap (λ (xs : List ℤ). number_at xs e.0) is ∙ number_at-metric_row t e.0 p.0.0)) (sym (same e.0 e.1))) (h q low))
      (metric_after-greatest (metric t) (outer_edge columns l t) q low)
      ∙ sym (path_metric-more columns l t q) ∙ ap (λ (k : ℕ). metric k q) (sym (add-one t)))

  -- the survivor by a row and the numbers of a step
  pub survivor_at-is : (t q : ℕ) (row r : List ℤ) → row ≡ metric_row columns l t → StepIs columns l t r → survivor (number_at row) (edge_sum r) q ≡ survivor_at columns l t q
  unfolding survivor_at
  survivor_at-is t q row r is same =
      survivor-same (number_at row) (metric t) (edge_sum r) (outer_edge columns l t) q (λ p low. ap (λ (xs : List ℤ). number_at xs p) is ∙ number_at-metric_row t p low) same

  -- a step back
  pub step-back : (t q : ℕ) (whole r : List ℕ) → q < 4 → whole ≡ traced (survivor_at columns l) (suc t) q ++ r
      → (whole ≡ traced (survivor_at columns l) t (survivor_at columns l t q) ++ (q / 2) ∷ r) × (get_or whole t 0 ≡ q / 2)
  unfolding survivor_at
  step-back t q whole r low e =
      let p : ℕ = survivor (metric t) (outer_edge columns l t) q in
      let us : List ℕ = traced (λ t q. survivor (metric t) (outer_edge columns l t) q) t p in
      let path : IsPath 2 t us = traced-path (outer_edge columns l) metric (path_metric-first columns l) (path_metric-more columns l) t p (survivor-low (metric t) (outer_edge columns l t) q) in
      let all : whole ≡ us ++ (q / 2) ∷ r = e ∙ append_assoc us ((q / 2) ∷ []) r in
      (all, ap (λ (xs : List ℕ). get_or xs t 0) all ∙ input-append 2 t (q / 2) us r path)

  -- a row more is written
  pub rows-more : (t : ℕ) (rows : List (List ℤ)) (next : List ℤ) → t + 1 < length rows → ((s : ℕ) → s ≤ t → get_or rows s [] ≡ metric_row columns l s) → next ≡ metric_row columns l (t + 1)
      → (s : ℕ) → s ≤ t + 1 → get_or (set rows (t + 1) next) s [] ≡ metric_row columns l s
  rows-more t rows next room before here s le =
      ⊎_elim
      (λ (h : s < t + 1). let ne : s ≢ t + 1 = omega arith in get_or-set_other rows (t + 1) s next [] ne ∙ before s (omega arith))
      (λ (h : t + 1 ≤ s). let e : t + 1 ≡ s = omega arith in
      subst (λ (k : ℕ). get_or (set rows (t + 1) next) k [] ≡ metric_row columns l k) e (get_or-set_same rows (t + 1) next [] room ∙ here))
      (cases_lt s (t + 1))

  module _ (n : ℕ) (rows : List (List ℤ)) (are : rows ≡ metric_rows columns l n) where
    -- the rows by place
    pub rows-at : (t : ℕ) → t ≤ n → get_or rows t [] ≡ metric_row columns l t
    rows-at t le = ap (λ (rs : List (List ℤ)). get_or rs t []) are ∙ get_or-tabulate (n + 1) (metric_row columns l) t [] (omega arith)

    pub potential-is : (t q : ℕ) → t ≤ n → q < 4 → potential rows t q ≡ metric t q
    potential-is t q le low = ap (λ (row : List ℤ). number_at row q) (rows-at t le) ∙ number_at-metric_row t q low

    pub rows-long : length rows ≡ n + 1
    rows-long = ap length are ∙ length-tabulate (n + 1) (metric_row columns l)

    -- they rise
    pub rows-rise : IsRising columns l n rows
    rows-rise = record {
      each = λ t p x lt lp lx.
          let q : ℕ = outer_next p x in
          let low : q < 4 = omega arith in
          let half : p / 2 ≡ q % 2 = omega arith in
          let input : q / 2 ≡ x = omega arith in
          let here : potential rows t p ≡ metric t p = potential-is t p (omega arith) lp in
          let after : potential rows (t + 1) q ≡ metric_after (metric t) (outer_edge columns l t) q =
          potential-is (t + 1) q (omega arith) low ∙ ap (λ (k : ℕ). metric k q) (add-one t) ∙ path_metric-more columns l t q in
          subst (λ (z : ℤ). (z +ℤ outer_edge columns l t p x) ≤ℤ potential rows (t + 1) q) (sym here)
          (subst (λ (z : ℤ). (metric t p +ℤ outer_edge columns l t p x) ≤ℤ z) (sym after)
          (subst (λ (k : ℕ). (metric t p +ℤ outer_edge columns l t p k) ≤ℤ metric_after (metric t) (outer_edge columns l t) q) input (metric_after-bound (metric t) (outer_edge columns l t) q p half)));
    }

    -- and fit
    pub rows-within : AllWithin 16383 l → kept_before columns n ≤ 15120 → PotentialsWithin 600000000 rows
    rows-within within cap t q =
        ⊎_elim
        (λ (h : t < n + 1).
        ⊎_elim
        (λ (low : q < 4). let m : kept_before columns t ≤ kept_before columns n = before-mono columns n t (omega arith) in
        subst (Within 600000000) (sym (potential-is t q (omega arith) low)) (path_metric-fits columns l within t q (omega arith) low))
        (λ (high : 4 ≤ q).
        let four : length (get_or rows t []) ≡ 4 = ap length (rows-at t (omega arith)) ∙ length-tabulate 4 (metric t) in
        subst (Within 600000000) (sym (get_or_past (get_or rows t []) q (pos 0) (omega arith))) (zero_within 600000000))
        (cases_lt q 4))
        (λ (h : n + 1 ≤ t).
        let long = rows-long in
        subst (λ (row : List ℤ). Within 600000000 (number_at row q)) (sym (get_or_past rows t [] (omega arith))) (zero_within 600000000))
        (cases_lt t (n + 1))

-- the first row is written
pub rows-first : (columns : List (List Bool)) (l row : List ℤ) (rows : List (List ℤ)) → 0 < length rows → row ≡ metric_row columns l 0 → (s : ℕ) → s ≤ 0 → get_or (set rows 0 row) s [] ≡ metric_row columns l s
rows-first columns l row rows room is s le =
    let e : 0 ≡ s = omega arith in
    subst (λ (k : ℕ). get_or (set rows 0 row) k [] ≡ metric_row columns l k) e (get_or-set_same rows 0 row [] room ∙ is)

-- the row before the first step
pub start-row : (columns : List (List Bool)) (l : List ℤ) → pos 0 ∷ negsuc 499999999 ∷ negsuc 499999999 ∷ negsuc 499999999 ∷ [] ≡ metric_row columns l 0
start-row columns l =
    let row : List ℤ = pos 0 ∷ negsuc 499999999 ∷ negsuc 499999999 ∷ negsuc 499999999 ∷ [] in
    metric_row-first columns l row refl (at_four (λ q. number_at row q ≡ outer_start q) refl refl refl refl)
