-- Behind dark slots, the dark slots are the offset: each marker's sum there is as great as it can be.
use Rattle.std.proofs.Common.{◌≡◌, ◌+◌, ◌-◌, ◌*◌, ◌/◌, ◌<◌, ◌≤◌, ℕ, List, length, get_or, sum, sym, ◌∙◌, ap, arith, inl, inr, subst}
use Rattle.std.specs.Prelude.{if◌then◌else◌, ◌==◌, nat_lt}
use Rattle.std.proofs.lemmas.Nat.{div-mul-add, mul-le}
use Rattle.std.proofs.lemmas.Bool.{cases_lt}
use Rattle.std.proofs.lemmas.Bool.Decides.{nat_tests}
use Rattle.hpe_base.specs.Lists.{tabulate}
use Rattle.hpe_base.specs.Parameters.{Parameters, IsValid, sending_slots, symbol_slots, period_slots}
use Rattle.hpe_base.specs.MarkerSearch.{marker_sum, score, searched_periods, pulse_place, least_greatest, offset_of, At}
use Rattle.hpe_base.proofs.Tabulated.{sum-tabulate-le, sum-tabulate-each, sum-tabulate-lt}
use Rattle.hpe_base.proofs.MarkerSearch.{least_greatest-is, offset_of-at}
use Rattle.hpe_base.proofs.ParameterLemmas.{marker_symbol}
use Rattle.hpe_clear.specs.Laws.{full_score}
use Rattle.hpe_clear.proofs.SeenSlots.{seen, length-seen, seen_at, seen-le, clear_before}

-- the sum of a marker each pulse of which is counted once
abbrev full : Parameters → ℕ
full p = length p.marker * p.repeat

marker_first : (r k v w : ℕ) → r < k → (if nat_lt r k then v else w) ≡ v
marker_first r k v w h = grind (arith, nat_tests)

hit : (v : ℕ) → ◌≡◌ {A = ℕ} (if v == v then 1 else 0) 1
hit v = grind (arith, nat_tests)

missed : (b m : ℕ) → b < m → ◌≡◌ {A = ℕ} (if b == m then 1 else 0) 0
missed b m h = grind (arith, nat_tests)

pulse_eq : (d g r i m : ℕ) → d + g + (r + i + m) ≡ d + (g + (r + (i + m)))
pulse_eq d g r i m = omega arith

-- a pulse of a marker that was sent
pulse_seen : (p : Parameters) (symbols : List ℕ) (n d j r i : ℕ) → IsValid p → j < n → r < length p.marker → i < p.repeat →
    get_or (seen p symbols n d) (d + j * period_slots p + pulse_place p r i) 0 ≡ 1
pulse_seen p symbols n d j r i v hj hr hi =
    ap (λ k. get_or (seen p symbols n d) k 0) (pulse_eq d (j * period_slots p) (r * symbol_slots p) (i * sending_slots p.order) (get_or p.marker r 0))
    ∙ (seen_at p symbols n d j r i (get_or p.marker r 0) hj (omega arith) hi (marker_symbol p r v hr)
    ∙ (ap (λ x. if get_or p.marker r 0 == x then 1 else 0) (marker_first r (length p.marker) _ _ hr) ∙ hit (get_or p.marker r 0)))

marker_seen : (p : Parameters) (symbols : List ℕ) (n d j : ℕ) → IsValid p → j < n → marker_sum p (seen p symbols n d) (d + j * period_slots p) ≡ full p
unfolding marker_sum
marker_seen p symbols n d j v h =
    sum-tabulate-each (length p.marker) p.repeat _ (λ r hr.
    let once : sum (tabulate p.repeat (λ i. get_or (seen p symbols n d) (d + j * period_slots p + pulse_place p r i) 0)) ≡ p.repeat * 1 =
    sum-tabulate-each p.repeat 1 _ (λ i hi. pulse_seen p symbols n d j r i v h hr hi) in
    omega arith)

ones-le : (q : ℕ) (f : ℕ → ℕ) → ((i : ℕ) → f i ≤ 1) → sum (tabulate q f) ≤ q
ones-le q f h = let a : sum (tabulate q f) ≤ q * 1 = sum-tabulate-le q 1 f (λ i b. h i) in omega arith

ones-lt : (q : ℕ) (f : ℕ → ℕ) → 0 < q → ((i : ℕ) → f i ≤ 1) → f 0 ≡ 0 → sum (tabulate q f) < q
ones-lt q f pos h z = let a : sum (tabulate q f) < q * 1 = sum-tabulate-lt q 1 0 f pos (λ i b. h i) (omega (arith, z)) in omega arith

marker_sum-most : (p : Parameters) (symbols : List ℕ) (n d start : ℕ) → marker_sum p (seen p symbols n d) start ≤ full p
unfolding marker_sum
marker_sum-most p symbols n d start =
    sum-tabulate-le (length p.marker) p.repeat _ (λ r b. ones-le p.repeat _ (λ i. seen-le p symbols n d (start + pulse_place p r i)))

first_eq : (d period symbol sending o m : ℕ) → d ≤ o + m → d + (0 * period + (0 * symbol + (0 * sending + (o + m - d)))) ≡ o + m
first_eq d period symbol sending o m h = omega arith

-- before the dark slots end, the first pulse of the first marker is missed
first_missed : (p : Parameters) (symbols : List ℕ) (n d o : ℕ) → IsValid p → 0 < n → o < d → get_or (seen p symbols n d) (o + get_or p.marker 0 0) 0 ≡ 0
first_missed p symbols n d o v hn h =
    let m : ℕ = get_or p.marker 0 0 in
    let low : m < sending_slots p.order = marker_symbol p 0 v v.range.marker_low in
    elim (cases_lt (o + m) d) [
      | inl before ↦ clear_before d (o + m) _ before
      | inr after ↦
          ap (λ k. get_or (seen p symbols n d) k 0) (sym (first_eq d (period_slots p) (symbol_slots p) (sending_slots p.order) o m after))
          ∙ (seen_at p symbols n d 0 0 0 (o + m - d) hn (omega (arith, v.range.marker_low)) v.range.repeat_low (omega arith)
          ∙ (ap (λ x. if o + m - d == x then 1 else 0) (marker_first 0 (length p.marker) _ _ v.range.marker_low) ∙ missed (o + m - d) m (omega arith)))
    ]

start_eq : (o period symbol sending m : ℕ) → o + 0 * period + (0 * symbol + 0 * sending + m) ≡ o + m
start_eq o period symbol sending m = omega arith

marker_missed : (p : Parameters) (symbols : List ℕ) (n d o : ℕ) → IsValid p → 0 < n → o < d → marker_sum p (seen p symbols n d) (o + 0 * period_slots p) < full p
unfolding marker_sum
marker_missed p symbols n d o v hn h =
    sum-tabulate-lt (length p.marker) p.repeat 0 _ v.range.marker_low
    (λ r b. ones-le p.repeat _ (λ i. seen-le p symbols n d (o + 0 * period_slots p + pulse_place p r i)))
    (ones-lt p.repeat _ v.range.repeat_low (λ i. seen-le p symbols n d (o + 0 * period_slots p + pulse_place p 0 i))
    (ap (λ k. get_or (seen p symbols n d) k 0) (start_eq o (period_slots p) (symbol_slots p) (sending_slots p.order) (get_or p.marker 0 0)) ∙ first_missed p symbols n d o v hn h))

-- as many periods are seen as were sent
periods_seen : (p : Parameters) (symbols : List ℕ) (n d : ℕ) → d < period_slots p → length (seen p symbols n d) / period_slots p ≡ n
periods_seen p symbols n d h =
    let e : d + n * period_slots p ≡ n * period_slots p + d = omega arith in
    ap (λ k. k / period_slots p) (length-seen p symbols n d ∙ e) ∙ div-mul-add n (period_slots p) d h

score_seen : (p : Parameters) (symbols : List ℕ) (n d : ℕ) → IsValid p → d < period_slots p → score p (seen p symbols n d) d ≡ full_score p (seen p symbols n d)
unfolding score
score_seen p symbols n d v h =
    let few : searched_periods p (seen p symbols n d) ≤ n = omega (arith, periods_seen p symbols n d h) in
    sum-tabulate-each (searched_periods p (seen p symbols n d)) (full p) _ (λ j b. marker_seen p symbols n d j v (omega arith))

score-most : (p : Parameters) (symbols : List ℕ) (n d o : ℕ) → score p (seen p symbols n d) o ≤ full_score p (seen p symbols n d)
unfolding score
score-most p symbols n d o =
    sum-tabulate-le (searched_periods p (seen p symbols n d)) (full p) _ (λ j b. marker_sum-most p symbols n d (o + j * period_slots p))

searched_some : (p : Parameters) (symbols : List ℕ) (n d : ℕ) → IsValid p → 0 < n → d < period_slots p → 0 < searched_periods p (seen p symbols n d)
searched_some p symbols n d v hn h = omega (arith, periods_seen p symbols n d h, v.range.search_low)

score_before : (p : Parameters) (symbols : List ℕ) (n d o : ℕ) → IsValid p → 0 < n → d < period_slots p → o < d →
    score p (seen p symbols n d) o < full_score p (seen p symbols n d)
unfolding score
score_before p symbols n d o v hn h b =
    sum-tabulate-lt (searched_periods p (seen p symbols n d)) (full p) 0 _ (searched_some p symbols n d v hn h)
    (λ j b. marker_sum-most p symbols n d (o + j * period_slots p)) (marker_missed p symbols n d o v hn b)

full_score-pos : (p : Parameters) (symbols : List ℕ) (n d : ℕ) → IsValid p → 0 < n → d < period_slots p → 1 ≤ full_score p (seen p symbols n d)
full_score-pos p symbols n d v hn h =
    let one : 1 * 1 ≤ full p = mul-le 1 1 (length p.marker) p.repeat v.range.marker_low v.range.repeat_low in
    let all : 1 * 1 ≤ full_score p (seen p symbols n d) = mul-le 1 1 (searched_periods p (seen p symbols n d)) (full p) (searched_some p symbols n d v hn h) (omega arith) in
    omega arith

-- the offset is where the dark slots end
pub offset_seen : (p : Parameters) (symbols : List ℕ) (n d : ℕ) → IsValid p → 0 < n → d < period_slots p →
    offset_of p (seen p symbols n d) ≡ At d (full_score p (seen p symbols n d))
offset_seen p symbols n d v hn h =
    let top : score p (seen p symbols n d) d ≡ full_score p (seen p symbols n d) = score_seen p symbols n d v h in
    let one : 1 * period_slots p ≤ n * period_slots p = mul-le 1 (period_slots p) n (period_slots p) hn (omega arith) in
    let place : d ≡ least_greatest (score p (seen p symbols n d)) (period_slots p) =
    sym (least_greatest-is (score p (seen p symbols n d)) (period_slots p) d h
    (λ o b. subst (λ t. score p (seen p symbols n d) o ≤ t) (sym top) (score-most p symbols n d o))
    (λ o b. subst (λ t. score p (seen p symbols n d) o < t) (sym top) (score_before p symbols n d o v hn h b))) in
    offset_of-at p (seen p symbols n d) d (full_score p (seen p symbols n d)) (omega (arith, length-seen p symbols n d)) place (sym top)
    (full_score-pos p symbols n d v hn h)
