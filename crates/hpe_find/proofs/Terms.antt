-- The terms of a score, as they are added.
use Rattle.std.proofs.Common.{◌≡◌, ◌^◌, ◌+◌, ◌-◌, ◌*◌, ◌<◌, ◌≤◌, ℕ, List, length, get_or, sum, refl, sym, ◌∙◌, ap, arith}
use Rattle.std.proofs.Math.Nat.{mul-le-mul_right}
use Rattle.hpe_base.specs.Lists.{tabulate}
use Rattle.hpe_base.specs.Parameters.{Parameters, sending_slots, symbol_slots, period_slots}
use Rattle.hpe_base.specs.MarkerSearch.{marker_sum, score, searched_periods, pulse_place}
use Rattle.hpe_find.specs.Sending.{sending_sum}
use Rattle.hpe_base.proofs.Tabulated.{sum-tabulate-same, sum-tabulate-le, sum-tabulate-swap}

-- the count of symbol r of the sending that begins k slots after the start
abbrev pub symbol_term : Parameters → List ℕ → ℕ → ℕ → ℕ → ℕ
symbol_term p counts start k r = get_or counts (start + k + r * symbol_slots p + get_or p.marker r 0) 0

-- the sum of sending i, k places on
abbrev pub sending_term : List ℕ → ℕ → ℕ → ℕ → ℕ
sending_term sums stride k i = get_or sums (i * stride + k) 0

-- the marker of period j, k offsets on
abbrev pub period_term : Parameters → List ℕ → ℕ → ℕ → ℕ → ℕ
period_term p counts from k j = marker_sum p counts (from + k + j * period_slots p)

pub symbol_terms : (p : Parameters) (counts : List ℕ) (start k : ℕ) → sum (tabulate (length p.marker) (symbol_term p counts start k)) ≡ sending_sum p counts (start + k)
unfolding sending_sum
symbol_terms p counts start k = refl

pub period_terms : (p : Parameters) (counts : List ℕ) (from k : ℕ) → sum (tabulate (searched_periods p counts) (period_term p counts from k)) ≡ score p counts (from + k)
unfolding score
period_terms p counts from k = refl

place_of : (start r s m k : ℕ) → start + r * s + m + k ≡ start + k + r * s + m
place_of start r s m k = omega arith

-- the count that is added for symbol r
pub symbol_count : (p : Parameters) (counts : List ℕ) (start r s m k : ℕ) → s ≡ symbol_slots p → m ≡ get_or p.marker r 0 →
    get_or counts (start + r * s + m + k) 0 ≡ symbol_term p counts start k r
symbol_count p counts start r s m k es em =
    ap (λ n. get_or counts n 0) (place_of start r s m k
    ∙ (ap (λ x. start + k + r * x + m) es ∙ ap (λ x. start + k + r * symbol_slots p + x) em))

place_in_sending : (start r s i w m : ℕ) → start + (r * s + i * w + m) ≡ start + i * w + r * s + m
place_in_sending start r s i w m = omega arith

-- a marker is the sum of its sendings
marker_sum-sendings : (p : Parameters) (counts : List ℕ) (start : ℕ) →
    marker_sum p counts start ≡ sum (tabulate p.repeat (λ i. sending_sum p counts (start + i * sending_slots p.order)))
unfolding marker_sum sending_sum
marker_sum-sendings p counts start =
    sum-tabulate-swap (length p.marker) p.repeat (λ r i. get_or counts (start + pulse_place p r i) 0)
    ∙ sum-tabulate-same p.repeat _ _ (λ i b. sum-tabulate-same (length p.marker) _ _ (λ r a.
    ap (λ n. get_or counts n 0) (place_in_sending start r (symbol_slots p) i (sending_slots p.order) (get_or p.marker r 0))))

place_behind : (start i w k : ℕ) → start + (i * w + k) ≡ start + k + i * w
place_behind start i w k = omega arith

-- the sums of all sendings, where there is a sum for each place up to the last sending
pub sending_terms : (p : Parameters) (counts sums : List ℕ) (start k q w : ℕ) → q ≡ p.repeat → w ≡ sending_slots p.order →
    k + (p.repeat - 1) * sending_slots p.order < length sums → ((x : ℕ) → x < length sums → get_or sums x 0 ≡ sending_sum p counts (start + x)) →
    sum (tabulate q (sending_term sums w k)) ≡ marker_sum p counts (start + k)
sending_terms p counts sums start k q w eq ew room each =
    ap (λ n. sum (tabulate n (sending_term sums w k))) eq
    ∙ (ap (λ n. sum (tabulate p.repeat (sending_term sums n k))) ew
    ∙ (sum-tabulate-same p.repeat _ _ (λ i b.
    let before : i * sending_slots p.order ≤ (p.repeat - 1) * sending_slots p.order = mul-le-mul_right (sending_slots p.order) (omega arith) in
    each (i * sending_slots p.order + k) (omega arith)
    ∙ ap (sending_sum p counts) (place_behind start i (sending_slots p.order) k))
    ∙ sym (marker_sum-sendings p counts (start + k))))

pub marker_sum-le : (p : Parameters) (counts : List ℕ) (start : ℕ) → p.repeat ≤ 32 → length p.marker ≤ 64 → ((i : ℕ) → get_or counts i 0 ≤ 65535) → marker_sum p counts start ≤ 134215680
unfolding marker_sum
marker_sum-le p counts start few short each =
    let most : marker_sum p counts start ≤ length p.marker * 2097120 = sum-tabulate-le (length p.marker) 2097120 _ (λ r b.
    let one : sum (tabulate p.repeat (λ i. get_or counts (start + pulse_place p r i) 0)) ≤ p.repeat * 65535 = sum-tabulate-le p.repeat 65535 _ (λ i b. each _) in
    omega arith) in
    omega arith

pub sending_sum-le : (p : Parameters) (counts : List ℕ) (start : ℕ) → length p.marker ≤ 64 → ((i : ℕ) → get_or counts i 0 ≤ 65535) → sending_sum p counts start ≤ 2 ^ 22
unfolding sending_sum
sending_sum-le p counts start short each =
    let most : sending_sum p counts start ≤ length p.marker * 65535 = sum-tabulate-le (length p.marker) 65535 _ (λ r b. each _) in
    omega arith
