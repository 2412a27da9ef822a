-- The search for the codeword marker: what the best offset is, and that the first counts settle it.
use Rattle.std.proofs.Common.{◌≡◌, ◌+◌, ◌*◌, ◌/◌, ◌<◌, ◌≤◌, ◌++◌, ℕ, List, length, refl, sym, ◌∙◌, ap, subst, arith, true, false, Bool, zero, suc, inl, inr}
use Rattle.std.specs.Prelude.{if◌then◌else◌, ◌==◌, nat_lt}
use Rattle.std.proofs.Math.Nat.{le-div_iff_mul-le}
use Rattle.std.proofs.lemmas.Nat.{row_fits}
use Rattle.std.proofs.lemmas.Bool.{cases_eq, le-ltb, lt-ltb}
use Rattle.std.proofs.lemmas.Bool.Decides.{nat_tests}
use Rattle.std.proofs.lemmas.List.{get_or_append_left, length-append}
use Rattle.hpe_base.specs.Parameters.{Parameters, IsValid, sending_slots, symbol_slots, period_slots}
use Rattle.hpe_base.specs.MarkerSearch.{marker_sum, score, searched_periods, pulse_place, least_greatest, offset_of, Offset, Short, Dark, At}
use Rattle.hpe_base.proofs.Tabulated.{sum-tabulate-same}
use Rattle.hpe_base.proofs.ParameterLemmas.{period-pos, period-within, marker_symbol}

-- ---- the least of the numbers with the greatest value
-- what holds of both holds of the one that is chosen
chosen : (P : ℕ → Type 0) (b : Bool) (x y : ℕ) → P x → P y → P (if b then x else y)
chosen P true x y h k = h
chosen P false x y h k = k

-- it is one of the numbers
pub least_greatest-within : (f : ℕ → ℕ) (n : ℕ) → 0 < n → least_greatest f n < n
least_greatest-within f zero h = absurd (omega arith)
least_greatest-within f (suc zero) h = chosen (λ k. k < 1) (nat_lt (f 0) (f 0)) 0 0 (omega arith) (omega arith)
least_greatest-within f (suc (suc n)) h =
    let before : least_greatest f (suc n) < suc n = least_greatest-within f (suc n) (omega arith) in
    chosen (λ k. k < suc (suc n)) (nat_lt (f (least_greatest f (suc n))) (f (suc n))) (suc n)
    (least_greatest f (suc n)) (omega arith) (omega arith)

-- values that are equal have one least greatest
least_greatest-same : (n : ℕ) (f g : ℕ → ℕ) → ((k : ℕ) → k < n → f k ≡ g k) → least_greatest f n ≡ least_greatest g n
least_greatest-same zero f g h = refl
least_greatest-same (suc zero) f g h =
    chosen (λ k. k ≡ 0) (nat_lt (f 0) (f 0)) 0 0 refl refl
    ∙ sym (chosen (λ k. k ≡ 0) (nat_lt (g 0) (g 0)) 0 0 refl refl)
least_greatest-same (suc (suc n)) f g h =
    let m = suc n in
    let place : least_greatest f m ≡ least_greatest g m = least_greatest-same (suc n) f g (λ k b. h k (omega arith)) in
    let within : least_greatest f m < m = least_greatest-within f m (omega arith) in
    let here : f m ≡ g m = h m (omega arith) in
    let there : f (least_greatest f m) ≡ g (least_greatest g m) = h (least_greatest f m) (omega arith) ∙ ap g place in
    ap (λ x. if nat_lt x (f m) then m else least_greatest f m) there
    ∙ (ap (λ x. if nat_lt (g (least_greatest g m)) x then m else least_greatest f m) here
    ∙ ap (λ k. if nat_lt (g (least_greatest g m)) (g m) then m else k) place)

-- values that are all below a number
value-lt : (f : ℕ → ℕ) (n top : ℕ) → 0 < n → ((k : ℕ) → k < n → f k < top) → f (least_greatest f n) < top
value-lt f zero top pos h = absurd (omega arith)
value-lt f (suc zero) top pos h =
    chosen (λ k. f k < top) (nat_lt (f 0) (f 0)) 0 0 (h 0 (omega arith)) (h 0 (omega arith))
value-lt f (suc (suc n)) top pos h =
    let before : f (least_greatest f (suc n)) < top = value-lt f (suc n) top (omega arith) (λ k b. h k (omega arith)) in
    chosen (λ k. f k < top) (nat_lt (f (least_greatest f (suc n))) (f (suc n))) (suc n) (least_greatest f (suc n))
    (h (suc n) (omega arith)) before

-- the last number, where its value is greater than all before it
peak_last : (f : ℕ → ℕ) (d : ℕ) → ((k : ℕ) → k < d → f k < f d) → least_greatest f (suc d) ≡ d
peak_last f zero h = chosen (λ k. k ≡ 0) (nat_lt (f 0) (f 0)) 0 0 refl refl
peak_last f (suc d) h =
    let less : f (least_greatest f (suc d)) < f (suc d) = value-lt f (suc d) (f (suc d)) (omega arith) h in
    let more : nat_lt (f (least_greatest f (suc d))) (f (suc d)) ≡ true = lt-ltb _ _ less in
    ap (λ b. if b then suc d else least_greatest f (suc d)) more

-- the first number that has the greatest value
pub least_greatest-is : (f : ℕ → ℕ) (n d : ℕ) → d < n → ((k : ℕ) → k < n → f k ≤ f d) → ((k : ℕ) → k < d → f k < f d) →
    least_greatest f n ≡ d
least_greatest-is f zero d b most first = absurd (omega arith)
least_greatest-is f (suc n) d b most first =
    elim (cases_eq d n) [
      | inl e ↦ subst (λ k. least_greatest f (suc k) ≡ d) e (peak_last f d first)
      | inr ne ↦
          let before : least_greatest f n ≡ d =
          least_greatest-is f n d (omega arith) (λ k b. most k (omega arith)) first in
          let less : nat_lt (f (least_greatest f n)) (f n) ≡ false =
          le-ltb _ _ (subst (λ k. f n ≤ f k) (sym before) (most n (omega arith))) in
          ap (λ b. if b then n else least_greatest f n) less ∙ before
    ]

-- ---- scores
-- a pulse of a marker lies within the marker
pulse_within : (p : Parameters) (r i : ℕ) → IsValid p → r < length p.marker → i < p.repeat →
    pulse_place p r i < length p.marker * symbol_slots p
pulse_within p r i v rb ib =
    let sending : i * sending_slots p.order + sending_slots p.order ≤ symbol_slots p =
    row_fits i (sending_slots p.order) p.repeat (sending_slots p.order) ib (omega arith) in
    let symbol : r * symbol_slots p + symbol_slots p ≤ length p.marker * symbol_slots p =
    row_fits r (symbol_slots p) (length p.marker) (symbol_slots p) rb (omega arith) in
    omega (arith, marker_symbol p r v rb)

-- a marker that ends within the counts
marker_sum-front : (p : Parameters) (counts rest : List ℕ) (start : ℕ) → IsValid p →
    start + length p.marker * symbol_slots p ≤ length counts →
    marker_sum p (counts ++ rest) start ≡ marker_sum p counts start
unfolding marker_sum
marker_sum-front p counts rest start v h =
    sum-tabulate-same (length p.marker) _ _ (λ r rb. sum-tabulate-same p.repeat _ _ (λ i ib.
    get_or_append_left counts rest 0 (start + pulse_place p r i) (omega (arith, pulse_within p r i v rb ib))))

-- a stream of as many periods as are searched
searched_all : (p : Parameters) (counts : List ℕ) → 0 < period_slots p → p.search * period_slots p ≤ length counts →
    searched_periods p counts ≡ p.search
searched_all p counts pos h =
    let low : p.search ≤ length counts / period_slots p = (le-div_iff_mul-le pos).1 h in
    omega arith

-- the score of an offset, where the markers that are searched end within the counts
score-front : (p : Parameters) (counts rest : List ℕ) (o : ℕ) → IsValid p →
    p.search * period_slots p + length p.marker * symbol_slots p ≤ length counts → o < period_slots p →
    score p (counts ++ rest) o ≡ score p counts o
unfolding score
score-front p counts rest o v h b =
    let pos = period-pos p v in
    let here : searched_periods p counts ≡ p.search = searched_all p counts pos (omega arith) in
    let there : searched_periods p (counts ++ rest) ≡ p.search =
    searched_all p (counts ++ rest) pos (omega (arith, length-append counts rest)) in
    rw (here, there) (sum-tabulate-same p.search _ _ (λ j jb.
    let rows : j * period_slots p + period_slots p ≤ p.search * period_slots p =
    row_fits j (period_slots p) p.search (period_slots p) jb (omega arith) in
    marker_sum-front p counts rest (o + j * period_slots p) v (omega arith)))

-- ---- the offset
-- what the best offset of a stream of a period or more is
abbrev at_best : ℕ → ℕ → Offset
at_best offset best = if best == 0 then Dark else At offset best

-- the offset of a stream of a period or more
offset_of-long : (p : Parameters) (counts : List ℕ) → period_slots p ≤ length counts →
    offset_of p counts ≡ at_best (least_greatest (score p counts) (period_slots p))
    (score p counts (least_greatest (score p counts) (period_slots p)))
unfolding offset_of
offset_of-long p counts h =
    let long : nat_lt (length counts) (period_slots p) ≡ false = le-ltb _ _ h in
    ap (λ b. if b then Short else at_best (least_greatest (score p counts) (period_slots p))
    (score p counts (least_greatest (score p counts) (period_slots p)))) long

-- that of a stream that is shorter than a period
pub offset_of-short : (p : Parameters) (counts : List ℕ) → length counts < period_slots p → offset_of p counts ≡ Short
unfolding offset_of
offset_of-short p counts h =
    let short : nat_lt (length counts) (period_slots p) ≡ true = lt-ltb _ _ h in
    ap (λ b. if b then Short else at_best (least_greatest (score p counts) (period_slots p))
    (score p counts (least_greatest (score p counts) (period_slots p)))) short

-- the best offset and its score
offset_of-best : (p : Parameters) (counts : List ℕ) (offset best : ℕ) → period_slots p ≤ length counts →
    offset ≡ least_greatest (score p counts)
    (period_slots p) → best ≡ score p counts offset → offset_of p counts ≡ at_best offset best
offset_of-best p counts offset best h place value =
    offset_of-long p counts h ∙ (ap (λ o. at_best o (score p counts o)) (sym place) ∙ ap (at_best offset) (sym value))

-- where the best score is 0
pub offset_of-dark : (p : Parameters) (counts : List ℕ) (offset best : ℕ) → period_slots p ≤ length counts →
    offset ≡ least_greatest (score p counts)
    (period_slots p) → best ≡ score p counts offset → best ≡ 0 → offset_of p counts ≡ Dark
offset_of-dark p counts offset best h place value none =
    offset_of-best p counts offset best h place value ∙ ap (at_best offset) none

-- where it isn't
pub offset_of-at : (p : Parameters) (counts : List ℕ) (offset best : ℕ) → period_slots p ≤ length counts →
    offset ≡ least_greatest (score p counts)
    (period_slots p) → best ≡ score p counts offset → 0 < best → offset_of p counts ≡ At offset best
offset_of-at p counts offset best h place value pos =
    let lit : (best == 0) ≡ false = grind (arith, nat_tests) in
    offset_of-best p counts offset best h place value ∙ ap (λ b. if b then Dark else At offset best) lit

-- the counts of the periods that are searched, and of a marker more, settle the offset
pub offset_of-front : (p : Parameters) (counts rest : List ℕ) → IsValid p →
    p.search * period_slots p + length p.marker * symbol_slots p ≤ length counts →
    offset_of p counts ≡ offset_of p (counts ++ rest)
offset_of-front p counts rest v h =
    let period = period_slots p in
    let one : period ≤ p.search * period = period-within p v in
    let here : period ≤ length counts = omega arith in
    let there : period ≤ length (counts ++ rest) = omega (arith, length-append counts rest) in
    let same : (k : ℕ) → k < period → score p counts k ≡ score p (counts ++ rest) k =
    λ k b. sym (score-front p counts rest k v h b) in
    let place : least_greatest (score p counts) period ≡ least_greatest (score p (counts ++ rest)) period =
    least_greatest-same period _ _ same in
    let value : score p counts (least_greatest (score p counts) period) ≡ score p (counts ++ rest)
    (least_greatest (score p (counts ++ rest)) period) =
    same _ (least_greatest-within (score p counts) period (period-pos p v)) ∙ ap (score p (counts ++ rest)) place in
    offset_of-long p counts here
    ∙ (ap (λ o. at_best o (score p counts (least_greatest (score p counts) period))) place
    ∙ (ap (at_best (least_greatest (score p (counts ++ rest)) period)) value
    ∙ sym (offset_of-long p (counts ++ rest) there)))
