-- The rows of sums in counts that grow: those of whole symbols and periods stay.
use Rattle.std.proofs.Common.{◌≡◌, ◌+◌, ◌-◌, ◌*◌, ◌/◌, ◌%◌, ◌<◌, ◌≤◌, ◌++◌, ℕ, List, length, take, ap, sym, ◌∙◌, arith, inl, inr, length-append}
use Rattle.std.proofs.Math.Nat.{le-div_iff_mul-le, div-mul-le_self, mul-le-mul_right}
use Rattle.std.proofs.lemmas.Nat.{div-mul-add, div-add-mod', mod_below, mul-le}
use Rattle.std.proofs.lemmas.Bool.{cases_lt}
use Rattle.std.proofs.lemmas.List.{take_all}
use Rattle.hpe_base.specs.Lists.{tabulate}
use Rattle.hpe_base.specs.Parameters.{Parameters, IsValid, symbol_slots, period_symbols, period_slots, codeword_symbols}
use Rattle.hpe_base.specs.ReceivedWords.{received_sums, channel_sums}
use Rattle.hpe_base.proofs.Tabulated.{length-tabulate, tabulate-same, take-tabulate}
use Rattle.hpe_base.proofs.ParameterLemmas.{codeword_symbols-ge, period-pos}
use Rattle.hpe_base.proofs.SymbolSums.{symbol_sums-front}

-- the symbol of a row comes within the symbols
row_place : (q r s k t g i : ℕ) → t ≡ g * s + i → i < s → r < k + s → t < q * s + (r - k) → g * (k + s) + (k + i) < q * (k + s) + r
row_place q r s k t g i is low below more = elim (cases_lt g q) [
  | inl early ↦
      let up : (g + 1) * (k + s) ≤ q * (k + s) = mul-le (g + 1) (k + s) q (k + s) (omega arith) (omega arith) in
      let one : (g + 1) * (k + s) ≡ g * (k + s) + (k + s) = grind arith in
      omega arith
  | inr late ↦ elim (cases_lt q g) [
    | inl far ↦
        let up : (q + 1) * s ≤ g * s = mul-le (q + 1) s g s (omega arith) (omega arith) in
        let one : (q + 1) * s ≡ q * s + s = grind arith in
        absurd (omega arith)
    | inr near ↦
        let e : g ≡ q = omega arith in
        let a : g * s ≡ q * s = ap (λ x. x * s) e in
        let b : g * (k + s) ≡ q * (k + s) = ap (λ x. x * (k + s)) e in
        omega arith
  ]
]

-- counts behind q periods and r symbols don't change a row of these
pub received_sums-stay : (p : Parameters) (q r : ℕ) (seen more : List ℕ) (t : ℕ) → r < period_symbols p → (q * period_symbols p + r) * symbol_slots p ≤ length seen
    → t < q * codeword_symbols p.order + (r - length p.marker) → received_sums p (seen ++ more) 0 t ≡ received_sums p seen 0 t
received_sums-stay p q r seen more t short fits below =
    let s : ℕ = codeword_symbols p.order in
    let k : ℕ = length p.marker in
    let size : ℕ = symbol_slots p in
    let g : ℕ = t / s in
    let i : ℕ = t % s in
    let some : 0 < s = omega (arith, codeword_symbols-ge p.order) in
    let is : t ≡ g * s + i = sym (div-add-mod' t s) in
    let early : g * (k + s) + (k + i) < q * (k + s) + r = row_place q r s k t g i is (mod_below t s some) short below in
    let up : (g * (k + s) + (k + i) + 1) * size ≤ (q * (k + s) + r) * size = mul-le (g * (k + s) + (k + i) + 1) size (q * (k + s) + r) size (omega arith) (omega arith) in
    let place : (g * (k + s) + (k + i) + 1) * size ≡ 0 + g * ((k + s) * size) + (k + i) * size + size = grind arith in
    symbol_sums-front p seen more (0 + g * period_slots p + (k + i) * size) (omega arith)

-- the rows of whole periods by places
pub channel_sums-are : (p : Parameters) (seen : List ℕ) → channel_sums p seen 0 ≡ tabulate (length seen / period_slots p * codeword_symbols p.order) (received_sums p seen 0)
unfolding channel_sums
channel_sums-are p seen =
    let all : length seen - 0 ≡ length seen = omega arith in ap (λ n. tabulate (n / period_slots p * codeword_symbols p.order) (received_sums p seen 0)) all

-- how many there are
pub length-channel_sums : (p : Parameters) (seen : List ℕ) → length (channel_sums p seen 0) ≡ length seen / period_slots p * codeword_symbols p.order
length-channel_sums p seen = ap (λ (rows : List (List ℕ)). length rows) (channel_sums-are p seen) ∙ length-tabulate _ _

-- they stand at the front where more counts come
pub channel_sums-front : (p : Parameters) (seen more : List ℕ) → IsValid p
    → channel_sums p seen 0 ≡ take (length seen / period_slots p * codeword_symbols p.order) (channel_sums p (seen ++ more) 0)
channel_sums-front p seen more v =
    let s : ℕ = codeword_symbols p.order in
    let q : ℕ = length seen / period_slots p in
    let wide : 1890 ≤ s = codeword_symbols-ge p.order in
    let some : 0 < period_slots p = period-pos p v in
    let f : ℕ → List ℕ = received_sums p (seen ++ more) 0 in
    let fits : q * period_slots p ≤ length seen = div-mul-le_self (length seen) (period_slots p) in
    let room : (q * period_symbols p + 0) * symbol_slots p ≤ length seen = (let e : (q * period_symbols p + 0) * symbol_slots p ≡ q * (period_symbols p * symbol_slots p) = grind arith in omega arith) in
    let up : q ≤ length (seen ++ more) / period_slots p = (le-div_iff_mul-le some).1 (omega (arith, length-append seen more)) in
    let rows : q * s ≤ length (seen ++ more) / period_slots p * s = mul-le-mul_right s up in
    channel_sums-are p seen
    ∙ tabulate-same (q * s) _ _ (λ t below. sym (received_sums-stay p q 0 seen more t (omega arith) room (omega arith)))
    ∙ sym (take-tabulate (q * s) (length (seen ++ more) / period_slots p * s) f rows)
    ∙ ap (take (q * s)) (sym (channel_sums-are p (seen ++ more)))

-- and are the same until a period ends
pub channel_sums-stay : (p : Parameters) (seen more : List ℕ) → IsValid p → length (seen ++ more) < (length seen / period_slots p + 1) * period_slots p
    → channel_sums p (seen ++ more) 0 ≡ channel_sums p seen 0
channel_sums-stay p seen more v less =
    let q : ℕ = length seen / period_slots p in
    let fits : q * period_slots p ≤ length seen = div-mul-le_self (length seen) (period_slots p) in
    let long : length (seen ++ more) ≡ length seen + length more = length-append seen more in
    let next : (q + 1) * period_slots p ≡ q * period_slots p + period_slots p = grind arith in
    let cut : length (seen ++ more) ≡ q * period_slots p + (length (seen ++ more) - q * period_slots p) = omega arith in
    let same : length (seen ++ more) / period_slots p ≡ q = ap (λ n. n / period_slots p) cut ∙ div-mul-add q (period_slots p) (length (seen ++ more) - q * period_slots p) (omega arith) in
    let all : length (channel_sums p (seen ++ more) 0) ≡ q * codeword_symbols p.order = length-channel_sums p (seen ++ more) ∙ ap (λ n. n * codeword_symbols p.order) same in
    sym (channel_sums-front p seen more v ∙ take_all (q * codeword_symbols p.order) (channel_sums p (seen ++ more) 0) (omega arith))
