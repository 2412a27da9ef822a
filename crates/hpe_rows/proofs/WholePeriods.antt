-- The rows of whole periods among those of all counts.
use Rattle.std.proofs.Common.{◌≡◌, ◌+◌, ◌-◌, ◌*◌, ◌/◌, ◌%◌, ◌<◌, ◌≤◌, ℕ, List, length, ap, sym, ◌∙◌, arith, inl, inr}
use Rattle.std.proofs.Math.Nat.{div-mul-le_self}
use Rattle.std.proofs.lemmas.Nat.{div-mul-add, div-add-mod', mod_below, mul-le}
use Rattle.std.proofs.lemmas.Bool.{cases_lt}
use Rattle.hpe_base.specs.Lists.{tabulate}
use Rattle.hpe_base.specs.Parameters.{Parameters, IsValid, symbol_slots, period_symbols, period_slots, codeword_symbols}
use Rattle.hpe_base.specs.ReceivedWords.{received_sums, channel_sums}
use Rattle.hpe_base.proofs.Tabulated.{length-tabulate}
use Rattle.hpe_base.proofs.ParameterLemmas.{codeword_symbols-ge, period-pos, symbol_slots-pos}
use Rattle.hpe_rows.specs.Rows.{symbols_in, periods_in, rows_in, rows_of}
use Rattle.hpe_rows.proofs.SymbolRows.{AreSymbols, symbols_are, rows_are}
use Rattle.hpe_base.proofs.ReceivedRows.{channel_sums-are}

-- where all periods are whole they are all rows
pub channel_sums-rows : (p : Parameters) (q : ℕ) (seen : List ℕ) → IsValid p → length seen ≡ q * period_slots p → channel_sums p seen 0 ≡ rows_of p seen
unfolding rows_of
channel_sums-rows p q seen v long =
    let s : ℕ = codeword_symbols p.order in
    let wide : 1890 ≤ s = codeword_symbols-ge p.order in
    let a : AreSymbols p q 0 seen = record {
      some = symbol_slots-pos p v;
      below = omega arith;
      size = long ∙ (let e : q * (period_symbols p * symbol_slots p) ≡ (q * period_symbols p + 0) * symbol_slots p = grind arith in e);
    } in
    let cut : length seen ≡ q * period_slots p + 0 = omega arith in
    let periods : periods_in p seen ≡ q = ap (λ n. n / period_slots p) cut ∙ div-mul-add q (period_slots p) 0 (period-pos p v) in
    let rows : rows_in p (symbols_in p seen) ≡ q * s + (0 - length p.marker) = ap (rows_in p) (symbols_are p q 0 seen a) ∙ rows_are p q 0 a.below in
    channel_sums-are p seen ∙ ap (λ n. tabulate n (received_sums p seen 0)) (ap (λ n. n * s) periods ∙ (let e : q * s ≡ q * s + (0 - length p.marker) = omega arith in e) ∙ sym rows)

-- so many periods have no more rows than their words have symbols
rows-le : (n q k s : ℕ) → 0 < s → n ≤ q * (k + s) → n / (k + s) * s + (n % (k + s) - k) ≤ q * s
rows-le n q k s some most =
    let a : ℕ = n / (k + s) in
    let cut : a * (k + s) + n % (k + s) ≡ n = div-add-mod' n (k + s) in
    let low : n % (k + s) < k + s = mod_below n (k + s) (omega arith) in
    elim (cases_lt a q) [
      | inl less ↦
          let up : (a + 1) * s ≤ q * s = mul-le (a + 1) s q s (omega arith) (omega arith) in
          let next : (a + 1) * s ≡ a * s + s = grind arith in
          omega arith
      | inr ge ↦ elim (cases_lt q a) [
        | inl far ↦
            let up : (q + 1) * (k + s) ≤ a * (k + s) = mul-le (q + 1) (k + s) a (k + s) (omega arith) (omega arith) in
            let next : (q + 1) * (k + s) ≡ q * (k + s) + (k + s) = grind arith in
            absurd (omega arith)
        | inr near ↦
            let e : a ≡ q = omega arith in
            let b : a * (k + s) ≡ q * (k + s) = ap (λ x. x * (k + s)) e in
            let c : a * s ≡ q * s = ap (λ x. x * s) e in
            omega arith
      ]
    ]

pub length-rows-le : (p : Parameters) (q : ℕ) (seen : List ℕ) → IsValid p → length seen ≤ q * period_slots p → length (rows_of p seen) ≤ q * codeword_symbols p.order
unfolding rows_of
length-rows-le p q seen v most =
    let wide : 1890 ≤ codeword_symbols p.order = codeword_symbols-ge p.order in
    let some : 0 < symbol_slots p = symbol_slots-pos p v in
    let same : q * (period_symbols p * symbol_slots p) ≡ q * period_symbols p * symbol_slots p = grind arith in
    let n : ℕ = symbols_in p seen in
    let fits : n * symbol_slots p ≤ length seen = div-mul-le_self (length seen) (symbol_slots p) in
    let up : n ≤ q * period_symbols p = elim (cases_lt (q * period_symbols p) n) [
      | inl far ↦
          let more : (q * period_symbols p + 1) * symbol_slots p ≤ n * symbol_slots p = mul-le (q * period_symbols p + 1) (symbol_slots p) n (symbol_slots p) (omega arith) (omega arith) in
          let next : (q * period_symbols p + 1) * symbol_slots p ≡ q * period_symbols p * symbol_slots p + symbol_slots p = grind arith in
          absurd (omega arith)
      | inr near ↦ omega arith
    ] in
    let long : length (tabulate (rows_in p n) (received_sums p seen 0)) ≡ rows_in p n = length-tabulate _ _ in
    omega (arith, rows-le n q (length p.marker) (codeword_symbols p.order) (omega arith) up)
