-- Where a period ends among counts that come in parts.
use Rattle.std.proofs.Common.{IsTrue, ◌==◌, ◌≡◌, ◌↔◌, ◌+◌, ◌*◌, ◌/◌, ◌%◌, ◌<◌, ◌≤◌, ◌++◌, ℕ, List, length, ap, sym, subst, ◌∙◌, arith, inl, inr, length-append}
use Rattle.std.proofs.lemmas.Nat.{div-mul-add, div-add-mod', mod_below, mul-le}
use Rattle.std.proofs.Math.Nat.{mod_self, mod-eq_of_lt}
use Rattle.std.proofs.lemmas.Bool.{cases_lt}
use Rattle.std.proofs.lemmas.Bool.Decides.{nat_tests}
use Rattle.std.proofs.lemmas.List.{take-append-drop, length-drop}
use Rattle.hpe_base.specs.Parameters.{symbol_slots, period_symbols, period_slots}
use Rattle.hpe_rows.specs.Rows.{symbols_in, periods_in}
use Rattle.hpe_rows.specs.RowsState.{RowsState, HasRows, whole_symbols}
use Rattle.hpe_rows.proofs.SymbolRows.{AreSymbols, are_symbols}
use Rattle.hpe_rows.proofs.Parts.{joins, IsWhole}
use Rattle.hpe_base.proofs.ParameterLemmas.{symbol_slots-pos}

-- q periods of so many symbols of so many slots, r symbols and one more
up_to : (q r n size : ℕ) → r < n → (q * n + r) * size + size ≤ (q + 1) * (n * size)
up_to q r n size below =
    let e : (q + 1) * (n * size) ≡ (q * n + n) * size = grind arith in
    let f : (q * n + r) * size + size ≡ (q * n + (r + 1)) * size = grind arith in
    let le : (q * n + (r + 1)) * size ≤ (q * n + n) * size = mul-le (q * n + (r + 1)) size (q * n + n) size (omega arith) (omega arith) in
    omega arith

-- reach the end of a period where the symbol is its last
ends : (q r n size : ℕ) → 0 < size → r < n → (r + 1 ≡ n) ↔ ((q * n + r) * size + size ≡ (q + 1) * (n * size))
ends q r n size some below =
    let e : (q + 1) * (n * size) ≡ (q * n + n) * size = grind arith in
    let f : (q * n + r) * size + size ≡ (q * n + (r + 1)) * size = grind arith in (
      λ last. f ∙ ap (λ k. (q * n + k) * size) last ∙ sym e,
      λ reached. elim (cases_lt (r + 1) n) [
        | inl early ↦
            let more : (q * n + (r + 1)) * size + size ≤ (q + 1) * (n * size) = up_to q (r + 1) n size early in
            absurd (omega arith)
        | inr late ↦ omega arith
      ],
    )

-- and the next symbol is the first of a period
turns : (r n : ℕ) → r < n → ((r + 1) % n ≡ 0) ↔ (r + 1 ≡ n)
turns r n below = (
  λ zero. elim (cases_lt (r + 1) n) [
    | inl early ↦ absurd (let e : (r + 1) % n ≡ r + 1 = mod-eq_of_lt early in omega arith)
    | inr late ↦ omega arith
  ],
  λ last. ap (λ k. k % n) last ∙ mod_self n,
)

zero_test : (n : ℕ) → IsTrue (n == 0) ↔ (n ≡ 0)
zero_test n = (λ yes. grind (arith, nat_tests, yes), λ zero. grind (arith, nat_tests, zero))

module _ (s : RowsState) (seen part : List ℕ) (h : HasRows s seen) where
  abbrev whole : List ℕ
  whole = whole_symbols s.parameters seen

  abbrev q : ℕ
  q = symbols_in s.parameters whole / period_symbols s.parameters

  a : AreSymbols s.parameters q s.symbol whole
  a = are_symbols s.parameters s.unweaver s.symbol whole h.passed

  -- less than a symbol is begun
  short : length s.begun < symbol_slots s.parameters
  short =
      let size : ℕ = symbol_slots s.parameters in
      let some : 0 < size = symbol_slots-pos s.parameters h.passed.valid in
      let cut : symbols_in s.parameters seen * size + length seen % size ≡ length seen = div-add-mod' (length seen) size in
      let low : length seen % size < size = mod_below (length seen) size some in
      omega (arith, ap (λ (l : List ℕ). length l) h.begun, length-drop (symbols_in s.parameters seen * size) seen)

  -- the periods before
  periods : periods_in s.parameters seen ≡ q
  periods =
      let n : ℕ = period_symbols s.parameters in
      let size : ℕ = symbol_slots s.parameters in
      let long : length seen ≡ length whole + length s.begun =
      ap (λ (l : List ℕ). length l) (sym (take-append-drop (symbols_in s.parameters seen * size) seen) ∙ ap (λ (b : List ℕ). whole ++ b) (sym h.begun)) ∙ length-append whole s.begun in
      let room : (0 * n + s.symbol) * size + size ≤ (0 + 1) * (n * size) = up_to 0 s.symbol n size a.below in
      let cut : (q * n + s.symbol) * size ≡ q * (n * size) + s.symbol * size = grind arith in
      let here : (0 * n + s.symbol) * size ≡ s.symbol * size = grind arith in
      let all : length seen ≡ q * (n * size) + (s.symbol * size + length s.begun) = omega (arith, a.size) in
      ap (λ k. k / period_slots s.parameters) all ∙ div-mul-add q (n * size) (s.symbol * size + length s.begun) (omega (arith, short))

  -- the counts with the part
  more : (slots : List ℕ) → slots ≡ s.begun ++ part → length (seen ++ part) ≡ (q * period_symbols s.parameters + s.symbol) * symbol_slots s.parameters + length slots
  more slots e = ap (λ (l : List ℕ). length l) (joins s seen part slots h e) ∙ length-append whole slots ∙ ap (λ k. k + length slots) a.size

  -- they don't reach the end of the period where a symbol isn't whole with them
  pub period-begun : (slots : List ℕ) → slots ≡ s.begun ++ part → length slots < symbol_slots s.parameters → length (seen ++ part) < (periods_in s.parameters seen + 1) * period_slots s.parameters
  period-begun slots e less =
      let all = more slots e in
      let room : (q * period_symbols s.parameters + s.symbol) * symbol_slots s.parameters + symbol_slots s.parameters ≤ (q + 1) * period_slots s.parameters = up_to q s.symbol (period_symbols s.parameters) (symbol_slots s.parameters) a.below in
      subst (λ k. length (seen ++ part) < (k + 1) * period_slots s.parameters) (sym periods) (omega arith)

  -- with a whole symbol they don't pass it
  pub period-symbol : (slots : List ℕ) (next : ℕ) → IsWhole s part slots next → length (seen ++ part) ≤ (periods_in s.parameters seen + 1) * period_slots s.parameters
  period-symbol slots next w =
      let all = more slots w.counts in
      let one = w.one in
      let room : (q * period_symbols s.parameters + s.symbol) * symbol_slots s.parameters + symbol_slots s.parameters ≤ (q + 1) * period_slots s.parameters = up_to q s.symbol (period_symbols s.parameters) (symbol_slots s.parameters) a.below in
      subst (λ k. length (seen ++ part) ≤ (k + 1) * period_slots s.parameters) (sym periods) (omega arith)

  -- and reach it where the next symbol is the first of a period
  pub ended-symbol : (slots : List ℕ) (next : ℕ) → IsWhole s part slots next → IsTrue (next == 0) ↔ (length (seen ++ part) ≡ (periods_in s.parameters seen + 1) * period_slots s.parameters)
  ended-symbol slots next w =
      let n : ℕ = period_symbols s.parameters in
      let size : ℕ = symbol_slots s.parameters in
      let t = turns s.symbol n a.below in
      let i = ends q s.symbol n size a.some a.below in
      let z = zero_test next in
      let all : length (seen ++ part) ≡ (q * n + s.symbol) * size + size = more slots w.counts ∙ ap (λ k. (q * n + s.symbol) * size + k) w.one in
      let there : (q + 1) * period_slots s.parameters ≡ (periods_in s.parameters seen + 1) * period_slots s.parameters = ap (λ k. (k + 1) * period_slots s.parameters) (sym periods) in
      (λ yes. all ∙ i.0 (t.0 (sym w.place ∙ z.0 yes)) ∙ there, λ reached. z.1 (w.place ∙ t.1 (i.1 (sym all ∙ reached ∙ sym there))))
