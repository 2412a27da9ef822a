-- The rows of counts as they come symbol by symbol.
use Rattle.std.proofs.Common.{◌≡◌, ◌+◌, ◌-◌, ◌*◌, ◌/◌, ◌%◌, ◌<◌, ◌≤◌, ◌++◌, ℕ, List, [], ◌∷◌, length, ap, ap₂, sym, subst, ◌∙◌, arith, inl, inr}
use Rattle.std.proofs.lemmas.Nat.{div-mul-add, mod-mul-add, div-add-mod', mod_below}
use Rattle.std.proofs.lemmas.Bool.{cases_lt}
use Rattle.std.proofs.lemmas.List.{length-append, nil_from_length}
use Rattle.hpe_base.specs.Lists.{tabulate}
use Rattle.hpe_base.specs.Parameters.{Parameters, IsValid, symbol_slots, period_symbols, period_slots, codeword_symbols}
use Rattle.hpe_base.specs.ReceivedWords.{symbol_sums, received_sums}
use Rattle.hpe_base.proofs.Tabulated.{tabulate-more, length-tabulate, tabulate-same}
use Rattle.hpe_base.proofs.ParameterLemmas.{codeword_symbols-ge, symbol_slots-pos}
use Rattle.hpe_weave.specs.Unweaving.{Unweaving, HasUnwoven}
use Rattle.hpe_rows.specs.Rows.{symbols_in, rows_in, rows_of}
use Rattle.hpe_rows.specs.RowsState.{HasPassed}
use Rattle.hpe_base.proofs.SymbolSums.{symbol_sums-behind}
use Rattle.hpe_base.proofs.ReceivedRows.{received_sums-stay}

-- counts that are n whole symbols, of which q periods and r symbols more
pub record AreSymbols (p : Parameters) (q r : ℕ) (seen : List ℕ) : Type 0 where
  pub some : 0 < symbol_slots p
  pub below : r < period_symbols p
  pub size : length seen ≡ (q * period_symbols p + r) * symbol_slots p

pub symbols_are : (p : Parameters) (q r : ℕ) (seen : List ℕ) → AreSymbols p q r seen → symbols_in p seen ≡ q * period_symbols p + r
symbols_are p q r seen a =
    let n : ℕ = q * period_symbols p + r in
    let whole : length seen ≡ n * symbol_slots p + 0 = omega (arith, a.size) in
    ap (λ m. m / symbol_slots p) whole ∙ div-mul-add n (symbol_slots p) 0 a.some

-- the rows of so many symbols
pub rows_are : (p : Parameters) (q r : ℕ) → r < period_symbols p → rows_in p (q * period_symbols p + r) ≡ q * codeword_symbols p.order + (r - length p.marker)
rows_are p q r below =
    ap₂ (λ a b. a * codeword_symbols p.order + (b - length p.marker)) (div-mul-add q (period_symbols p) r below) (mod-mul-add q (period_symbols p) r below)

pub received_sums-front : (p : Parameters) (q r : ℕ) (seen more : List ℕ) (t : ℕ) → AreSymbols p q r seen → t < q * codeword_symbols p.order + (r - length p.marker)
    → received_sums p (seen ++ more) 0 t ≡ received_sums p seen 0 t
received_sums-front p q r seen more t a below = received_sums-stay p q r seen more t a.below (omega (arith, a.size)) below

-- a marker symbol brings no row
rows_of-marker : (p : Parameters) (q r : ℕ) (seen slots : List ℕ) → AreSymbols p q r seen → length slots ≡ symbol_slots p → r < length p.marker
    → rows_of p (seen ++ slots) ≡ rows_of p seen
unfolding rows_of
rows_of-marker p q r seen slots a one early =
    let s : ℕ = codeword_symbols p.order in
    let next : AreSymbols p q (r + 1) (seen ++ slots) = record {
      some = a.some;
      below = (let some : 1890 ≤ s = codeword_symbols-ge p.order in omega arith);
      size = length-append seen slots ∙ ap₂ (λ x y. x + y) a.size one ∙ (let e : (q * period_symbols p + r) * symbol_slots p + symbol_slots p ≡ (q * period_symbols p + (r + 1)) * symbol_slots p = grind arith in e);
    } in
    let old : rows_in p (symbols_in p seen) ≡ q * s + 0 = ap (rows_in p) (symbols_are p q r seen a) ∙ rows_are p q r a.below ∙ (let e : r - length p.marker ≡ 0 = omega arith in ap (λ x. q * s + x) e) in
    let new : rows_in p (symbols_in p (seen ++ slots)) ≡ q * s + 0 = ap (rows_in p) (symbols_are p q (r + 1) (seen ++ slots) next) ∙ rows_are p q (r + 1) next.below ∙ (let e : (r + 1) - length p.marker ≡ 0 = omega arith in ap (λ x. q * s + x) e) in
    ap (λ n. tabulate n (received_sums p (seen ++ slots) 0)) (new ∙ sym old)
    ∙ tabulate-same (rows_in p (symbols_in p seen)) _ _ (λ t below. received_sums-front p q r seen slots t a (omega (arith, old)))

-- another symbol brings its own
rows_of-row : (p : Parameters) (q r : ℕ) (seen slots : List ℕ) → AreSymbols p q r seen → length slots ≡ symbol_slots p → length p.marker ≤ r
    → rows_of p (seen ++ slots) ≡ rows_of p seen ++ symbol_sums p slots 0 ∷ []
unfolding rows_of
rows_of-row p q r seen slots a one late =
    let s : ℕ = codeword_symbols p.order in
    let k : ℕ = length p.marker in
    let size : ℕ = symbol_slots p in
    let n : ℕ = q * s + (r - k) in
    let some : 1890 ≤ s = codeword_symbols-ge p.order in
    let long : length (seen ++ slots) ≡ (q * period_symbols p + r + 1) * size =
    length-append seen slots ∙ ap₂ (λ x y. x + y) a.size one ∙ (let e : (q * period_symbols p + r) * size + size ≡ (q * period_symbols p + r + 1) * size = grind arith in e) in
    let old : rows_in p (symbols_in p seen) ≡ n = ap (rows_in p) (symbols_are p q r seen a) ∙ rows_are p q r a.below in
    let new : rows_in p (symbols_in p (seen ++ slots)) ≡ n + 1 = elim (cases_lt (r + 1) (period_symbols p)) [
      | inl within ↦
          let next : AreSymbols p q (r + 1) (seen ++ slots) = record { some = a.some; below = within; size = long ∙ ap (λ m. m * size) (let e : q * period_symbols p + r + 1 ≡ q * period_symbols p + (r + 1) = omega arith in e) } in
          let less : (r + 1) - k ≡ (r - k) + 1 = omega arith in
          ap (rows_in p) (symbols_are p q (r + 1) (seen ++ slots) next) ∙ rows_are p q (r + 1) within ∙ (let e : q * s + ((r + 1) - k) ≡ n + 1 = omega arith in e)
      | inr ends ↦
          let whole : q * period_symbols p + r + 1 ≡ (q + 1) * period_symbols p + 0 = (let e : (q + 1) * period_symbols p ≡ q * period_symbols p + period_symbols p = grind arith in omega (arith, a.below)) in
          let next : AreSymbols p (q + 1) 0 (seen ++ slots) = record { some = a.some; below = omega arith; size = long ∙ ap (λ m. m * size) whole } in
          let up : (q + 1) * s ≡ q * s + s = grind arith in
          ap (rows_in p) (symbols_are p (q + 1) 0 (seen ++ slots) next) ∙ rows_are p (q + 1) 0 next.below ∙ (let e : (q + 1) * s + (0 - k) ≡ n + 1 = omega (arith, a.below) in e)
    ] in
    let place : 0 + n / s * period_slots p + (k + n % s) * size ≡ length seen =
    (let rest : r - k < s = omega (arith, a.below) in
    ap₂ (λ x y. 0 + x * period_slots p + (k + y) * size) (div-mul-add q s (r - k) rest) (mod-mul-add q s (r - k) rest)
    ∙ (let up : k + (r - k) ≡ r = omega arith in ap (λ x. 0 + q * period_slots p + x * size) up)
    ∙ (let e : 0 + q * (period_symbols p * size) + r * size ≡ (q * period_symbols p + r) * size = grind arith in e)
    ∙ sym a.size) in
    ap (λ m. tabulate m (received_sums p (seen ++ slots) 0)) new
    ∙ tabulate-more n (received_sums p (seen ++ slots) 0)
    ∙ ap₂ (λ xs x. xs ++ x ∷ [])
    (tabulate-same n _ _ (λ t below. received_sums-front p q r seen slots t a below) ∙ ap (λ m. tabulate m (received_sums p seen 0)) (sym old))
    (ap (symbol_sums p (seen ++ slots)) place ∙ symbol_sums-behind p seen slots)

-- how many rows have come
length-rows : (p : Parameters) (q r : ℕ) (seen : List ℕ) → AreSymbols p q r seen → length (rows_of p seen) ≡ q * codeword_symbols p.order + (r - length p.marker)
unfolding rows_of
length-rows p q r seen a = length-tabulate _ _ ∙ ap (rows_in p) (symbols_are p q r seen a) ∙ rows_are p q r a.below

-- what has passed are whole symbols
pub are_symbols : (p : Parameters) (u : Unweaving) (symbol : ℕ) (seen : List ℕ) → HasPassed p u symbol seen → AreSymbols p (symbols_in p seen / period_symbols p) symbol seen
are_symbols p u symbol seen h =
    let some : 1890 ≤ codeword_symbols p.order = codeword_symbols-ge p.order in
    let n : ℕ = symbols_in p seen in
    let cut : n / period_symbols p * period_symbols p + n % period_symbols p ≡ n = div-add-mod' n (period_symbols p) in
    record {
      some = symbol_slots-pos p h.valid;
      below = subst (λ k. k < period_symbols p) (sym h.place) (mod_below n (period_symbols p) (omega arith));
      size = h.whole ∙ ap (λ k. k * symbol_slots p) (sym cut ∙ ap (λ k. n / period_symbols p * period_symbols p + k) (sym h.place));
    }

-- one symbol more, of a marker
pub passed-marker : (p : Parameters) (u : Unweaving) (symbol : ℕ) (seen slots : List ℕ) → HasPassed p u symbol seen → length slots ≡ symbol_slots p → symbol < length p.marker
    → rows_of p (seen ++ slots) ≡ rows_of p seen
passed-marker p u symbol seen slots h one early = rows_of-marker p _ symbol seen slots (are_symbols p u symbol seen h) one early

-- or another one
pub passed-row : (p : Parameters) (u : Unweaving) (symbol : ℕ) (seen slots row : List ℕ) → HasPassed p u symbol seen → length slots ≡ symbol_slots p → length p.marker ≤ symbol
    → row ≡ symbol_sums p slots 0 → rows_of p (seen ++ slots) ≡ rows_of p seen ++ row ∷ []
passed-row p u symbol seen slots row h one late sums =
    rows_of-row p _ symbol seen slots (are_symbols p u symbol seen h) one late ∙ ap (λ (r : List ℕ). rows_of p seen ++ r ∷ []) (sym sums)

-- before the first count
no-symbols : (p : Parameters) → IsValid p → AreSymbols p 0 0 []
no-symbols p v =
    let some : 1890 ≤ codeword_symbols p.order = codeword_symbols-ge p.order in
    record { some = symbol_slots-pos p v; below = omega arith; size = (let e : 0 ≡ (0 * period_symbols p + 0) * symbol_slots p = grind arith in e) }

pub rows_of-none : (p : Parameters) → IsValid p → rows_of p [] ≡ []
rows_of-none p v =
    nil_from_length (rows_of p []) (length-rows p 0 0 [] (no-symbols p v) ∙ (let e : 0 * codeword_symbols p.order + (0 - length p.marker) ≡ 0 = omega arith in e))

pub passed-none : (p : Parameters) (u : Unweaving) → IsValid p → HasUnwoven u [] → HasPassed p u 0 []
passed-none p u v h =
    let a : AreSymbols p 0 0 [] = no-symbols p v in
    let none : symbols_in p [] ≡ 0 * period_symbols p + 0 = symbols_are p 0 0 [] a in
    record {
      valid = v;
      whole = a.size ∙ ap (λ k. k * symbol_slots p) (sym none);
      place = sym (mod-mul-add 0 (period_symbols p) 0 a.below) ∙ ap (λ k. k % period_symbols p) (sym none);
      unwoven = subst (HasUnwoven u) (sym (rows_of-none p v)) h;
    }
