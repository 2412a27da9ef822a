-- Counts that come in parts of any length: whole symbols, and the symbol that is begun.
use Rattle.std.proofs.Common.{Bool, ◌≡◌, ◌+◌, ◌*◌, ◌/◌, ◌%◌, ◌<◌, ◌≤◌, ◌++◌, ℕ, List, [], length, take, drop, ap, sym, subst, refl, ◌∙◌, arith, append-nil, append_assoc, length-append}
use Rattle.std.proofs.lemmas.Nat.{div-mul-add, div-add-mod', mod_below}
use Rattle.std.proofs.Math.Seq.{drop-append_seam}
use Rattle.std.proofs.lemmas.List.{take-append-le, take_all, take-append-drop, length-take}
use Rattle.hpe_base.specs.Lists.{tabulate}
use Rattle.hpe_base.specs.Parameters.{Parameters, IsValid, symbol_slots, period_symbols, codeword_symbols}
use Rattle.hpe_base.specs.ChannelInterleaver.{deinterleaved_channel}
use Rattle.hpe_base.specs.ReceivedWords.{received_sums}
use Rattle.hpe_base.proofs.ParameterLemmas.{codeword_symbols-ge, symbol_slots-pos}
use Rattle.hpe_weave.specs.Unweaving.{Unweaving, HasUnwoven}
use Rattle.hpe_weave.proofs.WeaverLemmas.{next_row}
use Rattle.hpe_rows.specs.Rows.{symbols_in, rows_in, rows_of, placed_rows, row_if}
use Rattle.hpe_rows.specs.RowsState.{RowsState, HasPassed, HasRows, whole_symbols, begun_symbol}
use Rattle.hpe_rows.proofs.SymbolRows.{AreSymbols, received_sums-front}
use Rattle.hpe_base.proofs.Tabulated.{tabulate-same}

-- counts that are whole symbols and less than a symbol more
record IsCut (p : Parameters) (whole begun : List ℕ) : Type 0 where
  symbols : whole_symbols p (whole ++ begun) ≡ whole
  rest : begun_symbol p (whole ++ begun) ≡ begun

cut_at : (p : Parameters) (whole begun : List ℕ) → length whole ≡ symbols_in p whole * symbol_slots p → length begun < symbol_slots p → IsCut p whole begun
cut_at p whole begun long short =
    let n : ℕ = symbols_in p whole in
    let size : ℕ = symbol_slots p in
    let count : symbols_in p (whole ++ begun) ≡ n = ap (λ k. k / size) (length-append whole begun ∙ ap (λ k. k + length begun) long) ∙ div-mul-add n size (length begun) short in
    let place : symbols_in p (whole ++ begun) * size ≡ length whole = ap (λ k. k * size) count ∙ sym long in
    record {
      symbols = ap (λ k. take k (whole ++ begun)) place ∙ take-append-le (length whole) whole begun (omega arith) ∙ take_all (length whole) whole (omega arith);
      rest = ap (λ k. drop k (whole ++ begun)) place ∙ drop-append_seam whole begun;
    }

-- what has passed whole symbols, and keeps the rest
has_at : (s : RowsState) (whole begun : List ℕ) → HasPassed s.parameters s.unweaver s.symbol whole → s.begun ≡ begun → length begun < symbol_slots s.parameters → HasRows s (whole ++ begun)
has_at s whole begun h e short =
    let c : IsCut s.parameters whole begun = cut_at s.parameters whole begun h.whole short in
    record {
      passed = subst (λ (w : List ℕ). HasPassed s.parameters s.unweaver s.symbol w) (sym c.symbols) h;
      begun = e ∙ sym c.rest;
    }

-- before the first count
pub has_none : (s : RowsState) → HasPassed s.parameters s.unweaver s.symbol [] → s.begun ≡ [] → HasRows s []
has_none s h none = has_at s [] [] h none (symbol_slots-pos s.parameters h.valid)

-- more counts: with them the rest of a symbol that is begun, or a whole one
pub joins : (s : RowsState) (seen part slots : List ℕ) → HasRows s seen → slots ≡ s.begun ++ part → seen ++ part ≡ whole_symbols s.parameters seen ++ slots
joins s seen part slots h e =
    let p : Parameters = s.parameters in
    let w : List ℕ = whole_symbols p seen in
    ap (λ (x : List ℕ). x ++ part) (sym (take-append-drop (symbols_in p seen * symbol_slots p) seen) ∙ ap (λ (b : List ℕ). w ++ b) (sym h.begun))
    ∙ append_assoc w s.begun part ∙ ap (λ (x : List ℕ). w ++ x) (sym e)

-- the symbol isn't whole with them
pub has_begun : (s : RowsState) (seen part begun : List ℕ) → HasRows s seen → begun ≡ s.begun ++ part → length begun < symbol_slots s.parameters → HasRows (record s { begun = begun }) (seen ++ part)
has_begun s seen part begun h e short =
    subst (λ (x : List ℕ). HasRows (record s { begun = begun }) x) (sym (joins s seen part begun h e))
    (has_at (record s { begun = begun }) (whole_symbols s.parameters seen) begun h.passed refl short)

-- one symbol more has passed
passed_more : (p : Parameters) (u u' : Unweaving) (symbol symbol' : ℕ) (seen slots : List ℕ) → HasPassed p u symbol seen → length slots ≡ symbol_slots p
    → symbol' ≡ (symbol + 1) % period_symbols p → HasUnwoven u' (rows_of p (seen ++ slots)) → HasPassed p u' symbol' (seen ++ slots)
passed_more p u u' symbol symbol' seen slots h one next unwoven =
    let n : ℕ = symbols_in p seen in
    let size : ℕ = symbol_slots p in
    let long : length (seen ++ slots) ≡ (n + 1) * size + 0 = (let up : (n + 1) * size ≡ n * size + size = grind arith in omega (arith, length-append seen slots, h.whole)) in
    let count : symbols_in p (seen ++ slots) ≡ n + 1 = ap (λ k. k / size) long ∙ div-mul-add (n + 1) size 0 (symbol_slots-pos p h.valid) in
    record {
      valid = h.valid;
      whole = long ∙ (let e : (n + 1) * size + 0 ≡ (n + 1) * size = omega arith in e) ∙ ap (λ k. k * size) (sym count);
      place = next_row (period_symbols p) n symbol symbol' h.place next ∙ ap (λ k. k % period_symbols p) (sym count);
      unwoven = unwoven;
    }

-- or is whole with them, and the next one has this place in the period
pub record IsWhole (s : RowsState) (part slots : List ℕ) (next : ℕ) : Type 0 where
  pub counts : slots ≡ s.begun ++ part
  pub one : length slots ≡ symbol_slots s.parameters
  pub place : next ≡ (s.symbol + 1) % period_symbols s.parameters

pub has_symbol : (s : RowsState) (u : Unweaving) (next : ℕ) (seen part slots begun : List ℕ) → HasRows s seen → IsWhole s part slots next
    → HasUnwoven u (rows_of s.parameters (whole_symbols s.parameters seen ++ slots)) → begun ≡ [] → HasRows (record s { unweaver = u; symbol = next; begun = begun }) (seen ++ part)
has_symbol s u next seen part slots begun h w unwoven none =
    let p : Parameters = s.parameters in
    let whole : List ℕ = whole_symbols p seen in
    let new : RowsState = record s { unweaver = u; symbol = next; begun = begun } in
    subst (λ (x : List ℕ). HasRows new x) (append-nil (whole ++ slots) ∙ sym (joins s seen part slots h w.counts))
    (has_at new (whole ++ slots) [] (passed_more p s.unweaver u s.symbol next whole slots h.passed w.one w.place unwoven) none (symbol_slots-pos p h.passed.valid))

-- counts of a symbol that isn't whole bring no row
rows-whole : (p : Parameters) (seen : List ℕ) → IsValid p → rows_of p (whole_symbols p seen) ≡ rows_of p seen
unfolding rows_of
rows-whole p seen valid =
    let n : ℕ = symbols_in p seen in
    let size : ℕ = symbol_slots p in
    let whole : List ℕ = whole_symbols p seen in
    let rest : List ℕ = begun_symbol p seen in
    let some : 0 < size = symbol_slots-pos p valid in
    let high : 1890 ≤ codeword_symbols p.order = codeword_symbols-ge p.order in
    let fits : n * size + length seen % size ≡ length seen = div-add-mod' (length seen) size in
    let long : length whole ≡ n * size = omega (arith, length-take (n * size) seen) in
    let even : length whole ≡ n * size + 0 = omega arith in
    let count : symbols_in p whole ≡ n = ap (λ m. m / size) even ∙ div-mul-add n size 0 some in
    let cut : n / period_symbols p * period_symbols p + n % period_symbols p ≡ n = div-add-mod' n (period_symbols p) in
    let a : AreSymbols p (n / period_symbols p) (n % period_symbols p) whole = record {
      some = some;
      below = mod_below n (period_symbols p) (omega arith);
      size = long ∙ ap (λ m. m * size) (sym cut);
    } in
    ap (λ m. tabulate (rows_in p m) (received_sums p whole 0)) count
    ∙ tabulate-same (rows_in p n) _ _ (λ t below.
    sym (received_sums-front p (n / period_symbols p) (n % period_symbols p) whole rest t a below) ∙ ap (λ l. received_sums p l 0 t) (take-append-drop (n * size) seen))

-- and so more of them bring none
pub placed-begun : (s : RowsState) (seen part begun : List ℕ) → HasRows s seen → begun ≡ s.begun ++ part → length begun < symbol_slots s.parameters
    → placed_rows s.parameters (seen ++ part) ≡ placed_rows s.parameters seen ++ []
placed-begun s seen part begun h e short =
    let p : Parameters = s.parameters in
    let w : List ℕ = whole_symbols p seen in
    let v : IsValid p = h.passed.valid in
    let same : whole_symbols p (seen ++ part) ≡ w = ap (whole_symbols p) (joins s seen part begun h e) ∙ (cut_at p w begun h.passed.whole short).symbols in
    let rows : rows_of p (seen ++ part) ≡ rows_of p seen = sym (rows-whole p (seen ++ part) v) ∙ ap (rows_of p) same ∙ rows-whole p seen v in
    ap (λ (rs : List (List ℕ)). deinterleaved_channel p [] rs) rows ∙ sym (append-nil (placed_rows p seen))

-- and a whole symbol brings what it brings behind whole symbols
pub placed-symbol : (s : RowsState) (next : ℕ) (seen part slots into : List ℕ) (came : Bool) → HasRows s seen → IsWhole s part slots next
    → placed_rows s.parameters (whole_symbols s.parameters seen ++ slots) ≡ placed_rows s.parameters (whole_symbols s.parameters seen) ++ row_if came into
    → placed_rows s.parameters (seen ++ part) ≡ placed_rows s.parameters seen ++ row_if came into
placed-symbol s next seen part slots into came h w brings =
    let p : Parameters = s.parameters in
    ap (λ (x : List ℕ). placed_rows p x) (joins s seen part slots h w.counts) ∙ brings
    ∙ ap (λ (rs : List (List ℕ)). deinterleaved_channel p [] rs ++ row_if came into) (rows-whole p seen h.passed.valid)
