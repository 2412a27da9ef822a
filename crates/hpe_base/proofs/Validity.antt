-- What follows where every range and every rule holds.
use Rattle.std.proofs.Common.{◌≡◌, ◌<◌, ◌≤◌, ◌+◌, ◌-◌, ◌*◌, ◌/◌, ◌%◌, ◌^◌, ◌&&◌, ◌==◌, ℕ, ℤ, pos, negsuc, Bool, true, false, List, [], ◌∷◌, None, refl, length, get_or, map, sym, subst, ap, arith, zero, suc, unsigned_abs, nat_le, nat_lt, All, lit<, is_some}
use Rattle.std.proofs.lemmas.List.{length-map}
use Rattle.std.specs.Prelude.{sum_by}
use Rattle.std.specs.List.{list_all, AllPass, range_with_len}
use Rattle.std.proofs.lemmas.Bool.{leb-true, ltb-true, eqb-true}
use Rattle.std.proofs.lemmas.List.Sums.{AllPass-from_list_all}
use Rattle.hpe_base.specs.Parameters.{Parameters, IsInRange, IsValid, flags_set, positions, code_steps, codeword_bits, codeword_symbols, interleaver_depth, period_slots}
use Rattle.hpe_base.specs.Validity.{within, order_of, rate_of, is_columns, is_marker, columns_of, column_at, is_column_character, first_failing, ranges, first_out_of_range, parameters_of, rules, first_broken}
use Rattle.hpe_base.specs.declared.fields.Fields.{Fields}
use Rattle.hpe_base.specs.declared.fault.Key.TheVariants as key
use Rattle.hpe_base.specs.declared.fault.Rule.TheVariants as rule
use Rattle.hpe_base.proofs.Tabulated.{length-tabulate, get_or-tabulate}

-- where no test fails, each holds
passes : {X : Type 0} (tests : List (X × Bool)) (i : ℕ) (d : X × Bool) → first_failing tests ≡ None → i < length tests → (get_or tests i d).1 ≡ true
unfolding first_failing
passes [] i d h b = absurd (omega arith)
passes ((x, true) ∷ tests) zero d h b = refl
passes ((x, true) ∷ tests) (suc i) d h b = passes tests i d h (omega arith)
passes ((x, false) ∷ tests) i d h b = cc

-- one part of a conjunction of tests
both-left : (a b : Bool) → (a && b) ≡ true → a ≡ true
both-left true b h = refl
both-left false b h = h

-- the other part
both-right : (a b : Bool) → (a && b) ≡ true → b ≡ true
both-right true b h = h
both-right false b h = cc

-- a number within a range is bounded below
within-low : (low high : ℕ) (z : ℤ) → within low high z ≡ true → low ≤ unsigned_abs z
within-low low high (pos n) h = grind arith
within-low low high (negsuc n) h = grind arith

-- and above
within-high : (low high : ℕ) (z : ℤ) → within low high z ≡ true → unsigned_abs z ≤ high
within-high low high (pos n) h = grind arith
within-high low high (negsuc n) h = grind arith

-- each column that a text writes has three flags
columns-whole : (text : List ℕ) → All (λ column. length column ≡ 3) (columns_of text)
columns-whole text = λ k d b.
    let below : k < (length text + 1) / 4 = omega (arith, length-tabulate ((length text + 1) / 4) (column_at text)) in
    ap length (get_or-tabulate ((length text + 1) / 4) (column_at text) k d below)

-- where no key is out of its range, the parameters are within theirs
pub in_range : (f : Fields) → first_out_of_range f ≡ None → IsInRange (parameters_of f)
in_range f h =
    let at : (i : ℕ) → i < 16 → (get_or (ranges f) i (key.Order, true)).1 ≡ true = λ i b. passes (ranges f) i (key.Order, true) h b in
    let word : within 1 (2 ^ 32 - 1) f.check ≡ true = both-left _ (unsigned_abs f.check % 2 == 1) (at 6 (lit< tt)) in
    let odd : unsigned_abs f.check % 2 ≡ 1 = eqb-true (unsigned_abs f.check % 2) 1 (both-right (within 1 (2 ^ 32 - 1) f.check) _ (at 6 (lit< tt))) in
    let text : List ℕ = f.columns.now in
    let form : (length text % 4 == 3 && nat_le (length text) 47) ≡ true =
    both-left _ (list_all (is_column_character text) (range_with_len 0 (length text))) (at 7 (lit< tt)) in
    let groups : length text % 4 ≡ 3 = eqb-true (length text % 4) 3 (both-left _ (nat_le (length text) 47) form) in
    let few : length text ≤ 47 = leb-true (length text) 47 (both-right (length text % 4 == 3) _ form) in
    let size : length (columns_of text) ≡ (length text + 1) / 4 = length-tabulate ((length text + 1) / 4) (column_at text) in
    let symbols : within 1 64 (pos (length f.marker.now)) ≡ true = both-left _ (list_all (within 0 255) f.marker.now) (at 10 (lit< tt)) in
    let long : length (map unsigned_abs f.marker.now) ≡ length f.marker.now = length-map f.marker.now unsigned_abs in
    record {
      frame_low = within-low 1 65536 f.frame_octets (at 2 (lit< tt));
      frame_high = within-high 1 65536 f.frame_octets (at 2 (lit< tt));
      frame_marker_low = within-low 1 (2 ^ 32 - 1) f.frame_marker (at 3 (lit< tt));
      frame_marker_high = omega (arith, within-high 1 (2 ^ 32 - 1) f.frame_marker (at 3 (lit< tt)));
      taps_high = omega (arith, within-high 0 255 f.taps (at 4 (lit< tt)));
      seed_high = omega (arith, within-high 0 255 f.seed (at 5 (lit< tt)));
      check_odd = odd;
      check_high = omega (arith, within-high 1 (2 ^ 32 - 1) f.check word);
      columns_low = omega arith;
      columns_high = omega arith;
      columns_whole = columns-whole f.columns.now;
      rows_low = within-low 1 64 f.rows (at 8 (lit< tt));
      rows_high = within-high 1 64 f.rows (at 8 (lit< tt));
      delay_low = within-low 1 (2 ^ 23) f.delay (at 9 (lit< tt));
      delay_high = within-high 1 (2 ^ 23) f.delay (at 9 (lit< tt));
      marker_low = omega (arith, within-low 1 64 (pos (length f.marker.now)) symbols);
      marker_high = omega (arith, within-high 1 64 (pos (length f.marker.now)) symbols);
      repeat_low = within-low 1 32 f.repeat (at 11 (lit< tt));
      repeat_high = within-high 1 32 f.repeat (at 11 (lit< tt));
      rounds_low = within-low 1 64 f.rounds (at 12 (lit< tt));
      rounds_high = within-high 1 64 f.rounds (at 12 (lit< tt));
      search_low = within-low 1 4 f.search (at 13 (lit< tt));
      search_high = within-high 1 4 f.search (at 13 (lit< tt));
      count_octets_low = within-low 1 2 f.count_octets (at 14 (lit< tt));
      count_octets_high = within-high 1 2 f.count_octets (at 14 (lit< tt));
      scale_low = within-low 1 8 f.scale (at 15 (lit< tt));
      scale_high = within-high 1 8 f.scale (at 15 (lit< tt));
    }

-- the same of equal parameters
pub IsInRange-along : (p q : Parameters) → p ≡ q → IsInRange q → IsInRange p
IsInRange-along p q e h = subst IsInRange (sym e) h

-- and the order can be read
pub order-some : (f : Fields) → first_out_of_range f ≡ None → is_some (order_of f.order) ≡ true
order-some f h = passes (ranges f) 0 (key.Order, true) h (lit< tt)

-- the rate can be read
pub rate-some : (f : Fields) → first_out_of_range f ≡ None → is_some (rate_of f.rate.now) ≡ true
rate-some f h = passes (ranges f) 1 (key.Order, true) h (lit< tt)

-- the columns are written as they should be
pub columns-right : (f : Fields) → first_out_of_range f ≡ None → is_columns f.columns.now ≡ true
columns-right f h = passes (ranges f) 7 (key.Order, true) h (lit< tt)

-- the marker has pulse positions alone
pub marker-right : (f : Fields) → first_out_of_range f ≡ None → is_marker f.marker.now ≡ true
marker-right f h = passes (ranges f) 10 (key.Order, true) h (lit< tt)

-- parameters within their ranges that break no rule are valid
pub is_valid : (p : Parameters) → IsInRange p → first_broken p ≡ None → IsValid p
is_valid p r h =
    let at : (i : ℕ) → i < 7 → (get_or (rules p) i (rule.Window, true)).1 ≡ true = λ i b. passes (rules p) i (rule.Window, true) h b in
    let set : AllPass (λ column. nat_le 1 (flags_set column)) p.columns = AllPass-from_list_all (λ column. nat_le 1 (flags_set column)) p.columns (at 0 (lit< tt)) in
    let low : AllPass (λ v. nat_lt v (positions p.order)) p.marker = AllPass-from_list_all (λ v. nat_lt v (positions p.order)) p.marker (at 4 (lit< tt)) in
    record {
      range = r;
      column_set = λ k d b. leb-true 1 (flags_set (get_or p.columns k d)) (set k d b);
      column_count = eqb-true (code_steps p.rate % length p.columns) 0 (at 1 (lit< tt));
      kept_total = eqb-true (code_steps p.rate / length p.columns * sum_by flags_set p.columns) codeword_bits (at 2 (lit< tt));
      rows_divide = eqb-true (codeword_symbols p.order % p.rows) 0 (at 3 (lit< tt));
      marker_value = λ k d b. ltb-true (get_or p.marker k d) (positions p.order) (low k d b);
      depth = leb-true (interleaver_depth p * positions p.order) (2 ^ 26) (at 5 (lit< tt));
      window = leb-true (p.search * period_slots p) (2 ^ 26) (at 6 (lit< tt));
    }
