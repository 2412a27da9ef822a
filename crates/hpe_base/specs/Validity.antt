-- Which fields make a profile, and what is answered where they make none.
use Rattle.std.specs.Prelude.{if◌then◌else◌, ℕ, ℤ, pos, negsuc, int_le, unsigned_abs, ◌+◌, ◌-◌, ◌*◌, ◌/◌, ◌%◌, ◌^◌, ◌==◌, nat_le, nat_lt, Bool, ◌&&◌, ◌||◌, List, [], ◌∷◌, length, map, slice_index, sum_by, Option, Some, None, Result, Ok, Err, is_some, unwrap_or, codes, bytes_eq}
use Rattle.std.specs.List.{range_with_len, list_all}
use Rattle.hpe_base.specs.Lists.{tabulate}
use Rattle.hpe_base.specs.Parameters.{Parameters, positions, code_steps, codeword_bits, codeword_symbols, flags_set, interleaver_depth, period_slots}
use Rattle.hpe_base.specs.declared.profile.Order.{Order}
use Rattle.hpe_base.specs.declared.profile.Order.TheVariants.{P4, P8, P16, P32, P64, P128, P256}
use Rattle.hpe_base.specs.declared.profile.Rate.{Rate}
use Rattle.hpe_base.specs.declared.profile.Rate.TheVariants.{Third, Half, TwoThirds}
use Rattle.hpe_base.specs.declared.fault.Key.{Key}
use Rattle.hpe_base.specs.declared.fault.Key.TheVariants as key
use Rattle.hpe_base.specs.declared.fault.Rule.{Rule}
use Rattle.hpe_base.specs.declared.fault.Rule.TheVariants as rule
use Rattle.hpe_base.specs.declared.fault.ProfileFault.{ProfileFault}
use Rattle.hpe_base.specs.declared.fault.ProfileFault.TheVariants.{Range, Tie}
use Rattle.hpe_base.specs.declared.fields.Fields.{Fields}

-- whether the number is one of low to high
abbrev pub within : ℕ → ℕ → ℤ → Bool
within low high z = int_le (pos low) z && int_le z (pos high)

-- the order of that many pulse positions
abbrev pub order_of : ℤ → Option Order
order_of (negsuc n) = None
order_of (pos n) =
    if n == 4 then Some P4
    else if n == 8 then Some P8
    else if n == 16 then Some P16
    else if n == 32 then Some P32
    else if n == 64 then Some P64
    else if n == 128 then Some P128
    else if n == 256 then Some P256
    else None

-- the rate that a text names
abbrev pub rate_of : List ℕ → Option Rate
rate_of text =
    if bytes_eq text (codes "1/3") then Some Third
    else if bytes_eq text (codes "1/2") then Some Half
    else if bytes_eq text (codes "2/3") then Some TwoThirds
    else None

-- whether the number is one that the check's generator may have
abbrev pub is_check : ℤ → Bool
is_check z = within 1 (2 ^ 32 - 1) z && unsigned_abs z % 2 == 1

-- whether the character at place k of a text of columns is right: each fourth is a space, each other is 0 or 1
abbrev pub is_column_character : List ℕ → ℕ → Bool
is_column_character text k =
    let c = slice_index text k in
    if k % 4 == 3 then c == 32 else (c == 48 || c == 49)

-- whether the text is 1 to 12 groups of three flags, with one space between two groups and nothing else
abbrev pub is_columns : List ℕ → Bool
is_columns text =
    length text % 4 == 3 && nat_le (length text) (4 * 12 - 1)
    && list_all (is_column_character text) (range_with_len 0 (length text))

-- the flags of group i: character 1 is a set flag
abbrev pub column_at : List ℕ → ℕ → List Bool
column_at text i =
    let is_set = λ (k : ℕ). slice_index text k == 49 in
    is_set (4 * i) ∷ is_set (4 * i + 1) ∷ is_set (4 * i + 2) ∷ []

-- the columns that the text writes, group by group
abbrev pub columns_of : List ℕ → List (List Bool)
columns_of text = tabulate ((length text + 1) / 4) (column_at text)

-- whether the numbers are 1 to 64 octets
abbrev pub is_marker : List ℤ → Bool
is_marker numbers = within 1 64 (pos (length numbers)) && list_all (within 0 255) numbers

-- of a list of tests, the first that fails
unfoldable pub first_failing : {X : Type 0} → List (X × Bool) → Option X
first_failing [] = None
first_failing (test ∷ tests) = if test.1 then first_failing tests else Some test.0

-- for each key in order, whether its value is in its range
abbrev pub ranges : Fields → List (Key × Bool)
ranges f =
    (key.Order, is_some (order_of f.order))
    ∷ (key.Rate, is_some (rate_of f.rate.now))
    ∷ (key.FrameOctets, within 1 65536 f.frame_octets)
    ∷ (key.FrameMarker, within 1 (2 ^ 32 - 1) f.frame_marker)
    ∷ (key.Taps, within 0 255 f.taps)
    ∷ (key.Seed, within 0 255 f.seed)
    ∷ (key.Check, is_check f.check)
    ∷ (key.Columns, is_columns f.columns.now)
    ∷ (key.Rows, within 1 64 f.rows)
    ∷ (key.Delay, within 1 (2 ^ 23) f.delay)
    ∷ (key.Marker, is_marker f.marker.now)
    ∷ (key.Repeat, within 1 32 f.repeat)
    ∷ (key.Rounds, within 1 64 f.rounds)
    ∷ (key.Search, within 1 4 f.search)
    ∷ (key.CountOctets, within 1 2 f.count_octets)
    ∷ (key.Scale, within 1 8 f.scale)
    ∷ []

-- the first key whose value is out of its range
abbrev pub first_out_of_range : Fields → Option Key
first_out_of_range f = first_failing (ranges f)

-- the parameters that fields name, where each is in its range; elsewhere they are of no account
abbrev pub parameters_of : Fields → Parameters
parameters_of f = record {
  order = unwrap_or (order_of f.order) P4;
  rate = unwrap_or (rate_of f.rate.now) Third;
  frame_octets = unsigned_abs f.frame_octets;
  frame_marker = unsigned_abs f.frame_marker;
  taps = unsigned_abs f.taps;
  seed = unsigned_abs f.seed;
  check = unsigned_abs f.check;
  columns = columns_of f.columns.now;
  rows = unsigned_abs f.rows;
  delay = unsigned_abs f.delay;
  marker = map unsigned_abs f.marker.now;
  repeat = unsigned_abs f.repeat;
  rounds = unsigned_abs f.rounds;
  search = unsigned_abs f.search;
  count_octets = unsigned_abs f.count_octets;
  scale = unsigned_abs f.scale;
}

-- for each rule in order, whether it holds
abbrev pub rules : Parameters → List (Rule × Bool)
rules p =
    (rule.ColumnEmpty, list_all (λ column. nat_le 1 (flags_set column)) p.columns)
    ∷ (rule.ColumnCount, code_steps p.rate % length p.columns == 0)
    ∷ (rule.KeptTotal, code_steps p.rate / length p.columns * sum_by flags_set p.columns == codeword_bits)
    ∷ (rule.RowsDivide, codeword_symbols p.order % p.rows == 0)
    ∷ (rule.MarkerValue, list_all (λ v. nat_lt v (positions p.order)) p.marker)
    ∷ (rule.Depth, nat_le (interleaver_depth p * positions p.order) (2 ^ 26))
    ∷ (rule.Window, nat_le (p.search * period_slots p) (2 ^ 26))
    ∷ []

-- the first rule that the parameters break
abbrev pub first_broken : Parameters → Option Rule
first_broken p = first_failing (rules p)

-- the profile that fields make, or why they make none: the ranges are tested before the rules
unfoldable pub profile_of : Fields → Result Parameters ProfileFault
profile_of f =
    elim (first_out_of_range f) [
      | Some k ↦ Err (Range k)
      | None ↦ elim (first_broken (parameters_of f)) [ Some r ↦ Err (Tie r) | None ↦ Ok (parameters_of f) ]
    ]
