-- The parameters of a link, as contracts see them, and the measures that follow from them.
use Rattle.std.specs.Prelude.{ℕ, ◌+◌, ◌-◌, ◌*◌, ◌^◌, ◌/◌, ◌%◌, ◌<◌, ◌≤◌, ◌≡◌, List, [], ◌∷◌, length, All, Bool, true, if◌then◌else◌, sum_by}
use Rattle.hpe_base.specs.declared.profile.Order.{Order}
use Rattle.hpe_base.specs.declared.profile.Order.TheVariants.{P4, P8, P16, P32, P64, P128, P256}
use Rattle.hpe_base.specs.declared.profile.Rate.{Rate}
use Rattle.hpe_base.specs.declared.profile.Rate.TheVariants.{Third, Half, TwoThirds}

-- the bits of a symbol
abbrev pub symbol_bits : Order → ℕ
symbol_bits P4 = 2
symbol_bits P8 = 3
symbol_bits P16 = 4
symbol_bits P32 = 5
symbol_bits P64 = 6
symbol_bits P128 = 7
symbol_bits P256 = 8

-- the pulse positions of a symbol
abbrev pub positions : Order → ℕ
positions o = 2 ^ symbol_bits o

-- the code bits of a codeword
abbrev pub codeword_bits : ℕ
codeword_bits = 15120

-- the symbols of a codeword
abbrev pub codeword_symbols : Order → ℕ
codeword_symbols o = codeword_bits / symbol_bits o

-- the steps of the convolutional code in a codeword
abbrev pub code_steps : Rate → ℕ
code_steps Third = 5040
code_steps Half = 7560
code_steps TwoThirds = 10080

-- the information bits of a codeword: its steps, less 32 check bits and 2 termination bits
abbrev pub block_bits : Rate → ℕ
block_bits r = code_steps r - 34

-- the bits of the outer code that are free: its steps, less the two that end it
abbrev pub information_bits : Rate → ℕ
information_bits r = code_steps r - 2

-- the parameters of a link
pub record Parameters : Type 0 where
  pub order : Order
  pub rate : Rate
  pub frame_octets : ℕ
  pub frame_marker : ℕ
  pub taps : ℕ
  pub seed : ℕ
  pub check : ℕ
  pub columns : List (List Bool)
  pub rows : ℕ
  pub delay : ℕ
  pub marker : List ℕ
  pub repeat : ℕ
  pub rounds : ℕ
  pub search : ℕ
  pub count_octets : ℕ
  pub scale : ℕ

-- the greatest sum of the counts of a slot, and the greatest size of a number that one code hands to the other
abbrev pub clamp : ℕ
clamp = 16383

-- the slots of one sending of a symbol: its pulse positions, and a quarter as many guard slots
abbrev pub sending_slots : Order → ℕ
sending_slots o = 5 * positions o / 4

-- the slots of a symbol with its repeats
abbrev pub symbol_slots : Parameters → ℕ
symbol_slots p = p.repeat * sending_slots p.order

-- the symbols of a period: the codeword marker and the codeword
abbrev pub period_symbols : Parameters → ℕ
period_symbols p = length p.marker + codeword_symbols p.order

-- the slots of a period
abbrev pub period_slots : Parameters → ℕ
period_slots p = period_symbols p * symbol_slots p

-- the delay of the channel interleaver and its inverse together, in symbols
abbrev pub interleaver_depth : Parameters → ℕ
interleaver_depth p = p.rows * (p.rows - 1) * p.delay

-- how many flags of a puncturing column are set
abbrev pub flags_set : List Bool → ℕ
flags_set [] = 0
flags_set (flag ∷ flags) = (if flag then 1 else 0) + flags_set flags

-- the parameters are within their ranges
pub record IsInRange (p : Parameters) : Type 0 where
  pub frame_low : 1 ≤ p.frame_octets
  pub frame_high : p.frame_octets ≤ 65536
  pub frame_marker_low : 1 ≤ p.frame_marker
  pub frame_marker_high : p.frame_marker < 2 ^ 32
  pub taps_high : p.taps < 256
  pub seed_high : p.seed < 256
  pub check_odd : p.check % 2 ≡ 1
  pub check_high : p.check < 2 ^ 32
  pub columns_low : 1 ≤ length p.columns
  pub columns_high : length p.columns ≤ 12
  pub columns_whole : All (λ column. length column ≡ 3) p.columns
  pub rows_low : 1 ≤ p.rows
  pub rows_high : p.rows ≤ 64
  pub delay_low : 1 ≤ p.delay
  pub delay_high : p.delay ≤ 2 ^ 23
  pub marker_low : 1 ≤ length p.marker
  pub marker_high : length p.marker ≤ 64
  pub repeat_low : 1 ≤ p.repeat
  pub repeat_high : p.repeat ≤ 32
  pub rounds_low : 1 ≤ p.rounds
  pub rounds_high : p.rounds ≤ 64
  pub search_low : 1 ≤ p.search
  pub search_high : p.search ≤ 4
  pub count_octets_low : 1 ≤ p.count_octets
  pub count_octets_high : p.count_octets ≤ 2
  pub scale_low : 1 ≤ p.scale
  pub scale_high : p.scale ≤ 8

-- the parameters are within their ranges and agree with each other
pub record IsValid (p : Parameters) : Type 0 where
  pub range : IsInRange p
  pub column_set : All (λ column. 1 ≤ flags_set column) p.columns
  pub column_count : code_steps p.rate % length p.columns ≡ 0
  pub kept_total : code_steps p.rate / length p.columns * sum_by flags_set p.columns ≡ codeword_bits
  pub rows_divide : codeword_symbols p.order % p.rows ≡ 0
  pub marker_value : All (λ v. v < positions p.order) p.marker
  pub depth : interleaver_depth p * positions p.order ≤ 2 ^ 26
  pub window : p.search * period_slots p ≤ 2 ^ 26

-- the built-in profile: order 16, rate 1/3, and every default
abbrev pub basic : Parameters
basic = record {
  order = P16;
  rate = Third;
  frame_octets = 100;
  frame_marker = 0x1ACFFC1D;
  taps = 0xA9;
  seed = 255;
  check = 0x20044009;
  columns = (true ∷ true ∷ true ∷ []) ∷ [];
  rows = 1;
  delay = 1;
  marker = 0 ∷ 5 ∷ 15 ∷ 14 ∷ 2 ∷ 11 ∷ 9 ∷ 12 ∷ 4 ∷ 1 ∷ 3 ∷ 10 ∷ 6 ∷ 7 ∷ 13 ∷ 8 ∷ [];
  repeat = 1;
  rounds = 16;
  search = 1;
  count_octets = 1;
  scale = 8;
}
