-- Bounds on the numbers of a link.
use Rattle.std.proofs.Common.{◌≡◌, ◌+◌, ◌-◌, ◌*◌, ◌%◌, ◌^◌, ◌≤◌, ◌<◌, ℕ, length, get_or, ap, arith, lit≤, lit<, refl}
use Rattle.std.proofs.Math.Nat.{mul-le-mul_right, mul_comm}
use Rattle.std.proofs.lemmas.Nat.{mul-le, mod_below}
use Rattle.std.proofs.lemmas.List.Elements.{All-get_or}
use Rattle.hpe_base.specs.Parameters.{Parameters, IsValid, code_steps, block_bits, symbol_bits, codeword_symbols, positions, sending_slots, symbol_slots, period_symbols, period_slots, interleaver_depth, codeword_bits}
use Rattle.hpe_base.specs.ConvolutionalCode.{AreColumns}
use Rattle.hpe_base.specs.ChannelInterleaver.{delay_at}
use Rattle.hpe_base.specs.Geometry.{measures_of}
use Rattle.hpe_base.specs.declared.measures.Measures.{Measures}
use Rattle.hpe_base.specs.declared.profile.Rate.{Rate}
use Rattle.hpe_base.specs.declared.profile.Rate.TheVariants.{Third, Half, TwoThirds}
use Rattle.hpe_base.specs.declared.profile.Order.{Order}
use Rattle.hpe_base.specs.declared.profile.Order.TheVariants.{P4, P8, P16, P32, P64, P128, P256}

-- ---- the rates
-- a codeword has at least so many steps of the outer code
pub code_steps-ge : (r : Rate) → 5040 ≤ code_steps r
code_steps-ge Third = lit≤ tt
code_steps-ge Half = lit≤ tt
code_steps-ge TwoThirds = lit≤ tt

-- and at most so many
pub code_steps-le : (r : Rate) → code_steps r ≤ 10080
code_steps-le Third = lit≤ tt
code_steps-le Half = lit≤ tt
code_steps-le TwoThirds = lit≤ tt

-- a block isn't empty
pub block_bits-pos : (r : Rate) → 0 < block_bits r
block_bits-pos r = omega (arith, code_steps-ge r)

-- ---- the orders
-- a symbol has a bit
pub symbol_bits-pos : (o : Order) → 0 < symbol_bits o
symbol_bits-pos P4 = lit< tt
symbol_bits-pos P8 = lit< tt
symbol_bits-pos P16 = lit< tt
symbol_bits-pos P32 = lit< tt
symbol_bits-pos P64 = lit< tt
symbol_bits-pos P128 = lit< tt
symbol_bits-pos P256 = lit< tt

-- and even two
pub symbol_bits-low : (o : Order) → 2 ≤ symbol_bits o
symbol_bits-low P4 = lit≤ tt
symbol_bits-low P8 = lit≤ tt
symbol_bits-low P16 = lit≤ tt
symbol_bits-low P32 = lit≤ tt
symbol_bits-low P64 = lit≤ tt
symbol_bits-low P128 = lit≤ tt
symbol_bits-low P256 = lit≤ tt

-- and at most so many
pub positions-high : (o : Order) → positions o ≤ 256
positions-high P4 = lit≤ tt
positions-high P8 = lit≤ tt
positions-high P16 = lit≤ tt
positions-high P32 = lit≤ tt
positions-high P64 = lit≤ tt
positions-high P128 = lit≤ tt
positions-high P256 = lit≤ tt

-- a sending has guard slots past its pulse positions
pub positions-lt : (o : Order) → positions o < sending_slots o
positions-lt P4 = lit< tt
positions-lt P8 = lit< tt
positions-lt P16 = lit< tt
positions-lt P32 = lit< tt
positions-lt P64 = lit< tt
positions-lt P128 = lit< tt
positions-lt P256 = lit< tt

-- a codeword has at least so many symbols
pub codeword_symbols-ge : (o : Order) → 1890 ≤ codeword_symbols o
codeword_symbols-ge P4 = lit≤ tt
codeword_symbols-ge P8 = lit≤ tt
codeword_symbols-ge P16 = lit≤ tt
codeword_symbols-ge P32 = lit≤ tt
codeword_symbols-ge P64 = lit≤ tt
codeword_symbols-ge P128 = lit≤ tt
codeword_symbols-ge P256 = lit≤ tt

-- and at most so many
pub codeword_symbols-le : (o : Order) → codeword_symbols o ≤ 7560
codeword_symbols-le P4 = lit≤ tt
codeword_symbols-le P8 = lit≤ tt
codeword_symbols-le P16 = lit≤ tt
codeword_symbols-le P32 = lit≤ tt
codeword_symbols-le P64 = lit≤ tt
codeword_symbols-le P128 = lit≤ tt
codeword_symbols-le P256 = lit≤ tt

-- ---- the puncturing columns
-- those of a valid profile are columns that the code takes
pub are_columns : (p : Parameters) → IsValid p → AreColumns p.columns
are_columns p v = record { some = v.range.columns_low; few = v.range.columns_high; each = v.column_set }

-- ---- periods and markers
-- a product of numbers above 0
product_pos : (a b : ℕ) → 0 < a → 0 < b → 0 < a * b
product_pos a b ha hb = let one : 1 * 1 ≤ a * b = mul-le 1 1 a b ha hb in omega arith

-- a symbol has slots
pub symbol_slots-pos : (p : Parameters) → IsValid p → 0 < symbol_slots p
symbol_slots-pos p v = product_pos p.repeat (sending_slots p.order) v.range.repeat_low (omega (arith, positions-lt p.order))

-- a period isn't empty
pub period-pos : (p : Parameters) → IsValid p → 0 < period_slots p
period-pos p v = product_pos (period_symbols p) (symbol_slots p) (omega (arith, codeword_symbols-ge p.order)) (symbol_slots-pos p v)

-- the periods before one that is searched end within the window
pub periods-le : (p : Parameters) (j : ℕ) → IsValid p → j < p.search → j * period_slots p + period_slots p ≤ 2 ^ 26
periods-le p j v h =
    let next : (j + 1) * period_slots p ≡ j * period_slots p + period_slots p = grind arith in
    let rows : (j + 1) * period_slots p ≤ p.search * period_slots p = mul-le-mul_right (period_slots p) (omega arith) in
    omega (arith, v.window)

-- a period is within the window
pub period-le : (p : Parameters) → IsValid p → period_slots p ≤ 2 ^ 26
period-le p v = omega (arith, periods-le p 0 v v.range.search_low)

-- and within the periods that are searched
pub period-within : (p : Parameters) → IsValid p → period_slots p ≤ p.search * period_slots p
period-within p v =
    let one : 1 * period_slots p ≤ p.search * period_slots p = mul-le-mul_right (period_slots p) v.range.search_low in
    omega arith

-- symbol r of the marker has its pulse within a sending
pub marker_symbol : (p : Parameters) (r : ℕ) → IsValid p → r < length p.marker →
    get_or p.marker r 0 < sending_slots p.order
marker_symbol p r v b =
    omega (arith, All-get_or (λ s. s < positions p.order) p.marker r 0 b v.marker_value, positions-lt p.order)

-- the slots of a period, as the measures have them
pub period_is : (m : Measures) (p : Parameters) → m ≡ measures_of p → m.period ≡ period_slots p
period_is m p e = ap (λ (n : Measures). n.period) e

-- ---- the channel interleaver
-- no row is delayed by more than the last
depth-le : (rows delay r : ℕ) → r < rows → r * rows * delay ≤ rows * (rows - 1) * delay
depth-le rows delay r h =
    let a : r * rows ≤ (rows - 1) * rows = mul-le r rows (rows - 1) rows (omega arith) (omega arith) in
    let b : r * rows * delay ≤ (rows - 1) * rows * delay =
    mul-le (r * rows) delay ((rows - 1) * rows) delay a (omega arith) in
    let e : (rows - 1) * rows ≡ rows * (rows - 1) = mul_comm (rows - 1) rows in
    rw (← e) b

-- no place is delayed by more than the depth
pub delay_at-le : (p : Parameters) (v : ℕ) → 0 < p.rows → delay_at p v ≤ interleaver_depth p
delay_at-le p v pos = depth-le p.rows p.delay (v % p.rows) (mod_below v p.rows pos)

-- a codeword is whole symbols
pub symbols_fill : (o : Order) → codeword_bits ≡ codeword_symbols o * symbol_bits o
symbols_fill P4 = refl
symbols_fill P8 = refl
symbols_fill P16 = refl
symbols_fill P32 = refl
symbols_fill P64 = refl
symbols_fill P128 = refl
symbols_fill P256 = refl
