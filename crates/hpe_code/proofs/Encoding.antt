-- The state of an encoder between two steps.
use Rattle.std.proofs.Common.{◌≡◌, ◌++◌, ◌+◌, ◌<◌, ◌≤◌, ◌%◌, ℕ, List, [], ◌∷◌, refl, length, get_or, take, sym, ◌∙◌, ap, arith, Bool, length-append, bit_xor}
use Rattle.hpe_base.specs.Lists.{joined}
use Rattle.hpe_base.specs.ConvolutionalCode.{earlier, kept_at, code_bits, selected}
use Rattle.std.proofs.lemmas.Bool.Decides.{nat_tests}
use Rattle.std.proofs.lemmas.Nat.{mod_below}
use Rattle.std.proofs.Math.Nat.{mod-add-mod, zero-mod}
use Rattle.hpe_base.proofs.BitLists.{xor_of_bits}
use Rattle.hpe_base.proofs.Tabulated.{joined-more, length-joined-le}
use Rattle.hpe_base.proofs.Trellis.{earlier-none}
use Rattle.std.proofs.Math.Seq.{take-length}

-- after t steps: the column that comes next, the place up to which the code bits stand, and the two bits before
pub record Encoding (columns : List (List Bool)) (u kept : List ℕ) (t column at last before : ℕ) : Type 0 where
  pub column_is : column ≡ t % length columns
  pub place : at ≡ length (joined t (kept_at columns u))
  pub written : take at kept ≡ joined t (kept_at columns u)
  pub last_is : last ≡ earlier u t 1
  pub before_is : before ≡ earlier u t 2
  pub last_bit : last < 2
  pub before_bit : before < 2

-- the bit that enters is the last one step later
earlier_one : (u : List ℕ) (t : ℕ) → earlier u (t + 1) 1 ≡ get_or u t 0
earlier_one u t = grind (arith, nat_tests)

-- and the last is the one before it
earlier_two : (u : List ℕ) (t : ℕ) → earlier u (t + 1) 2 ≡ earlier u t 1
earlier_two u t = grind (arith, nat_tests)

-- it holds at the start
pub Encoding-none : (columns : List (List Bool)) (u kept : List ℕ) → Encoding columns u kept 0 0 0 0 0
unfolding joined
Encoding-none columns u kept = record { column_is = sym (zero-mod (length columns)); place = refl; written = refl; last_is = refl; before_is = refl; last_bit = omega arith; before_bit = omega arith }

-- there is such a column
pub column_below : (columns : List (List Bool)) (u kept : List ℕ) (t column at last before : ℕ) → 1 ≤ length columns → Encoding columns u kept t column at last before →
    column < length columns
column_below columns u kept t column at last before some e = rw e.column_is (mod_below t (length columns) (omega arith))

-- the outputs as the code works them out
outputs_are : (bit last before : ℕ) → bit < 2 → last < 2 → before < 2 →
    bit_xor bit before ∷ bit_xor (bit_xor bit before) last ∷ bit_xor (bit_xor bit before) last ∷ []
    ≡ (bit + before) % 2 ∷ (bit + last + before) % 2 ∷ (bit + last + before) % 2 ∷ []
outputs_are bit last before h k l =
    let first : bit_xor bit before ≡ (bit + before) % 2 = xor_of_bits bit before h l in
    let second : bit_xor ((bit + before) % 2) last ≡ (bit + last + before) % 2 = xor_of_bits ((bit + before) % 2) last (omega arith) k ∙ omega arith in
    rw (first, second) refl

-- what the encoder hands on at step t
pub kept_at_is : (columns : List (List Bool)) (u kept : List ℕ) (t column at last before : ℕ) → Encoding columns u kept t column at last before → get_or u t 0 < 2 →
    selected (get_or columns column []) (bit_xor (get_or u t 0) before ∷ bit_xor (bit_xor (get_or u t 0) before) last ∷ bit_xor (bit_xor (get_or u t 0) before) last ∷ [])
    ≡ kept_at columns u t
kept_at_is columns u kept t column at last before e bit =
    ap (selected (get_or columns column [])) (outputs_are (get_or u t 0) last before bit e.last_bit e.before_bit)
    ∙ rw (e.column_is, e.last_is, e.before_is, ← earlier-none u t) refl

-- there is room for it
pub kept_at_fits : (columns : List (List Bool)) (u kept : List ℕ) (t column at last before : ℕ) (bits : List ℕ) → Encoding columns u kept t column at last before →
    t < length u → length kept ≡ length (code_bits columns u) → bits ≡ kept_at columns u t → at + length bits ≤ length kept
kept_at_fits columns u kept t column at last before bits e h k b =
    let f : ℕ → List ℕ = kept_at columns u in
    let more : length (joined (t + 1) f) ≡ length (joined t f) + length (f t) = ap length (joined-more t f) ∙ length-append _ _ in
    let whole : length (joined (t + 1) f) ≤ length (joined (length u) f) = length-joined-le (t + 1) (length u) f (omega arith) in
    let len : length bits ≡ length (f t) = ap length b in
    let place : at ≡ length (joined t f) = e.place in
    omega arith

-- it holds after one more step
pub Encoding-more : (columns : List (List Bool)) (u kept now : List ℕ) (t column next_column at next last before : ℕ) (bits : List ℕ) → Encoding columns u kept t column at last before →
    get_or u t 0 < 2 → next_column ≡ (column + 1) % length columns → bits ≡ kept_at columns u t → next ≡ at + length bits → take next now ≡ take at kept ++ bits →
    Encoding columns u now (t + 1) next_column next (get_or u t 0) last
Encoding-more columns u kept now t column next_column at next last before bits e bit step b n w =
    let f : ℕ → List ℕ = kept_at columns u in
    let more : length (joined (t + 1) f) ≡ length (joined t f) + length (f t) = ap length (joined-more t f) ∙ length-append _ _ in
    let len : length bits ≡ length (f t) = ap length b in
    let place : at ≡ length (joined t f) = e.place in
    record {
      column_is = step ∙ (ap (λ k. (k + 1) % length columns) e.column_is ∙ mod-add-mod t (length columns) 1);
      place = omega arith;
      written = rw (w, e.written, b) (sym (joined-more t f));
      last_is = sym (earlier_one u t);
      before_is = e.last_is ∙ sym (earlier_two u t);
      last_bit = bit;
      before_bit = e.last_bit;
    }

-- at the end the code bits stand there
pub Encoding-all : (columns : List (List Bool)) (u kept : List ℕ) (t column at last before : ℕ) → t ≡ length u → length kept ≡ length (code_bits columns u) →
    Encoding columns u kept t column at last before → kept ≡ code_bits columns u
Encoding-all columns u kept t column at last before end size e =
    let f : ℕ → List ℕ = kept_at columns u in
    let all : joined t f ≡ code_bits columns u = ap (λ n. joined n f) end in
    let place : at ≡ length kept = e.place ∙ (ap length all ∙ sym size) in
    sym (take-length kept) ∙ (ap (λ n. take n kept) (sym place) ∙ (e.written ∙ all))
