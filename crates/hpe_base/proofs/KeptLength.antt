-- How many code bits the columns keep.
use Rattle.std.proofs.Common.{◌≡◌, ◌<◌, ◌+◌, ◌-◌, ◌*◌, ◌/◌, ◌%◌, ℕ, List, [], ◌∷◌, Bool, true, false, length, get_or, take, ap, sym, ◌∙◌, refl, arith, zero, suc, length-append, All, add-zero}
use Rattle.std.specs.Prelude.{sum_by}
use Rattle.std.proofs.Math.Seq.{take-length}
use Rattle.std.proofs.lemmas.List.Sums.{sum_by_more}
use Rattle.std.proofs.lemmas.List.Elements.{All-get_or}
use Rattle.std.proofs.lemmas.Nat.{mod-mul-add, mod_below, div-add-mod'}
use Rattle.hpe_base.specs.Lists.{joined}
use Rattle.hpe_base.specs.Parameters.{Parameters, IsValid, flags_set, code_steps, codeword_bits}
use Rattle.hpe_base.specs.ConvolutionalCode.{selected, outputs, kept_at, code_bits}
use Rattle.hpe_base.proofs.Tabulated.{joined-more, joined-none}

-- as many bits are selected as flags are set
pub length-selected : (flags : List Bool) (bits : List ℕ) → length flags ≡ length bits → length (selected flags bits) ≡ flags_set flags
length-selected [] bits h = refl
length-selected (f ∷ flags) [] h = absurd (omega arith)
length-selected (true ∷ flags) (b ∷ bits) h = omega (arith, length-selected flags bits (omega arith))
length-selected (false ∷ flags) (b ∷ bits) h = omega (arith, length-selected flags bits (omega arith))

module _ (columns : List (List Bool)) (u : List ℕ) (some : 0 < length columns) (whole : All (λ column. length column ≡ 3) columns) where
  -- the flags that are set in the first i columns
  abbrev set_in : ℕ → ℕ
  set_in i = sum_by flags_set (take i columns)

  -- a step more keeps what its column keeps
  one_more : (t q i : ℕ) → t ≡ q * length columns + i → i < length columns →
      length (joined t (kept_at columns u)) ≡ q * set_in (length columns) + set_in i →
      length (joined (suc t) (kept_at columns u)) ≡ q * set_in (length columns) + set_in (suc i)
  one_more t q i e h before =
      let place : t % length columns ≡ i = ap (λ k. k % length columns) e ∙ mod-mul-add q (length columns) i h in
      let three : length (get_or columns i []) ≡ 3 = All-get_or (λ column. length column ≡ 3) columns i [] h whole in
      let here : length (kept_at columns u t) ≡ flags_set (get_or columns i []) =
      ap (λ k. length (selected (get_or columns k []) (outputs u t))) place ∙ length-selected (get_or columns i []) (outputs u t) three in
      let more : length (joined (t + 1) (kept_at columns u)) ≡ length (joined t (kept_at columns u)) + length (kept_at columns u t) =
      ap length (joined-more t (kept_at columns u)) ∙ length-append _ _ in
      let next : suc t ≡ t + 1 = omega arith in
      let one : suc i ≡ i + 1 = omega arith in
      rw (next, one) (omega (arith, sum_by_more flags_set columns i [] h))

  -- t steps are q rounds of the columns and i steps
  rounds : (t q i : ℕ) → t ≡ q * length columns + i → i < length columns → length (joined t (kept_at columns u)) ≡ q * set_in (length columns) + set_in i
  rounds zero zero i e h = let none : i ≡ 0 = omega arith in rw none (ap length (joined-none (kept_at columns u)) ∙ omega arith)
  rounds zero (suc q) i e h = let round : suc q * length columns ≡ q * length columns + length columns = grind arith in absurd (omega arith)
  rounds (suc t) q (suc i) e h = let before : t ≡ q * length columns + i = omega arith in one_more t q i before (omega arith) (rounds t q i before (omega arith))
  rounds (suc t) zero zero e h = absurd (omega arith)
  rounds (suc t) (suc q) zero e h =
      let last : suc (length columns - 1) ≡ length columns = omega arith in
      let round : suc q * length columns ≡ q * length columns + length columns = grind arith in
      let sums : suc q * set_in (length columns) ≡ q * set_in (length columns) + set_in (length columns) = grind arith in
      let before : t ≡ q * length columns + (length columns - 1) = omega arith in
      one_more t q (length columns - 1) before (omega arith) (rounds t q (length columns - 1) before (omega arith))
      ∙ (ap (λ k. q * set_in (length columns) + set_in k) last ∙ omega arith)

  -- whole rounds, and the first columns for the rest
  pub length-code_bits-steps : (steps : ℕ) → length u ≡ steps →
      length (code_bits columns u) ≡ steps / length columns * sum_by flags_set columns + sum_by flags_set (take (steps % length columns) columns)
  length-code_bits-steps steps h =
      let all : set_in (length columns) ≡ sum_by flags_set columns = ap (sum_by flags_set) (take-length columns) in
      ap (λ n. length (joined n (kept_at columns u))) h
      ∙ (rounds steps (steps / length columns) (steps % length columns) (sym (div-add-mod' steps (length columns))) (mod_below steps (length columns) some)
      ∙ ap (λ n. steps / length columns * n + set_in (steps % length columns)) all)

-- the code bits of a codeword fill it
pub length-code_bits : (p : Parameters) (u : List ℕ) → IsValid p → length u ≡ code_steps p.rate → length (code_bits p.columns u) ≡ codeword_bits
length-code_bits p u valid h =
    let rest : sum_by flags_set (take (code_steps p.rate % length p.columns) p.columns) ≡ 0 =
    ap (λ n. sum_by flags_set (take n p.columns)) valid.column_count in
    length-code_bits-steps p.columns u valid.range.columns_low valid.range.columns_whole (code_steps p.rate) h
    ∙ (ap (λ n. code_steps p.rate / length p.columns * sum_by flags_set p.columns + n) rest ∙ (add-zero _ ∙ valid.kept_total))
