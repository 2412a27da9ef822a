-- The code bits tell the bits that entered.
use Rattle.std.proofs.Common.{◌≡◌, ◌≤◌, ◌<◌, ◌-◌, ◌%◌, ◌++◌, ℕ, List, [], ◌∷◌, Bool, true, false, length, get_or, take, drop, ap, sym, ◌∙◌, refl, arith, zero, suc, length-append, All, ◌⊎◌, inl, inr}
use Rattle.std.proofs.lemmas.Bool.{cases_eq}
use Rattle.std.proofs.lemmas.Bool.Decides.{nat_tests}
use Rattle.std.proofs.Math.Seq.{take-append_seam, drop-append_seam}
use Rattle.std.proofs.lemmas.List.Elements.{All-get_or}
use Rattle.std.proofs.lemmas.Grind.{same_number_lists}
use Rattle.std.proofs.lemmas.Nat.{mod_below}
use Rattle.hpe_base.specs.Bits.{AreBits}
use Rattle.hpe_base.specs.Lists.{joined}
use Rattle.hpe_base.specs.Parameters.{flags_set}
use Rattle.hpe_base.specs.ConvolutionalCode.{earlier, outputs, selected, kept_at, code_bits, AreColumns}
use Rattle.hpe_base.proofs.KeptLength.{length-selected}
use Rattle.hpe_base.proofs.Trellis.{earlier-none}
use Rattle.hpe_code.specs.Laws.{CodeIsOneToOne}

-- equal lists that are parted at one place
same_front : {X : Type 0} (xs ys xs' ys' : List X) → length xs ≡ length xs' → xs ++ ys ≡ xs' ++ ys' → xs ≡ xs'
same_front xs ys xs' ys' l e =
    sym (take-append_seam xs ys) ∙ (ap (take (length xs)) e ∙ (ap (λ n. take n (xs' ++ ys')) l ∙ take-append_seam xs' ys'))

-- the same of what follows
same_end : {X : Type 0} (xs ys xs' ys' : List X) → length xs ≡ length xs' → xs ++ ys ≡ xs' ++ ys' → ys ≡ ys'
same_end xs ys xs' ys' l e =
    sym (drop-append_seam xs ys) ∙ (ap (drop (length xs)) e ∙ (ap (λ n. drop n (xs' ++ ys')) l ∙ drop-append_seam xs' ys'))

-- joined pieces of the same lengths
length-joined-same : {X : Type 0} (n : ℕ) (f g : ℕ → List X) → ((k : ℕ) → length (f k) ≡ length (g k)) → length (joined n f) ≡ length (joined n g)
unfolding joined
length-joined-same zero f g l = refl
length-joined-same (suc n) f g l =
    omega (arith, length-append (joined n f) (f n), length-append (joined n g) (g n), length-joined-same n f g l, l n)

-- the pieces of a joined list, where their lengths are known
same_pieces : {X : Type 0} (n : ℕ) (f g : ℕ → List X) → ((k : ℕ) → length (f k) ≡ length (g k)) → joined n f ≡ joined n g → (k : ℕ) → k < n → f k ≡ g k
unfolding joined
same_pieces zero f g l e k h = absurd (omega arith)
same_pieces (suc n) f g l e k h =
    let fronts : length (joined n f) ≡ length (joined n g) = length-joined-same n f g l in
    elim (cases_eq k n) [
      | inl last ↦ rw last (same_end (joined n f) (f n) (joined n g) (g n) fronts e)
      | inr before ↦ same_pieces n f g l (same_front (joined n f) (f n) (joined n g) (g n) fronts e) k (omega arith)
    ]

-- one of the outputs is kept, where the last two are the same
some_kept : (flags : List Bool) (a b a' b' : ℕ) → length flags ≡ 3 → 1 ≤ flags_set flags →
    selected flags (a ∷ b ∷ b ∷ []) ≡ selected flags (a' ∷ b' ∷ b' ∷ []) → (a ≡ a') ⊎ (b ≡ b')
some_kept (true ∷ flags) a b a' b' l h e = inl (ap (λ xs. get_or xs 0 0) e)
some_kept (false ∷ true ∷ flags) a b a' b' l h e = inr (ap (λ xs. get_or xs 0 0) e)
some_kept (false ∷ false ∷ true ∷ flags) a b a' b' l h e = inr (ap (λ xs. get_or xs 0 0) e)
some_kept (false ∷ false ∷ false ∷ []) a b a' b' l h e = absurd (omega arith)
some_kept (false ∷ false ∷ false ∷ flag ∷ flags) a b a' b' l h e = absurd (omega arith)
some_kept (false ∷ false ∷ []) a b a' b' l h e = absurd (omega arith)
some_kept (false ∷ []) a b a' b' l h e = absurd (omega arith)
some_kept [] a b a' b' l h e = absurd (omega arith)

module _ (columns : List (List Bool)) (u v : List ℕ) (are : AreColumns columns) (whole : All (λ column. length column ≡ 3) columns)
    (u_bits : AreBits u) (v_bits : AreBits v) (size : length u ≡ length v) (code : code_bits columns u ≡ code_bits columns v) where
  -- the column of step t
  abbrev column : ℕ → List Bool
  column t = get_or columns (t % length columns) []

  -- the bits before step t are the same
  abbrev Same : ℕ → Type 0
  Same t = (k : ℕ) → k < t → get_or u k 0 ≡ get_or v k 0

  -- each column has three flags
  three : (t : ℕ) → length (column t) ≡ 3
  three t = All-get_or (λ column. length column ≡ 3) columns (t % length columns) [] (mod_below t (length columns) are.some) whole

  -- the column alone says how many outputs are kept
  same_length : (t : ℕ) → length (kept_at columns u t) ≡ length (kept_at columns v t)
  same_length t = length-selected (column t) (outputs u t) (three t) ∙ sym (length-selected (column t) (outputs v t) (three t))

  -- so each step keeps the same
  same_kept : (t : ℕ) → t < length u → kept_at columns u t ≡ kept_at columns v t
  same_kept = same_pieces (length u) (kept_at columns u) (kept_at columns v) same_length (code ∙ ap (λ n. joined n (kept_at columns v)) (sym size))

  -- the outputs' earlier bits are the same
  same_earlier : (t d : ℕ) → 0 < d → Same t → earlier u t d ≡ earlier v t d
  same_earlier t d h same = grind (arith, nat_tests, same (t - d))

  -- and then so is its bit, which stands in each output
  same_bit : (t : ℕ) → t < length u → Same t → get_or u t 0 ≡ get_or v t 0
  same_bit t h same =
      let set : 1 ≤ flags_set (column t) = All-get_or (λ column. 1 ≤ flags_set column) columns (t % length columns) [] (mod_below t (length columns) are.some) are.each in
      let last : earlier u t 1 ≡ earlier v t 1 = same_earlier t 1 (omega arith) same in
      let before : earlier u t 2 ≡ earlier v t 2 = same_earlier t 2 (omega arith) same in
      let u_here : earlier u t 0 ≡ get_or u t 0 = earlier-none u t in
      let v_here : earlier v t 0 ≡ get_or v t 0 = earlier-none v t in
      let u_bit : get_or u t 0 < 2 = All-get_or (λ b. b < 2) u t 0 h u_bits in
      let v_bit : get_or v t 0 < 2 = All-get_or (λ b. b < 2) v t 0 (omega arith) v_bits in
      elim (some_kept (column t) _ _ _ _ (three t) set (same_kept t h)) [ inl first ↦ omega arith | inr second ↦ omega arith ]

  -- all bits are the same, step by step
  same_bits : (t : ℕ) → t ≤ length u → Same t
  same_bits zero h k b = absurd (omega arith)
  same_bits (suc t) h k b =
      let before : Same t = same_bits t (omega arith) in
      elim (cases_eq k t) [ inl here ↦ rw here (same_bit t (omega arith) before) | inr earlier ↦ before k (omega arith) ]

-- the law
pub code_is_one_to_one : CodeIsOneToOne
code_is_one_to_one columns u v are whole u_bits v_bits size code =
    same_number_lists u v size (same_bits columns u v are whole u_bits v_bits size code (length u) (omega arith))
