-- Whole units as blocks, and zeros that complete a unit.
use Rattle.std.proofs.Common.{◌≡◌, ◌≤◌, ◌<◌, ◌+◌, ◌-◌, ◌*◌, ◌/◌, ◌%◌, ◌++◌, ℕ, List, length, get_or, take, drop, sym, ◌∙◌, ap, arith, length-append, append_assoc, replicate, inl, inr}
use Rattle.std.proofs.lemmas.Nat.{div-add-mod', mod_below, div-mul-add, mod-mul-add}
use Rattle.std.proofs.lemmas.Bool.{cases_lt}
use Rattle.std.proofs.Math.Nat.{mod-eq_of_lt}
use Rattle.std.proofs.lemmas.List.{drop-append-le, length-drop, length-take-le, take_at, take_all, get_or-take, get_or-drop}
use Rattle.hpe_base.specs.Bits.{zeros}
use Rattle.hpe_base.specs.Units.{unit_of}
use Rattle.hpe_base.specs.Slicer.{block_from}
use Rattle.hpe_base.proofs.Tabulated.{tabulate_from_places}
use Rattle.hpe_base.proofs.BitLists.{length-zeros}
use Rattle.hpe_base.proofs.UnitLemmas.{unit_piece, unit_rest}

-- a whole unit is the last block
pub unit_block : (n : ℕ) (xs : List ℕ) → 0 < n → length (unit_of n xs) ≡ n → unit_of n xs ≡ block_from xs n (length xs / n - 1)
unfolding block_from
unit_block n xs pos whole =
    let start : ℕ = (length xs / n - 1) * n in
    let size : n ≤ start + n - start = omega arith in
    tabulate_from_places n _ (unit_of n xs) 0 whole (λ k b.
    ap (λ (l : List ℕ). get_or l k 0) (unit_piece n xs pos whole)
    ∙ (get_or-take (start + n - start) (drop start xs) k 0 (omega arith) ∙ get_or-drop start xs k 0))

-- where a unit is begun, the whole ones before it are those of the list
record IsBegun (n : ℕ) (xs : List ℕ) : Type 0 where
  count : (length xs - 1) / n ≡ length xs / n
  size : length xs ≡ length xs / n * n + length xs % n

is_begun : (n : ℕ) (xs : List ℕ) → 0 < n → 0 < length xs % n → IsBegun n xs
is_begun n xs pos some =
    let q : ℕ = length xs / n in
    let whole : q * n + length xs % n ≡ length xs = div-add-mod' (length xs) n in
    let below : length xs % n < n = mod_below (length xs) n pos in
    let less : length xs - 1 ≡ q * n + (length xs % n - 1) = omega arith in
    record { count = ap (λ m. m / n) less ∙ div-mul-add q n (length xs % n - 1) (omega arith); size = sym whole }

-- the values of a unit that is begun
length_begun : (n : ℕ) (xs : List ℕ) → 0 < n → 0 < length xs % n → length (unit_of n xs) ≡ length xs % n
length_begun n xs pos some =
    let b : IsBegun n xs = is_begun n xs pos some in
    ap (λ m. length (drop (m * n) xs)) b.count ∙ omega (arith, length-drop (length xs / n * n) xs, b.size)

-- the first n values, where two lists in front have n
pub first_filled : (n : ℕ) (front fill rest more : List ℕ) → length front + length fill ≡ n → take n (take n ((front ++ (fill ++ rest)) ++ more)) ≡ front ++ fill
first_filled n front fill rest more e =
    let long : length (front ++ fill) ≡ n = length-append front fill ∙ e in
    ap (take n) (ap (λ l. take n (l ++ more)) (sym (append_assoc front fill rest)) ∙ (ap (take n) (append_assoc (front ++ fill) rest more) ∙ take_at (front ++ fill) (rest ++ more) n long))
    ∙ take_all n (front ++ fill) (omega arith)

-- zeros complete it
unit_pad : (n : ℕ) (xs : List ℕ) → 0 < n → 0 < length xs % n →
    unit_of n (xs ++ zeros (n - length xs % n)) ≡ unit_of n xs ++ zeros (n - length xs % n)
unit_pad n xs pos some =
    let fill : ℕ = n - length xs % n in
    let q : ℕ = length xs / n in
    let b : IsBegun n xs = is_begun n xs pos some in
    let below : length xs % n < n = mod_below (length xs) n pos in
    let less : length (xs ++ zeros fill) - 1 ≡ q * n + (n - 1) = omega (arith, length-append xs (zeros fill), length-zeros fill, b.size) in
    let count : (length (xs ++ zeros fill) - 1) / n ≡ q = ap (λ m. m / n) less ∙ div-mul-add q n (n - 1) (omega arith) in
    ap (λ m. drop (m * n) (xs ++ zeros fill)) count
    ∙ (drop-append-le (q * n) xs (zeros fill) (omega (arith, b.size)) ∙ ap (λ m. drop (m * n) xs ++ zeros fill) (sym b.count))

module _ (n : ℕ) (items xs : List ℕ) (used : ℕ) (pos : 0 < n) (size : length items ≡ n) (within : used ≤ n) (was : take used items ≡ unit_of n xs) where
  held : used ≡ length (unit_of n xs)
  held = sym (length-take-le used items (omega arith)) ∙ ap (λ (l : List ℕ). length l) was

  -- what is used says whether a unit is begun
  pub used_rest : used % n ≡ length xs % n
  used_rest = elim (cases_lt used n) [
    | inl less ↦ mod-eq_of_lt less ∙ (held ∙ unit_rest n xs pos (omega (arith, held)))
    | inr whole ↦
        let all : used ≡ 1 * n + 0 = omega arith in
        let none : length xs % n ≡ 0 = elim (cases_lt 0 (length xs % n)) [
          | inl some ↦ absurd (omega (arith, held, length_begun n xs pos some, mod_below (length xs) n pos))
          | inr none ↦ omega arith
        ] in
        ap (λ k. k % n) all ∙ (mod-mul-add 1 n 0 pos ∙ sym none)
  ]

  -- what is used, and zeros
  pub padded : 0 < used % n → take used items ++ replicate (n - used) 0 ≡ unit_of n (xs ++ zeros (n - length xs % n))
  unfolding zeros
  padded some =
      let begun : 0 < length xs % n = omega (arith, used_rest) in
      ap (λ l. l ++ replicate (n - used) 0) was
      ∙ (ap (λ k. unit_of n xs ++ replicate (n - k) 0) (held ∙ length_begun n xs pos begun) ∙ sym (unit_pad n xs pos begun))
