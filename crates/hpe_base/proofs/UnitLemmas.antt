-- A list in units of one size: the unit that is begun or was just completed, as the list grows.
use Rattle.std.proofs.Common.{◌≡◌, ◌≢◌, ◌≤◌, ◌<◌, ◌+◌, ◌*◌, ◌/◌, ◌%◌, ◌-◌, ◌++◌, ◌↔◌, ℕ, List, [], ◌∷◌, length, take, drop, set, ap, sym, ◌∙◌, arith, inl, inr}
use Rattle.std.specs.Prelude.{slice_range}
use Rattle.std.proofs.lemmas.Nat.{div-add-mod', mod_below, div-mul-add, mod-mul-add}
use Rattle.std.proofs.lemmas.Bool.{cases_lt, cases_eq}
use Rattle.std.proofs.lemmas.List.{length_push, drop-append-le, drop_at, length-drop, nil_from_length, take_more_set, length-take-le, length-set, take_all}
use Rattle.hpe_base.specs.Units.{unit_of}

-- the list has q whole units and r values more, at least one and at most n
record IsCut (n q r : ℕ) (xs : List ℕ) : Type 0 where
  some : 0 < r
  most : r ≤ n
  size : length xs ≡ q * n + r
  unit : unit_of n xs ≡ drop (q * n) xs
  long : length (unit_of n xs) ≡ r

-- the length alone says so
is_cut : (n q r : ℕ) (xs : List ℕ) → 0 < r → r ≤ n → length xs ≡ q * n + r → IsCut n q r xs
is_cut n q r xs some most size =
    let less : length xs - 1 ≡ q * n + (r - 1) = omega arith in
    let count : (length xs - 1) / n ≡ q = ap (λ m. m / n) less ∙ div-mul-add q n (r - 1) (omega arith) in
    let unit : unit_of n xs ≡ drop (q * n) xs = ap (λ m. drop (m * n) xs) count in
    let long : length xs - q * n ≡ r = omega arith in
    record { some = some; most = most; size = size; unit = unit; long = ap (λ (l : List ℕ). length l) unit ∙ (length-drop (q * n) xs ∙ long) }

-- and each list that isn't empty is cut in one such way
cut : (n : ℕ) (xs : List ℕ) → 0 < n → 0 < length xs → IsCut n ((length xs - 1) / n) ((length xs - 1) % n + 1) xs
cut n xs pos some =
    let whole : (length xs - 1) / n * n + (length xs - 1) % n ≡ length xs - 1 = div-add-mod' (length xs - 1) n in
    let below : (length xs - 1) % n < n = mod_below (length xs - 1) n pos in
    is_cut n ((length xs - 1) / n) ((length xs - 1) % n + 1) xs (omega arith) (omega arith) (omega arith)

-- an empty list has none
unit_none : (n : ℕ) (xs : List ℕ) → length xs ≡ 0 → unit_of n xs ≡ []
unit_none n xs e = nil_from_length (unit_of n xs) (omega (arith, length-drop ((length xs - 1) / n * n) xs))

-- a list with a whole unit at its end isn't empty
some_whole : (n : ℕ) (xs : List ℕ) → 0 < n → length (unit_of n xs) ≡ n → 0 < length xs
some_whole n xs pos whole = omega (arith, length-drop ((length xs - 1) / n * n) xs)

-- and its length is a whole number of units
size_whole : (n : ℕ) (xs : List ℕ) → 0 < n → length (unit_of n xs) ≡ n → length xs ≡ ((length xs - 1) / n + 1) * n + 0
size_whole n xs pos whole =
    let q : ℕ = (length xs - 1) / n in
    let c : IsCut n q ((length xs - 1) % n + 1) xs = cut n xs pos (some_whole n xs pos whole) in
    let more : (q + 1) * n ≡ q * n + n = grind arith in
    omega (arith, c.size, c.long)

-- one value more begins a unit
unit_new : (n : ℕ) (xs : List ℕ) (x : ℕ) → 0 < n → length (unit_of n xs) ≡ n → unit_of n (xs ++ x ∷ []) ≡ x ∷ []
unit_new n xs x pos whole =
    let q : ℕ = (length xs - 1) / n + 1 in
    let size : length xs ≡ q * n + 0 = size_whole n xs pos whole in
    let next : IsCut n q 1 (xs ++ x ∷ []) = is_cut n q 1 (xs ++ x ∷ []) (omega arith) (omega arith) (omega (arith, length_push xs x)) in
    next.unit ∙ drop_at xs (x ∷ []) (q * n) (omega arith)

-- or goes on with it
unit_on : (n : ℕ) (xs : List ℕ) (x : ℕ) → 0 < n → length (unit_of n xs) < n → unit_of n (xs ++ x ∷ []) ≡ unit_of n xs ++ x ∷ []
unit_on n xs x pos less =
    elim (cases_eq (length xs) 0) [
      | inl none ↦
          let start : 0 * n ≡ 0 = omega arith in
          let next : IsCut n 0 1 (xs ++ x ∷ []) = is_cut n 0 1 (xs ++ x ∷ []) (omega arith) (omega arith) (omega (arith, length_push xs x)) in
          next.unit ∙ (ap (λ k. drop k (xs ++ x ∷ [])) start ∙ ap (λ l. l ++ x ∷ []) (nil_from_length xs none ∙ sym (unit_none n xs none)))
      | inr some ↦
          let q : ℕ = (length xs - 1) / n in
          let r : ℕ = (length xs - 1) % n + 1 in
          let c : IsCut n q r xs = cut n xs pos (omega arith) in
          let next : IsCut n q (r + 1) (xs ++ x ∷ []) = is_cut n q (r + 1) (xs ++ x ∷ []) (omega arith) (omega (arith, c.long)) (omega (arith, c.size, length_push xs x)) in
          next.unit ∙ (drop-append-le (q * n) xs (x ∷ []) (omega (arith, c.size)) ∙ ap (λ l. l ++ x ∷ []) (sym c.unit))
    ]

-- the last unit is whole where its size divides the length
unit_whole : (n : ℕ) (xs : List ℕ) → 0 < n → 0 < length xs → (length (unit_of n xs) ≡ n) ↔ (length xs % n ≡ 0)
unit_whole n xs pos some =
    let q : ℕ = (length xs - 1) / n in
    let r : ℕ = (length xs - 1) % n + 1 in
    let c : IsCut n q r xs = cut n xs pos some in (
      (λ whole. ap (λ k. k % n) (size_whole n xs pos whole) ∙ mod-mul-add (q + 1) n 0 pos),
      (λ divides. elim (cases_lt r n) [
        | inl less ↦ absurd (omega (arith, c.some, ap (λ k. k % n) c.size ∙ mod-mul-add q n r less))
        | inr all ↦ omega (arith, c.most, c.long)
      ]),
    )

-- the values of a unit that isn't whole
pub unit_rest : (n : ℕ) (xs : List ℕ) → 0 < n → length (unit_of n xs) < n → length (unit_of n xs) ≡ length xs % n
unit_rest n xs pos less =
    elim (cases_eq (length xs) 0) [
      | inl none ↦
          let zero : 0 % n ≡ 0 = omega arith in
          ap (λ (l : List ℕ). length l) (unit_none n xs none) ∙ sym (ap (λ k. k % n) none ∙ zero)
      | inr some ↦
          let c : IsCut n ((length xs - 1) / n) ((length xs - 1) % n + 1) xs = cut n xs pos (omega arith) in
          c.long ∙ sym (ap (λ k. k % n) c.size ∙ mod-mul-add ((length xs - 1) / n) n ((length xs - 1) % n + 1) (omega (arith, c.long)))
    ]

-- a whole unit is the last piece of its size
pub unit_piece : (n : ℕ) (xs : List ℕ) → 0 < n → length (unit_of n xs) ≡ n → unit_of n xs ≡ slice_range xs ((length xs / n - 1) * n) ((length xs / n - 1) * n + n)
unit_piece n xs pos whole =
    let q : ℕ = (length xs - 1) / n in
    let c : IsCut n q ((length xs - 1) % n + 1) xs = cut n xs pos (some_whole n xs pos whole) in
    let count : length xs / n ≡ q + 1 = ap (λ k. k / n) (size_whole n xs pos whole) ∙ div-mul-add (q + 1) n 0 pos in
    let last : q ≡ length xs / n - 1 = omega arith in
    sym (take_all (q * n + n - q * n) (unit_of n xs) (omega arith))
    ∙ (ap (λ l. take (q * n + n - q * n) l) c.unit ∙ ap (λ w. slice_range xs (w * n) (w * n + n)) last)

-- the place among n where the next value goes, after the used ones
pub record IsPlace (n used place : ℕ) : Type 0 where
  pub new : used ≡ n → place ≡ 0
  pub on : used ≢ n → place ≡ used

module _ (n : ℕ) (items xs : List ℕ) (used place x : ℕ) (pos : 0 < n) (size : length items ≡ n) (within : used ≤ n) (next : IsPlace n used place)
    (was : take used items ≡ unit_of n xs) where
  -- what is used after one value more is the unit then
  pub unit_step : take (place + 1) (set items place x) ≡ unit_of n (xs ++ x ∷ [])
  unit_step =
      let long : length (unit_of n xs) ≡ used = sym (ap (λ (l : List ℕ). length l) was) ∙ length-take-le used items (omega arith) in
      elim (cases_eq used n) [
        | inl whole ↦
            let start : place ≡ 0 = next.new whole in
            take_more_set items place x (omega arith) ∙ (ap (λ k. take k items ++ x ∷ []) start ∙ sym (unit_new n xs x pos (omega arith)))
        | inr less ↦
            let on : place ≡ used = next.on less in
            take_more_set items place x (omega arith) ∙ (ap (λ k. take k items ++ x ∷ []) on ∙ (ap (λ l. l ++ x ∷ []) was ∙ sym (unit_on n xs x pos (omega arith))))
      ]

  -- the place is among n
  below : place < n
  below = elim (cases_eq used n) [
    | inl whole ↦ omega (arith, next.new whole)
    | inr less ↦ omega (arith, next.on less)
  ]

  -- and whether that is a whole unit
  pub unit_completes : (place + 1 ≡ n) ↔ ((length xs + 1) % n ≡ 0)
  unit_completes =
      let long : length (unit_of n (xs ++ x ∷ [])) ≡ place + 1 =
      sym (ap (λ (l : List ℕ). length l) unit_step) ∙ length-take-le (place + 1) (set items place x) (omega (arith, length-set items place x, below)) in
      let more : length (xs ++ x ∷ []) ≡ length xs + 1 = length_push xs x in
      let whole : (length (unit_of n (xs ++ x ∷ [])) ≡ n) ↔ (length (xs ++ x ∷ []) % n ≡ 0) = unit_whole n (xs ++ x ∷ []) pos (omega arith) in (
        (λ e. sym (ap (λ k. k % n) more) ∙ whole.0 (long ∙ e)),
        (λ e. sym long ∙ whole.1 (ap (λ k. k % n) more ∙ e)),
      )
