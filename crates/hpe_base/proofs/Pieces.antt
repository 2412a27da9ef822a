-- Lists that are made of pieces of an equal length.
use Rattle.std.proofs.Common.{◌≡◌, ◌++◌, ◌+◌, ◌-◌, ◌*◌, ◌<◌, ◌≤◌, ℕ, List, [], ◌∷◌, refl, length, get_or, take, drop, sym, ◌∙◌, ap, arith, zero, suc, length-append, append-nil, inl, inr}
use Rattle.std.specs.Prelude.{slice_range}
use Rattle.std.specs.List.{flat_map}
use Rattle.std.proofs.lemmas.List.{drop-drop, drop_at, drop_all, drop_more, take_at, take_more, length-take-le, length-drop, get_or-take, get_or-drop, drop-append-le, take-append-le, take_all}
use Rattle.std.proofs.lemmas.List.Concat.{flat_map-append}
use Rattle.hpe_base.specs.Lists.{tabulate, joined}
use Rattle.hpe_base.proofs.Tabulated.{tabulate-none, tabulate-suc, tabulate_from_places, joined-same, joined-tabulate, length-joined-each}
use Rattle.std.proofs.lemmas.Bool.{cases_eq}
use Rattle.std.proofs.lemmas.Nat.{mul-le}

module _ {X A : Type 0} (f : X → List A) (m : ℕ) (each : (x : X) → length (f x) ≡ m) where
  -- as many pieces of m as there are elements
  pub length-flat_map-each : (xs : List X) → length (flat_map f xs) ≡ length xs * m
  length-flat_map-each [] = omega arith
  length-flat_map-each (x ∷ xs) =
      let next : suc (length xs) * m ≡ m + length xs * m = grind arith in
      omega (arith, length-append (f x) (flat_map f xs), each x, length-flat_map-each xs)

  -- the pieces from piece s on
  drop_pieces : (s : ℕ) (xs : List X) → drop (s * m) (flat_map f xs) ≡ flat_map f (drop s xs)
  drop_pieces zero xs = let none : 0 * m ≡ 0 = omega arith in ap (λ n. drop n (flat_map f xs)) none
  drop_pieces (suc s) [] = drop_all (suc s * m) [] (omega arith)
  drop_pieces (suc s) (x ∷ xs) =
      let next : suc s * m ≡ m + s * m = grind arith in
      ap (λ n. drop n (f x ++ flat_map f xs)) next
      ∙ (sym (drop-drop (s * m) m (f x ++ flat_map f xs)) ∙ (ap (drop (s * m)) (drop_at (f x) (flat_map f xs) m (each x)) ∙ drop_pieces s xs))

  -- piece s
  pub piece_at : (xs : List X) (s : ℕ) (d : X) → s < length xs → slice_range (flat_map f xs) (s * m) (s * m + m) ≡ f (get_or xs s d)
  piece_at xs s d h =
      let size : s * m + m - s * m ≡ m = omega arith in
      ap (λ n. take n (drop (s * m) (flat_map f xs))) size
      ∙ (ap (take m) (drop_pieces s xs ∙ ap (flat_map f) (drop_more xs s d h)) ∙ take_at (f (get_or xs s d)) _ m (each (get_or xs s d)))

-- the pieces of the first elements, and one more
pub flat_map-take_more : {X A : Type 0} (f : X → List A) (xs : List X) (i : ℕ) (d : X) → i < length xs → flat_map f (take (i + 1) xs) ≡ flat_map f (take i xs) ++ f (get_or xs i d)
flat_map-take_more f xs i d h =
    ap (flat_map f) (take_more xs i d h) ∙ (flat_map-append f (take i xs) (get_or xs i d ∷ []) ∙ ap (λ ys. flat_map f (take i xs) ++ ys) (append-nil (f (get_or xs i d))))

-- pieces of the values of places, joined
pub flat_map-tabulate : {X A : Type 0} (f : X → List A) (n : ℕ) (g : ℕ → X) → flat_map f (tabulate n g) ≡ joined n (λ s. f (g s))
unfolding joined
flat_map-tabulate f zero g = ap (flat_map f) (tabulate-none g)
flat_map-tabulate f (suc n) g =
    ap (flat_map f) (tabulate-suc n g)
    ∙ (flat_map-append f (tabulate n g) (g n ∷ [])
    ∙ (ap (λ ys. ys ++ (f (g n) ++ [])) (flat_map-tabulate f n g) ∙ ap (λ ys. joined n (λ s. f (g s)) ++ ys) (append-nil (f (g n)))))

-- a part of a list
pub length-piece : (xs : List ℕ) (a m : ℕ) → a + m ≤ length xs → length (slice_range xs a (a + m)) ≡ m
length-piece xs a m h =
    let size : a + m - a ≡ m = omega arith in
    ap (λ n. length (take n (drop a xs))) size ∙ length-take-le m (drop a xs) (omega (arith, length-drop a xs))

-- a part of a list by its places
piece_tabulated : (xs : List ℕ) (a m : ℕ) → a + m ≤ length xs → slice_range xs a (a + m) ≡ tabulate m (λ i. get_or xs (a + i) 0)
piece_tabulated xs a m h =
    let size : m ≤ a + m - a = omega arith in
    tabulate_from_places m _ (slice_range xs a (a + m)) 0 (length-piece xs a m h)
    (λ k b. get_or-take (a + m - a) (drop a xs) k 0 (omega arith) ∙ get_or-drop a xs k 0)

-- piece s ends within n pieces
pub piece_within : (n m s : ℕ) → s < n → s * m + m ≤ n * m
piece_within n m s h = grind arith

-- a list in pieces, and these joined again
pub pieces_joined : (n m : ℕ) (xs : List ℕ) → length xs ≡ n * m → joined n (λ s. slice_range xs (s * m) (s * m + m)) ≡ xs
pieces_joined n m xs l =
    joined-same n _ (λ s. tabulate m (λ i. get_or xs (s * m + i) 0)) (λ s h. piece_tabulated xs (s * m) m (omega (arith, piece_within n m s h)))
    ∙ (joined-tabulate n m (λ i. get_or xs i 0) ∙ sym (tabulate_from_places (n * m) (λ i. get_or xs i 0) xs 0 l (λ k h. refl)))

-- the list that stands at place k of lists of m items
pub part-joined : {X : Type 0} (n m k : ℕ) (f : ℕ → List X) → ((j : ℕ) → j < n → length (f j) ≡ m) → k < n → take m (drop (k * m) (joined n f)) ≡ f k
unfolding joined
part-joined zero m k f h b = absurd (omega arith)
part-joined {X = X} (suc n) m k f h b =
    let whole : length (joined n f) ≡ n * m = length-joined-each n m f (λ j c. h j (omega arith)) in
    let last : length (f n) ≡ m = h n (omega arith) in
    elim (cases_eq k n) [
      | inl e ↦ rw e (ap (λ (l : List X). take m l) (drop_at (joined n f) (f n) (n * m) whole) ∙ take_all m (f n) (omega arith))
      | inr ne ↦
          let less : k < n = omega arith in
          let room : (k + 1) * m ≤ n * m = mul-le (k + 1) m n m (omega arith) (omega arith) in
          let fits : k * m + m ≤ length (joined n f) = omega arith in
          ap (λ (l : List X). take m l) (drop-append-le (k * m) (joined n f) (f n) (omega arith))
          ∙ take-append-le m (drop (k * m) (joined n f)) (f n) (let d = length-drop (k * m) (joined n f) in omega arith)
          ∙ part-joined n m k f (λ j c. h j (omega arith)) less
    ]
