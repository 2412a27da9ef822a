-- Lemmas on lists that are given by their places or piece by piece.
use Rattle.std.proofs.Common.{◌≡◌, ◌++◌, ◌+◌, ◌-◌, ◌*◌, ◌<◌, ◌≤◌, ℕ, List, [], ◌∷◌, refl, length, get_or, sum, sym, ◌∙◌, ap, arith, zero, suc, add-one, length-append, append_assoc, inl, inr, subst, add-zero, append-nil, take, All}
use Rattle.std.proofs.lemmas.Nat.{mul-add-lt}
use Rattle.std.proofs.lemmas.Bool.{cases_eq}
use Rattle.std.proofs.lemmas.List.{get_or_append_left, get_or-append_right, length-take-le, get_or-take}
use Rattle.std.proofs.lemmas.List.Sums.{sum_by_push}
use Rattle.std.proofs.lemmas.List.FromFn.{length-map-range_with_len, get_or-map-range_with_len, map-range_with_len_more, fill_by_all}
use Rattle.hpe_base.specs.Lists.{tabulate, joined}

-- n places are n
pub length-tabulate : {X : Type 0} (n : ℕ) (f : ℕ → X) → length (tabulate n f) ≡ n
unfolding tabulate
length-tabulate n f = length-map-range_with_len f 0 n

-- place i has the value of i
pub get_or-tabulate : {X : Type 0} (n : ℕ) (f : ℕ → X) (i : ℕ) (d : X) → i < n → get_or (tabulate n f) i d ≡ f i
unfolding tabulate
get_or-tabulate n f i d h = get_or-map-range_with_len f 0 n i i d h (omega arith)

-- a list is what its places are
pub tabulate_from_places : {X : Type 0} (n : ℕ) (f : ℕ → X) (xs : List X) (d : X) → length xs ≡ n →
    ((k : ℕ) → k < n → get_or xs k d ≡ f k) → xs ≡ tabulate n f
unfolding tabulate
tabulate_from_places n f xs d l h = fill_by_all f xs n d l h

-- one place more
pub tabulate-more : {X : Type 0} (n : ℕ) (f : ℕ → X) → tabulate (n + 1) f ≡ tabulate n f ++ f n ∷ []
unfolding tabulate
tabulate-more n f = map-range_with_len_more f 0 n n (omega arith)

-- equal values at each place
pub tabulate-same : {X : Type 0} (n : ℕ) (f g : ℕ → X) → ((k : ℕ) → k < n → f k ≡ g k) → tabulate n f ≡ tabulate n g
tabulate-same n f g h =
    tabulate_from_places n g (tabulate n f) (f 0) (length-tabulate n f) (λ k b. get_or-tabulate n f k (f 0) b ∙ h k b)

-- a list of numbers is given by its places
pub tabulate-places : (xs : List ℕ) → tabulate (length xs) (λ k. get_or xs k 0) ≡ xs
tabulate-places xs = sym (tabulate_from_places (length xs) (λ k. get_or xs k 0) xs 0 refl (λ k b. refl))

-- the front of a list by places
pub take-tabulate : {X : Type 0} (m n : ℕ) (f : ℕ → X) → m ≤ n → take m (tabulate n f) ≡ tabulate m f
take-tabulate m n f h =
    tabulate_from_places m f (take m (tabulate n f)) (f 0) (length-take-le m (tabulate n f) (omega (arith, length-tabulate n f)))
    (λ k below. get_or-take m (tabulate n f) k (f 0) below ∙ get_or-tabulate n f k (f 0) (omega arith))

-- what holds of each value holds in the list
pub All-tabulate : {X : Type 0} (Q : X → Type 0) (n : ℕ) (f : ℕ → X) → ((k : ℕ) → Q (f k)) → All Q (tabulate n f)
All-tabulate Q n f h = λ i d below.
    let l : length (tabulate n f) ≡ n = length-tabulate n f in
    subst Q (sym (get_or-tabulate n f i d (omega arith))) (h i)

-- one list more, by n + 1
pub joined-more : {X : Type 0} (n : ℕ) (f : ℕ → List X) → joined (n + 1) f ≡ joined n f ++ f n
unfolding joined
joined-more n f = rw add-one refl

-- the first k lists stand in front
pub length-joined-le : {X : Type 0} (k n : ℕ) (f : ℕ → List X) → k ≤ n → length (joined k f) ≤ length (joined n f)
unfolding joined
length-joined-le k zero f h = let e : k ≡ 0 = omega arith in rw e (omega arith)
length-joined-le k (suc n) f h =
    elim (cases_eq k (suc n)) [
      | inl e ↦ rw e (omega arith)
      | inr ne ↦ let ih : length (joined k f) ≤ length (joined n f) = length-joined-le k n f (omega arith) in omega
          (arith, length-append (joined n f) (f n))
    ]

-- one place more, by suc n
pub tabulate-suc : {X : Type 0} (n : ℕ) (f : ℕ → X) → tabulate (suc n) f ≡ tabulate n f ++ f n ∷ []
tabulate-suc n f = let e : suc n ≡ n + 1 = omega arith in rw e (tabulate-more n f)

-- no place
pub tabulate-none : {X : Type 0} (f : ℕ → X) → tabulate 0 f ≡ []
unfolding tabulate
tabulate-none f = refl

-- m places and n more
pub tabulate-append : {X : Type 0} (m n : ℕ) (f : ℕ → X) →
    tabulate (m + n) f ≡ tabulate m f ++ tabulate n (λ i. f (m + i))
tabulate-append m zero f =
    rw (add-zero, tabulate-none (λ i. f (m + i))) (sym (append-nil (tabulate m f)))
tabulate-append m (suc n) f =
    let ih : tabulate (m + n) f ≡ tabulate m f ++ tabulate n (λ i. f (m + i)) = tabulate-append m n f in
    let e : m + suc n ≡ suc (m + n) = omega arith in
    rw (
      e,
      tabulate-suc (m + n) f,
      ih,
      tabulate-suc n (λ i. f (m + i)),
    ) (append_assoc (tabulate m f) (tabulate n (λ i. f (m + i))) (f (m + n) ∷ []))

-- joined pieces of an equal length
pub length-joined-each : {X : Type 0} (n m : ℕ) (f : ℕ → List X) → ((k : ℕ) → k < n → length (f k) ≡ m) →
    length (joined n f) ≡ n * m
unfolding joined
length-joined-each zero m f h = omega arith
length-joined-each (suc n) m f h =
    let before : length (joined n f) ≡ n * m = length-joined-each n m f (λ k b. h k (omega arith)) in
    let last : length (f n) ≡ m = h n (omega arith) in
    let next : suc n * m ≡ n * m + m = grind arith in
    omega (arith, length-append (joined n f) (f n))

-- equal lists at each place
pub joined-same : {X : Type 0} (n : ℕ) (f g : ℕ → List X) → ((k : ℕ) → k < n → f k ≡ g k) → joined n f ≡ joined n g
unfolding joined
joined-same zero f g h = refl
joined-same (suc n) f g h =
    ap (λ xs. xs ++ f n) (joined-same n f g (λ k b. h k (omega arith)))
    ∙ ap (λ xs. joined n g ++ xs) (h n (omega arith))

-- one list more
joined-suc : {X : Type 0} (n : ℕ) (f : ℕ → List X) → joined (suc n) f ≡ joined n f ++ f n
unfolding joined
joined-suc n f = refl

-- no list
pub joined-none : {X : Type 0} (f : ℕ → List X) → joined 0 f ≡ []
unfolding joined
joined-none f = refl

-- m lists and n more
pub joined-append : {X : Type 0} (m n : ℕ) (f : ℕ → List X) → joined (m + n) f ≡ joined m f ++ joined n (λ i. f (m + i))
joined-append m zero f = rw (add-zero, joined-none (λ i. f (m + i))) (sym (append-nil (joined m f)))
joined-append m (suc n) f =
    let before : joined (m + n) f ≡ joined m f ++ joined n (λ i. f (m + i)) = joined-append m n f in
    let e : m + suc n ≡ suc (m + n) = omega arith in
    rw (
      e,
      joined-suc (m + n) f,
      before,
      joined-suc n (λ i. f (m + i)),
    ) (append_assoc (joined m f) (joined n (λ i. f (m + i))) (f (m + n)))

-- place r of piece w
pub get_or-joined : {X : Type 0} (n m w r : ℕ) (f : ℕ → List X) (d : X) → ((k : ℕ) → k < n → length (f k) ≡ m) → w < n →
    r < m → get_or (joined n f) (w * m + r) d ≡ get_or (f w) r d
unfolding joined
get_or-joined zero m w r f d h hw hr = absurd (omega arith)
get_or-joined (suc n) m w r f d h hw hr =
    let before : length (joined n f) ≡ n * m = length-joined-each n m f (λ k b. h k (omega arith)) in
    elim (cases_eq w n) [
      | inl e ↦
          let rows : w * m ≡ n * m = ap (λ k. k * m) e in
          let at : w * m + r - n * m ≡ r = omega arith in
          get_or-append_right (joined n f) (f n) (n * m) (w * m + r) d before (omega arith)
          ∙ (ap (λ k. get_or (f n) k d) at ∙ ap (λ k. get_or (f k) r d) (sym e))
      | inr ne ↦
          let inside : w * m + r < m * n = mul-add-lt w m r n (omega arith) hr in
          let order : m * n ≡ n * m = grind arith in
          get_or_append_left (joined n f) (f n) d (w * m + r) (omega arith)
          ∙ get_or-joined n m w r f d (λ k b. h k (omega arith)) (omega arith) hr
    ]

-- places in pieces of an equal length
pub joined-tabulate : {X : Type 0} (n m : ℕ) (f : ℕ → X) →
    joined n (λ c. tabulate m (λ i. f (c * m + i))) ≡ tabulate (n * m) f
unfolding joined
joined-tabulate zero m f = let none : 0 * m ≡ 0 = omega arith in sym (ap (λ k. tabulate k f) none ∙ tabulate-none f)
joined-tabulate (suc n) m f =
    let next : suc n * m ≡ n * m + m = grind arith in
    ap (λ xs. xs ++ tabulate m (λ i. f (n * m + i))) (joined-tabulate n m f)
    ∙ sym (ap (λ k. tabulate k f) next ∙ tabulate-append (n * m) m f)

-- a sum over no place
pub sum-tabulate-none : (f : ℕ → ℕ) → sum (tabulate 0 f) ≡ 0
sum-tabulate-none f = ap sum (tabulate-none f)

-- a sum over one more place
pub sum-tabulate-more : (n : ℕ) (f : ℕ → ℕ) → sum (tabulate (n + 1) f) ≡ sum (tabulate n f) + f n
sum-tabulate-more n f = ap sum (tabulate-more n f) ∙ sum_by_push (λ x. x) (tabulate n f) (f n)

-- the same by suc n
pub sum-tabulate-suc : (n : ℕ) (f : ℕ → ℕ) → sum (tabulate (suc n) f) ≡ sum (tabulate n f) + f n
sum-tabulate-suc n f = ap sum (tabulate-suc n f) ∙ sum_by_push (λ x. x) (tabulate n f) (f n)

-- sums of terms that are equal, and of terms of at most c
pub sum-tabulate-same : (n : ℕ) (f g : ℕ → ℕ) → ((k : ℕ) → k < n → f k ≡ g k) → sum (tabulate n f) ≡ sum (tabulate n g)
sum-tabulate-same n f g h = ap sum (tabulate-same n f g h)

-- a sum of n terms of at most c
pub sum-tabulate-le : (n c : ℕ) (f : ℕ → ℕ) → ((k : ℕ) → k < n → f k ≤ c) → sum (tabulate n f) ≤ n * c
sum-tabulate-le zero c f h = omega (arith, sum-tabulate-none f)
sum-tabulate-le (suc n) c f h =
    let rest : sum (tabulate n f) ≤ n * c = sum-tabulate-le n c f (λ k b. h k (omega arith)) in
    let here : f n ≤ c = h n (omega arith) in
    let next : suc n * c ≡ n * c + c = grind arith in
    omega (arith, sum-tabulate-suc n f)

-- terms that are all c
pub sum-tabulate-each : (n c : ℕ) (f : ℕ → ℕ) → ((k : ℕ) → k < n → f k ≡ c) → sum (tabulate n f) ≡ n * c
sum-tabulate-each zero c f h = omega (arith, sum-tabulate-none f)
sum-tabulate-each (suc n) c f h =
    let rest : sum (tabulate n f) ≡ n * c = sum-tabulate-each n c f (λ k b. h k (omega arith)) in
    let here : f n ≡ c = h n (omega arith) in
    let next : suc n * c ≡ n * c + c = grind arith in
    omega (arith, sum-tabulate-suc n f)

-- terms of at most c, of which one is less
pub sum-tabulate-lt : (n c i : ℕ) (f : ℕ → ℕ) → i < n → ((k : ℕ) → k < n → f k ≤ c) → f i < c →
    sum (tabulate n f) < n * c
sum-tabulate-lt zero c i f b h l = absurd (omega arith)
sum-tabulate-lt (suc n) c i f b h l =
    let next : suc n * c ≡ n * c + c = grind arith in
    let most : sum (tabulate n f) ≤ n * c = sum-tabulate-le n c f (λ k b. h k (omega arith)) in
    let last : f n ≤ c = h n (omega arith) in
    elim (cases_eq i n) [
      | inl e ↦ let here : f n < c = subst (λ k. f k < c) e l in omega (arith, sum-tabulate-suc n f)
      | inr ne ↦
          let rest : sum (tabulate n f) < n * c = sum-tabulate-lt n c i f (omega arith) (λ k b. h k (omega arith)) l in
          omega (arith, sum-tabulate-suc n f)
    ]

-- a sum of sums of two terms
sum-tabulate-add : (n : ℕ) (f g : ℕ → ℕ) → sum (tabulate n (λ k. f k + g k)) ≡ sum (tabulate n f) + sum (tabulate n g)
sum-tabulate-add zero f g = omega (arith, sum-tabulate-none f, sum-tabulate-none g, sum-tabulate-none (λ k. f k + g k))
sum-tabulate-add (suc n) f g =
    omega (
      arith,
      sum-tabulate-suc n f,
      sum-tabulate-suc n g,
      sum-tabulate-suc n (λ k. f k + g k),
      sum-tabulate-add n f g,
    )

-- a table summed by its rows and by its columns
pub sum-tabulate-swap : (m n : ℕ) (f : ℕ → ℕ → ℕ) →
    sum (tabulate m (λ r. sum (tabulate n (f r)))) ≡ sum (tabulate n (λ i. sum (tabulate m (λ r. f r i))))
sum-tabulate-swap zero n f =
    let none : sum (tabulate n (λ i. sum (tabulate 0 (λ r. f r i)))) ≤ n * 0 =
    sum-tabulate-le n 0 _ (λ i b. omega (arith, sum-tabulate-none (λ r. f r i))) in
    omega (arith, sum-tabulate-none (λ r. sum (tabulate n (f r))))
sum-tabulate-swap (suc m) n f =
    let rows : sum (tabulate m (λ r. sum (tabulate n (f r)))) ≡ sum (tabulate n (λ i. sum (tabulate m (λ r. f r i)))) =
    sum-tabulate-swap m n f in
    sum-tabulate-suc m (λ r. sum (tabulate n (f r)))
    ∙ (ap (λ x. x + sum (tabulate n (f m))) rows
    ∙ (sym (sum-tabulate-add n (λ i. sum (tabulate m (λ r. f r i))) (f m))
    ∙ sum-tabulate-same n _ _ (λ i b. sym (sum-tabulate-suc m (λ r. f r i)))))

-- pieces, the first one first
pub joined-first : {X : Type 0} (n : ℕ) (f : ℕ → List X) → joined (suc n) f ≡ f 0 ++ joined n (λ k. f (suc k))
unfolding joined
joined-first zero f = sym (append-nil (f 0))
joined-first (suc n) f = ap (λ xs. xs ++ f (suc n)) (joined-first n f) ∙ append_assoc (f 0) (joined n (λ k. f (suc k))) (f (suc n))
