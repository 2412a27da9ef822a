-- The symbols of a word, one after another, as the trellis takes them.
use Rattle.std.proofs.Common.{◌≡◌, ℕ, zero, suc, ◌+◌, ◌-◌, ◌*◌, ◌%◌, ◌^◌, ◌<◌, sym, ◌∙◌, ap, ap₂, subst, refl, arith, List, [], ◌∷◌, length, take, drop, get_or, sum, zero-add}
use Rattle.std.specs.Prelude.{slice_range}
use Rattle.std.proofs.Math.Nat.{two-pow-succ, mod-lt, zero-mul, suc-add}
use Rattle.std.proofs.lemmas.List.{drop-drop}
use Rattle.std.proofs.lemmas.List.Sums.{sum_by-cons}
use Rattle.hpe_base.specs.Lists.{tabulate}
use Rattle.hpe_base.specs.Bits.{number_of, AreBits}
use Rattle.hpe_base.specs.Accumulator.{accumulated}
use Rattle.hpe_base.specs.Trellis.{IsPath}
use Rattle.hpe_base.proofs.Tabulated.{length-tabulate, get_or-tabulate, tabulate_from_places, tabulate-none, tabulate-same}
use Rattle.hpe_base.proofs.BitLists.{are_bits-none, are_bits-cons}

-- a list by places, from its front
pub tabulate-cons : (n : ℕ) (f : ℕ → ℕ) → tabulate (suc n) f ≡ f 0 ∷ tabulate n (λ i. f (suc i))
tabulate-cons n f = sym (tabulate_from_places (suc n) f (f 0 ∷ tabulate n (λ i. f (suc i))) 0 (ap suc (length-tabulate n (λ i. f (suc i)))) place)
  where
    place : (k : ℕ) → k < suc n → get_or (f 0 ∷ tabulate n (λ i. f (suc i))) k 0 ≡ f k
    place zero h = refl
    place (suc k) h = get_or-tabulate n (λ i. f (suc i)) k 0 (omega arith)

-- the running parity, from bit p on
abbrev pub running : ℕ → List ℕ → List ℕ
running p [] = []
running p (b ∷ x) = ((p + b) % 2) ∷ running ((p + b) % 2) x

pub length-running : (p : ℕ) (u : List ℕ) → length (running p u) ≡ length u
length-running p [] = refl
length-running p (b ∷ u) = ap suc (length-running ((p + b) % 2) u)

pub are_bits-running : (p : ℕ) (u : List ℕ) → AreBits (running p u)
are_bits-running p [] = are_bits-none
are_bits-running p (b ∷ u) = are_bits-cons ((p + b) % 2) (running ((p + b) % 2) u) (mod-lt (p + b) (omega arith)) (are_bits-running ((p + b) % 2) u)

same_parity : (p b s : ℕ) → (p + (b + s)) % 2 ≡ ((p + b) % 2 + s) % 2
same_parity p b s = omega arith

suc_first : (i : ℕ) → suc i + 1 ≡ suc (i + 1)
suc_first i = omega arith

-- the accumulator by places is the running parity
by_places : (p : ℕ) (x : List ℕ) → tabulate (length x) (λ j. (p + sum (take (j + 1) x)) % 2) ≡ running p x
by_places p [] = tabulate-none (λ j. (p + sum (take (j + 1) [])) % 2)
by_places p (b ∷ x) =
    tabulate-cons (length x) (λ j. (p + sum (take (j + 1) (b ∷ x))) % 2)
    ∙ ap₂ (λ (y : ℕ) (ys : List ℕ). y ∷ ys) (ap (λ (k : ℕ). (p + k) % 2) (zero-add b))
    (tabulate-same (length x) (λ i. (p + sum (take (suc i + 1) (b ∷ x))) % 2) (λ i. ((p + b) % 2 + sum (take (i + 1) x)) % 2)
    (λ i h. ap (λ (k : ℕ). (p + sum (take k (b ∷ x))) % 2) (suc_first i)
    ∙ ap (λ (k : ℕ). (p + k) % 2) (sum_by-cons (λ (k : ℕ). k) b (take (i + 1) x))
    ∙ same_parity p b (sum (take (i + 1) x)))
    ∙ by_places ((p + b) % 2) x)

pub accumulated-is : (x : List ℕ) → accumulated x ≡ running 0 x
accumulated-is x =
    tabulate-same (length x) (λ j. sum (take (j + 1) x) % 2) (λ j. (0 + sum (take (j + 1) x)) % 2) (λ j h. ap (λ (k : ℕ). k % 2) (sym (zero-add (sum (take (j + 1) x)))))
    ∙ by_places 0 x

take-running : (m p : ℕ) (x : List ℕ) → take m (running p x) ≡ running p (take m x)
take-running zero p x = refl
take-running (suc m) p [] = refl
take-running (suc m) p (b ∷ x) = ap (λ (ys : List ℕ). ((p + b) % 2) ∷ ys) (take-running m ((p + b) % 2) x)

last_parity : ℕ → List ℕ → ℕ
last_parity p [] = p
last_parity p (b ∷ x) = last_parity ((p + b) % 2) x

drop-running : (m p : ℕ) (x : List ℕ) → drop m (running p x) ≡ running (last_parity p (take m x)) (drop m x)
unfolding last_parity
drop-running zero p x = refl
drop-running (suc m) p [] = refl
drop-running (suc m) p (b ∷ x) = drop-running m ((p + b) % 2) x

doubled : (b q n : ℕ) → (b * (q + q) + n) % 2 ≡ n % 2
doubled b q n = omega arith

even_head : (b k n : ℕ) → (b * 2 ^ suc k + n) % 2 ≡ n % 2
even_head b k n = let e : 2 ^ suc k ≡ 2 ^ k + 2 ^ k = two-pow-succ k in rw e (doubled b (2 ^ k) n)

number_one : (p b : ℕ) → ((p + b) % 2 * 2 ^ 0 + 0) % 2 ≡ (p + b) % 2
number_one p b = omega arith

-- the last bit of a number is the last bit of its list
number-last : (p b : ℕ) (x : List ℕ) → number_of (running p (b ∷ x)) % 2 ≡ last_parity p (b ∷ x)
unfolding last_parity
number-last p b [] = number_one p b
number-last p b (c ∷ x) =
    even_head ((p + b) % 2) (length (running (((p + b) % 2 + c) % 2) x)) (number_of (running ((p + b) % 2) (c ∷ x))) ∙ number-last ((p + b) % 2) c x

group_last : (m p : ℕ) (u : List ℕ) → 0 < m → IsPath 2 m u → last_parity p u ≡ number_of (running p u) % 2
group_last zero p u low h = absurd (omega arith)
group_last (suc m) p [] low h = absurd h
group_last (suc m) p (b ∷ u) low h = sym (number-last p b u)

-- a list in n groups of m
abbrev chunked : ℕ → ℕ → List ℕ → List ℕ
chunked m zero y = []
chunked m (suc n) y = number_of (take m y) ∷ chunked m n (drop m y)

first_group : (m : ℕ) → 0 * m + m - 0 * m ≡ m
first_group m = omega arith

group_size : (m i : ℕ) → suc i * m + m - suc i * m ≡ i * m + m - i * m
group_size m i = omega arith

next_group : (m i : ℕ) → suc i * m ≡ m + i * m
next_group m i = omega arith

groups-chunked : (m n : ℕ) (y : List ℕ) → tabulate n (λ s. number_of (slice_range y (s * m) (s * m + m))) ≡ chunked m n y
groups-chunked m zero y = tabulate-none (λ s. number_of (slice_range y (s * m) (s * m + m)))
groups-chunked m (suc n) y =
    tabulate-cons n (λ s. number_of (slice_range y (s * m) (s * m + m)))
    ∙ ap₂ (λ (v : ℕ) (vs : List ℕ). v ∷ vs) (ap₂ (λ (a b : ℕ). number_of (take a (drop b y))) (first_group m) (zero-mul m))
    (tabulate-same n (λ i. number_of (slice_range y (suc i * m) (suc i * m + m))) (λ s. number_of (slice_range (drop m y) (s * m) (s * m + m)))
    (λ i h. ap₂ (λ (a b : ℕ). number_of (take a (drop b y))) (group_size m i) (next_group m i)
    ∙ ap (λ (z : List ℕ). number_of (take (i * m + m - i * m) z)) (sym (drop-drop (i * m) m y)))
    ∙ groups-chunked m n (drop m y))

-- the symbols of the n groups of m bits of a word x, from state p on
abbrev pub path_of : ℕ → ℕ → ℕ → List ℕ → List ℕ
path_of m p zero x = []
path_of m p (suc n) x = number_of (running p (take m x)) ∷ path_of m (number_of (running p (take m x)) % 2) n (drop m x)

pub path-take : (size m k : ℕ) (x : List ℕ) → IsPath size (m + k) x → IsPath size m (take m x) × IsPath size k (drop m x)
path-take size zero k x h = (tt, subst (λ (n : ℕ). IsPath size n x) (zero-add k) h)
path-take size (suc m) k [] h = absurd (subst (λ (n : ℕ). IsPath size n []) (suc-add m k) h)
path-take size (suc m) k (b ∷ x) h =
    let w = subst (λ (n : ℕ). IsPath size n (b ∷ x)) (suc-add m k) h in
    let r = path-take size m k x w.1 in
    ((w.0, r.0), r.1)

pub group_more : (m n : ℕ) → suc n * m ≡ m + n * m
group_more m n = omega arith

chunked-running : (m n p : ℕ) (x : List ℕ) → 0 < m → IsPath 2 (n * m) x → chunked m n (running p x) ≡ path_of m p n x
chunked-running m zero p x low h = refl
chunked-running m (suc n) p x low h =
    let w = path-take 2 m (n * m) x (subst (λ (k : ℕ). IsPath 2 k x) (group_more m n) h) in
    ap₂ (λ (v : ℕ) (vs : List ℕ). v ∷ vs) (ap number_of (take-running m p x))
    (ap (λ (y : List ℕ). chunked m n y) (drop-running m p x)
    ∙ chunked-running m n (last_parity p (take m x)) (drop m x) low w.1
    ∙ ap (λ (q : ℕ). path_of m q n (drop m x)) (group_last m p (take m x) low w.0))

-- the symbols of a word, as the trellis takes them
pub groups-path : (m n : ℕ) (x : List ℕ) → 0 < m → IsPath 2 (n * m) x
    → tabulate n (λ s. number_of (slice_range (accumulated x) (s * m) (s * m + m))) ≡ path_of m 0 n x
groups-path m n x low h =
    ap (λ (y : List ℕ). tabulate n (λ s. number_of (slice_range y (s * m) (s * m + m)))) (accumulated-is x)
    ∙ groups-chunked m n (running 0 x)
    ∙ chunked-running m n 0 x low h
