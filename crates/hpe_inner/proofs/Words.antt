-- Words and paths: each path is that of one word, and its inputs hold the word's bits.
use Rattle.std.proofs.Common.{◌≡◌, ℕ, zero, suc, ◌+◌, ◌*◌, ◌/◌, ◌%◌, ◌^◌, ◌<◌, sym, ◌∙◌, ap, ap₂, subst, refl, arith, List, [], ◌∷◌, ◌++◌, length, take, drop, get_or, add_comm}
use Rattle.std.proofs.Math.Nat.{mod-eq_of_lt, zero-mul, mod-lt}
use Rattle.std.proofs.lemmas.List.{take_at, drop_at, get_or-take, get_or-drop}
use Rattle.hpe_base.specs.Bits.{number_of, bits_of, xor}
use Rattle.hpe_base.specs.Trellis.{IsPath, state_at}
use Rattle.hpe_base.proofs.BitLists.{length-bits_of, get_or-bits_of, number_of-bits_of}
use Rattle.hpe_base.proofs.Numbers.{number_of-lt, bits_of-number_of}
use Rattle.hpe_base.proofs.Trellis.{path-length, path-append}
use Rattle.hpe_lane.specs.Edges.{input_bit}
use Rattle.hpe_inner.specs.Sweeps.{inner_next}
use Rattle.hpe_inner.proofs.Running.{running, length-running, are_bits-running, path_of, path-take, group_more}

pub number-below : (p : ℕ) (u : List ℕ) → number_of (running p u) < 2 ^ length u
number-below p u = subst (λ (n : ℕ). number_of (running p u) < 2 ^ n) (length-running p u) (number_of-lt (running p u) (are_bits-running p u))

-- the word whose running parity from p on is ys
abbrev pub unrun : ℕ → List ℕ → List ℕ
unrun p [] = []
unrun p (y ∷ ys) = ((p + y) % 2) ∷ unrun y ys

twice : (p y : ℕ) → y < 2 → (p + (p + y) % 2) % 2 ≡ y
twice p y h = omega arith

running-unrun : (p n : ℕ) (ys : List ℕ) → IsPath 2 n ys → running p (unrun p ys) ≡ ys
running-unrun p zero [] h = refl
running-unrun p zero (y ∷ ys) h = absurd h
running-unrun p (suc n) [] h = absurd h
running-unrun p (suc n) (y ∷ ys) h =
    ap₂ (λ (z : ℕ) (zs : List ℕ). z ∷ running z zs) (twice p y h.0) refl ∙ ap (λ (zs : List ℕ). y ∷ zs) (running-unrun y n ys h.1)

unrun-running : (p n : ℕ) (u : List ℕ) → IsPath 2 n u → unrun p (running p u) ≡ u
unrun-running p zero [] h = refl
unrun-running p zero (b ∷ u) h = absurd h
unrun-running p (suc n) [] h = absurd h
unrun-running p (suc n) (b ∷ u) h = ap₂ (λ (z : ℕ) (zs : List ℕ). z ∷ zs) (twice p b h.0) (unrun-running ((p + b) % 2) n u h.1)

bits-path : (k v : ℕ) → IsPath 2 k (bits_of k v)
unfolding bits_of
bits-path zero v = tt
bits-path (suc k) v = (mod-lt (v / 2 ^ k) (omega arith), bits-path k v)

unrun-path : (p n : ℕ) (ys : List ℕ) → IsPath 2 n ys → IsPath 2 n (unrun p ys)
unrun-path p zero [] h = tt
unrun-path p zero (y ∷ ys) h = absurd h
unrun-path p (suc n) [] h = absurd h
unrun-path p (suc n) (y ∷ ys) h = (mod-lt (p + y) (omega arith), unrun-path y n ys h.1)

-- the bits of the number that running parities write
bits-number : (n p : ℕ) (u : List ℕ) → length u ≡ n → bits_of n (number_of (running p u)) ≡ running p u
bits-number n p u e =
    ap (λ (k : ℕ). bits_of k (number_of (running p u))) (sym e ∙ sym (length-running p u)) ∙ bits_of-number_of (running p u) (are_bits-running p u)

-- the word of a path
abbrev pub word_of : ℕ → ℕ → List ℕ → List ℕ
word_of m p [] = []
word_of m p (v ∷ vs) = unrun p (bits_of m v) ++ word_of m (v % 2) vs

pub word-path : (m n p : ℕ) (vs : List ℕ) → IsPath (2 ^ m) n vs → IsPath 2 (n * m) (word_of m p vs)
word-path m zero p [] h = subst (λ (k : ℕ). IsPath 2 k []) (sym (zero-mul m)) tt
word-path m zero p (v ∷ vs) h = absurd h
word-path m (suc n) p [] h = absurd h
word-path m (suc n) p (v ∷ vs) h =
    subst (λ (k : ℕ). IsPath 2 k (unrun p (bits_of m v) ++ word_of m (v % 2) vs)) (sym (group_more m n))
    (path-append 2 m (n * m) (unrun p (bits_of m v)) (word_of m (v % 2) vs) (unrun-path p m (bits_of m v) (bits-path m v)) (word-path m n (v % 2) vs h.1))

pub path-of-word : (m n p : ℕ) (vs : List ℕ) → IsPath (2 ^ m) n vs → path_of m p n (word_of m p vs) ≡ vs
path-of-word m zero p [] h = refl
path-of-word m zero p (v ∷ vs) h = absurd h
path-of-word m (suc n) p [] h = absurd h
path-of-word m (suc n) p (v ∷ vs) h =
    let u : List ℕ = unrun p (bits_of m v) in
    let lu : length u ≡ m = path-length 2 m u (unrun-path p m (bits_of m v) (bits-path m v)) in
    let tk : take m (u ++ word_of m (v % 2) vs) ≡ u = take_at u (word_of m (v % 2) vs) m lu in
    let dp : drop m (u ++ word_of m (v % 2) vs) ≡ word_of m (v % 2) vs = drop_at u (word_of m (v % 2) vs) m lu in
    let is : number_of (running p (take m (u ++ word_of m (v % 2) vs))) ≡ v =
    ap (λ (y : List ℕ). number_of (running p y)) tk ∙ ap number_of (running-unrun p m (bits_of m v) (bits-path m v)) ∙ number_of-bits_of m v ∙ mod-eq_of_lt h.0 in
    ap₂ (λ (a : ℕ) (y : List ℕ). a ∷ path_of m (a % 2) n y) is dp ∙ ap (λ (ws : List ℕ). v ∷ ws) (path-of-word m n (v % 2) vs h.1)

pub path-of-path : (m n p : ℕ) (x : List ℕ) → IsPath 2 (n * m) x → IsPath (2 ^ m) n (path_of m p n x)
path-of-path m zero p x h = tt
path-of-path m (suc n) p x h =
    let w = path-take 2 m (n * m) x (subst (λ (k : ℕ). IsPath 2 k x) (group_more m n) h) in
    let lu : length (take m x) ≡ m = path-length 2 m (take m x) w.0 in (
      subst (λ (k : ℕ). number_of (running p (take m x)) < 2 ^ k) lu (number-below p (take m x)),
      path-of-path m n (number_of (running p (take m x)) % 2) (drop m x) w.1,
    )

-- ---- the bits of a word in the inputs of its path

unrun-first : (p : ℕ) (ys : List ℕ) → 0 < length ys → get_or (unrun p ys) 0 0 ≡ xor (get_or ys 0 0) p
unrun-first p [] h = absurd (omega arith)
unrun-first p (y ∷ ys) h = ap (λ (k : ℕ). k % 2) (add_comm p y)

unrun-later : (p : ℕ) (ys : List ℕ) (i : ℕ) → suc i < length ys → get_or (unrun p ys) (suc i) 0 ≡ xor (get_or ys (suc i) 0) (get_or ys i 0)
unrun-later p [] i h = absurd (omega arith)
unrun-later p (y ∷ []) i h = absurd (omega arith)
unrun-later p (y ∷ z ∷ ys) zero h = ap (λ (k : ℕ). k % 2) (add_comm y z)
unrun-later p (y ∷ z ∷ ys) (suc i) h = unrun-later y (z ∷ ys) i (omega arith)

input-is : (m i s v : ℕ) → i < m → input_bit m i s v ≡ get_or (unrun s (bits_of m v)) i 0
input-is m zero s v h =
    ap (λ (k : ℕ). xor k s) (sym (get_or-bits_of m v 0 0 h)) ∙ sym (unrun-first s (bits_of m v) (subst (λ (k : ℕ). 0 < k) (sym (length-bits_of m v)) h))
input-is m (suc i) s v h =
    ap₂ (λ (a b : ℕ). xor a b) (sym (get_or-bits_of m v (suc i) 0 h)) (sym (get_or-bits_of m v i 0 (omega arith)))
    ∙ sym (unrun-later s (bits_of m v) i (subst (λ (k : ℕ). suc i < k) (sym (length-bits_of m v)) h))

first_place : (m i : ℕ) → 0 * m + i ≡ i
first_place m i = omega arith

later_place : (m t i : ℕ) → suc t * m + i ≡ m + (t * m + i)
later_place m t i = omega arith

-- bit t * m + i of a word is input bit i of stage t of its path
pub word-bit : (m n p t i : ℕ) (x : List ℕ) → IsPath 2 (n * m) x → t < n → i < m
    → get_or x (t * m + i) 0 ≡ input_bit m i (state_at inner_next p (path_of m p n x) t) (get_or (path_of m p n x) t 0)
word-bit m zero p t i x h lt k = absurd (omega arith)
word-bit m (suc n) p zero i x h lt k =
    let w = path-take 2 m (n * m) x (subst (λ (j : ℕ). IsPath 2 j x) (group_more m n) h) in
    let lu : length (take m x) ≡ m = path-length 2 m (take m x) w.0 in
    ap (λ (j : ℕ). get_or x j 0) (first_place m i) ∙ sym (get_or-take m x i 0 k)
    ∙ ap (λ (y : List ℕ). get_or y i 0) (sym (unrun-running p m (take m x) w.0) ∙ ap (unrun p) (sym (bits-number m p (take m x) lu)))
    ∙ sym (input-is m i p (number_of (running p (take m x))) k)
word-bit m (suc n) p (suc t) i x h lt k =
    let w = path-take 2 m (n * m) x (subst (λ (j : ℕ). IsPath 2 j x) (group_more m n) h) in
    ap (λ (j : ℕ). get_or x j 0) (later_place m t i) ∙ sym (get_or-drop m x (t * m + i) 0)
    ∙ word-bit m n (number_of (running p (take m x)) % 2) t i (drop m x) w.1 (omega arith) k
