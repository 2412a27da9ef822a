-- The bits whose flag is set: place by place, and how many they are.
use Rattle.std.proofs.Common.{◌≡◌, ◌++◌, ◌+◌, ◌<◌, ◌≤◌, ℕ, List, [], ◌∷◌, length, get_or, take, refl, sym, ◌∙◌, ap, arith, zero, suc, Bool, true, false, cond, append_assoc, length-append, append-nil}
use Rattle.hpe_base.specs.ConvolutionalCode.{selected}

-- the bits of one place
abbrev pub one : Bool → ℕ → List ℕ
one flag bit = cond flag (bit ∷ []) []

-- one more place
pub selected-more : (flags : List Bool) (bits : List ℕ) (i : ℕ) → i < length flags → i < length bits →
    selected (take (i + 1) flags) (take (i + 1) bits) ≡ selected (take i flags) (take i bits) ++ one (get_or flags i false) (get_or bits i 0)
selected-more [] bits i h k = absurd (omega arith)
selected-more (f ∷ fs) [] i h k = absurd (omega arith)
selected-more (f ∷ fs) (b ∷ bs) zero h k = append-nil (one f b)
selected-more (f ∷ fs) (b ∷ bs) (suc i) h k =
    let e : suc i + 1 ≡ suc (i + 1) = omega arith in
    let ih : selected (take (i + 1) fs) (take (i + 1) bs) ≡ selected (take i fs) (take i bs) ++ one (get_or fs i false) (get_or bs i 0) = selected-more fs bs i (omega arith) (omega arith) in
    rw (e, ih) (sym (append_assoc (one f b) (selected (take i fs) (take i bs)) _))

-- the first places give no more than all
pub length-selected-le : (flags : List Bool) (bits : List ℕ) (i : ℕ) → length (selected (take i flags) (take i bits)) ≤ length (selected flags bits)
length-selected-le flags bits zero = omega arith
length-selected-le [] bits (suc i) = omega arith
length-selected-le (f ∷ fs) [] (suc i) = omega arith
length-selected-le (f ∷ fs) (b ∷ bs) (suc i) =
    omega (arith, length-selected-le fs bs i, length-append (one f b) (selected (take i fs) (take i bs)), length-append (one f b) (selected fs bs))

-- one more place whose flag is set
pub selected-set : (flags : List Bool) (bits : List ℕ) (i : ℕ) → i < length flags → i < length bits → get_or flags i false ≡ true →
    selected (take (i + 1) flags) (take (i + 1) bits) ≡ selected (take i flags) (take i bits) ++ get_or bits i 0 ∷ []
selected-set flags bits i h k e = selected-more flags bits i h k ∙ ap (λ f. selected (take i flags) (take i bits) ++ one f (get_or bits i 0)) e

-- one more place whose flag is not set
pub selected-unset : (flags : List Bool) (bits : List ℕ) (i : ℕ) → i < length flags → i < length bits → get_or flags i false ≡ false →
    selected (take (i + 1) flags) (take (i + 1) bits) ≡ selected (take i flags) (take i bits)
selected-unset flags bits i h k e =
    selected-more flags bits i h k ∙ (ap (λ f. selected (take i flags) (take i bits) ++ one f (get_or bits i 0)) e ∙ append-nil _)

-- no more are kept than there are
pub selected-fits : (fs : List Bool) (xs : List ℕ) → length (selected fs xs) ≤ length xs
selected-fits [] xs = omega arith
selected-fits (f ∷ fs) [] = omega arith
selected-fits (true ∷ fs) (x ∷ xs) = let h = selected-fits fs xs in omega arith
selected-fits (false ∷ fs) (x ∷ xs) = let h = selected-fits fs xs in omega arith

-- how many are kept does not depend on the bits
pub length-selected-same : (fs : List Bool) (xs ys : List ℕ) → length xs ≡ length ys → length (selected fs xs) ≡ length (selected fs ys)
length-selected-same [] xs ys e = refl
length-selected-same (f ∷ fs) [] [] e = refl
length-selected-same (f ∷ fs) [] (y ∷ ys) e = absurd (omega arith)
length-selected-same (f ∷ fs) (x ∷ xs) [] e = absurd (omega arith)
length-selected-same (true ∷ fs) (x ∷ xs) (y ∷ ys) e = ap suc (length-selected-same fs xs ys (omega arith))
length-selected-same (false ∷ fs) (x ∷ xs) (y ∷ ys) e = length-selected-same fs xs ys (omega arith)

-- bits that are all the same give the same
pub selected-all : (fs : List Bool) (xs : List ℕ) (b i : ℕ) → ((k : ℕ) → k < length xs → get_or xs k 0 ≡ b) → i < length (selected fs xs) → get_or (selected fs xs) i 0 ≡ b
selected-all [] xs b i f h = absurd (omega arith)
selected-all (g ∷ fs) [] b i f h = absurd (omega arith)
selected-all (false ∷ fs) (x ∷ xs) b i f h = selected-all fs xs b i (λ k lt. f (suc k) (omega arith)) h
selected-all (true ∷ fs) (x ∷ xs) b zero f h = f 0 (omega arith)
selected-all (true ∷ fs) (x ∷ xs) b (suc i) f h = selected-all fs xs b i (λ k lt. f (suc k) (omega arith)) (omega arith)
