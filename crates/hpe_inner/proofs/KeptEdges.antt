-- The places of a stage in the list of a word, and the best edges that are kept there.
use Rattle.std.proofs.Common.{◌≡◌, ℕ, ◌+◌, ◌-◌, ◌*◌, ◌/◌, ◌%◌, ◌^◌, ◌<◌, ◌≤◌, ⊎_elim, sym, ◌∙◌, ap, subst, arith, ℤ, List, length, take, drop, rules}
use Rattle.std.proofs.lemmas.Bool.{cases_lt}
use Rattle.std.proofs.lemmas.List.{places}
use Rattle.std.proofs.Math.Nat.{mul-le-mul_right}
use borrow.Rule.Slice.PartMut.{put_mid}
use Rattle.hpe_base.specs.Greatest.{IsGreatest}
use Rattle.hpe_base.specs.Sizes.{number_at}
use Rattle.hpe_lane.specs.Parts.{AreBestEdges, stage_edge}
use Rattle.hpe_inner.specs.Sweeps.{AreEdgesKept, AreSame, KeepsEdges, inner_edge}
use Rattle.hpe_inner.proofs.ForwardRow.{cut_is, cut_long}

-- ---- a stage's places, in a list that is written a stage at a time
block_end : (t m n : ℕ) → t < n → t * m + m ≤ n * m
block_end t m n h = let e : (t + 1) * m ≡ t * m + m = omega arith in let le : t + 1 ≤ n = omega arith in let p : (t + 1) * m ≤ n * m = mul-le-mul_right m le in omega arith

pub block_at : (xs ys : List ℤ) (t k m n i : ℕ) → k ≡ m → length ys ≡ m → length xs ≡ n * m → t < n → i < m → number_at (put_mid (t * k) ((t + 1) * k - t * k) xs ys) (t * m + i) ≡ number_at ys i
block_at xs ys t k m n i e ly lx lt li =
    ap (λ (j : ℕ). number_at (put_mid (t * j) ((t + 1) * j - t * j) xs ys) (t * m + i)) e ∙ (let r = block_end t m n lt in search (rules, places))

pub block_above : (xs ys : List ℤ) (t k s m n i : ℕ) → k ≡ m → length ys ≡ m → length xs ≡ n * m → t < s → s < n → i < m → number_at (put_mid (t * k) ((t + 1) * k - t * k) xs ys) (s * m + i) ≡ number_at xs (s * m + i)
block_above xs ys t k s m n i e ly lx ts lt li =
    ap (λ (j : ℕ). number_at (put_mid (t * j) ((t + 1) * j - t * j) xs ys) (s * m + i)) e ∙ (let r = block_end t m s ts in let q = block_end s m n lt in search (rules, places))

pub block_below : (xs ys : List ℤ) (t k s m n i : ℕ) → k ≡ m → length ys ≡ m → length xs ≡ n * m → s < t → t < n → i < m → number_at (put_mid (t * k) ((t + 1) * k - t * k) xs ys) (s * m + i) ≡ number_at xs (s * m + i)
block_below xs ys t k s m n i e ly lx st lt li =
    ap (λ (j : ℕ). number_at (put_mid (t * j) ((t + 1) * j - t * j) xs ys) (s * m + i)) e ∙ (let r = block_end s m t st in let q = block_end t m n lt in search (rules, places))

pub place_in : (xs : List ℤ) (t m i : ℕ) → i < m → number_at (take m (drop (t * m) xs)) i ≡ number_at xs (t * m + i)
place_in xs t m i li = search (rules, places)

-- ---- best edges

-- they are four numbers, wherever these stand
pub edges_by_place : (m : ℕ) (edge : ℕ → ℤ) (best places : List ℤ) → ((i : ℕ) → i < 4 → number_at places i ≡ number_at best i) → AreBestEdges m edge best → AreBestEdges m edge places
edges_by_place m edge best places same are = λ f b lf lb.
    subst (IsGreatest (λ (v : ℕ). (v < 2 ^ m) × ((v / 2 ^ (m - 1) ≡ f) × (v % 2 ≡ b))) edge) (sym (same (2 * f + b) (omega arith))) (are f b lf lb)

-- what a stage's call says of its slices, said of the whole word; k and size are the lengths that the code cuts by
pub edges_whole : (m k n t size : ℕ) (counts : List ℕ) (l places : List ℤ) → k ≡ m → size ≡ 2 ^ m → length l ≡ n * m → t < n
    → KeepsEdges (take ((t + 1) * size - t * size) (drop (t * size) counts)) (take ((t + 1) * k - t * k) (drop (t * k) l)) places
    → 4 ≤ m → AreBestEdges m (inner_edge m counts l t 0) places
edges_whole m k n t size counts l places ek es el lt h =
    let one = subst (λ (x : List ℕ). KeepsEdges x (take ((t + 1) * k - t * k) (drop (t * k) l)) places) (cut_is t size (2 ^ m) counts es) h in
    let two = subst (λ (y : List ℤ). KeepsEdges (take (2 ^ m) (drop (t * 2 ^ m) counts)) y places) (cut_is t k m l ek) one in
    subst (λ (j : ℕ). 4 ≤ j → AreBestEdges j (stage_edge (take (2 ^ m) (drop (t * 2 ^ m) counts)) (take m (drop (t * m) l)) 0) places) (cut_long t m n l el lt) two

-- and the other way
pub edges_cut : (m k n t size : ℕ) (counts : List ℕ) (l out : List ℤ) → k ≡ m → size ≡ 2 ^ m → length l ≡ n * m → t < n
    → (4 ≤ m → AreBestEdges m (inner_edge m counts l t 0) (take m (drop (t * m) out)))
    → KeepsEdges (take ((t + 1) * size - t * size) (drop (t * size) counts)) (take ((t + 1) * k - t * k) (drop (t * k) l)) (take ((t + 1) * k - t * k) (drop (t * k) out))
edges_cut m k n t size counts l out ek es el lt h =
    let C : List ℕ → List ℤ → List ℤ → Type 0 = λ cs ls ps. KeepsEdges cs ls ps in
    let three = subst (λ (j : ℕ). 4 ≤ j → AreBestEdges j (stage_edge (take (2 ^ m) (drop (t * 2 ^ m) counts)) (take m (drop (t * m) l)) 0) (take m (drop (t * m) out))) (sym (cut_long t m n l el lt)) h in
    let two = subst (λ (y : List ℤ). C (take (2 ^ m) (drop (t * 2 ^ m) counts)) y (take m (drop (t * m) out))) (sym (cut_is t k m l ek)) three in
    let one = subst (λ (x : List ℕ). C x (take ((t + 1) * k - t * k) (drop (t * k) l)) (take m (drop (t * m) out))) (sym (cut_is t size (2 ^ m) counts es)) two in
    subst (λ (p : List ℤ). C (take ((t + 1) * size - t * size) (drop (t * size) counts)) (take ((t + 1) * k - t * k) (drop (t * k) l)) p) (sym (cut_is t k m out ek)) one

-- where the places are as they were, so are the edges
pub edges_same : (m first end : ℕ) (counts : List ℕ) (l old new : List ℤ) → AreSame m first end old new → AreEdgesKept m first end counts l old → AreEdgesKept m first end counts l new
edges_same m first end counts l old new same kept = λ many t a b.
    edges_by_place m (inner_edge m counts l t 0) (take m (drop (t * m) old)) (take m (drop (t * m) new))
    (λ i li. let lm : i < m = omega arith in place_in new t m i lm ∙ same t i a b lm ∙ sym (place_in old t m i lm))
    (kept many t a b)

pub edges_within : (m first end low high : ℕ) (counts : List ℕ) (l out : List ℤ) → first ≤ low → high ≤ end → AreEdgesKept m first end counts l out → AreEdgesKept m low high counts l out
edges_within m first end low high counts l out a b kept = λ many t c d. kept many t (omega (arith, c)) (omega (arith, d))

-- with the edges of one stage more
pub edges_more : (m k n t : ℕ) (counts : List ℕ) (l out places : List ℤ) → k ≡ m → length places ≡ m → length out ≡ n * m → t < n
    → (4 ≤ m → AreBestEdges m (inner_edge m counts l t 0) places) → AreEdgesKept m 0 t counts l out
    → AreEdgesKept m 0 (t + 1) counts l (put_mid (t * k) ((t + 1) * k - t * k) out places)
edges_more m k n t counts l out places e lp lo lt here kept = λ many u a b.
    let new : List ℤ = put_mid (t * k) ((t + 1) * k - t * k) out places in
    ⊎_elim
    (λ (h : u < t). edges_by_place m (inner_edge m counts l u 0) (take m (drop (u * m) out)) (take m (drop (u * m) new))
    (λ i li. let lm : i < m = omega arith in place_in new u m i lm ∙ block_below out places t k u m n i e lp lo h lt lm ∙ sym (place_in out u m i lm))
    (kept many u a h))
    (λ (h : t ≤ u). let same : t ≡ u = omega arith in
    subst (λ (j : ℕ). AreBestEdges m (inner_edge m counts l j 0) (take m (drop (j * m) new))) same
    (edges_by_place m (inner_edge m counts l t 0) places (take m (drop (t * m) new))
    (λ i li. let lm : i < m = omega arith in place_in new t m i lm ∙ block_at out places t k m n i e lp lo lt lm)
    (here many)))
    (cases_lt u t)
