-- The score of a word is what its path through the trellis scores.
use Rattle.std.proofs.Common.{◌≡◌, ℕ, zero, suc, ◌+◌, ◌*◌, ◌/◌, ◌%◌, ◌^◌, ◌<◌, sym, ◌∙◌, ap, ap₂, subst, refl, arith, ℤ, pos, ◌+ℤ◌, List, [], ◌∷◌, zero-add, add-zero, length, take, drop, get_or, cond, sum}
use Rattle.std.specs.Prelude.{nat_eq, slice_range}
use Rattle.std.proofs.Math.Nat.{zero-mul, mod-lt}
use Rattle.std.proofs.lemmas.Nat.{div-mul-add}
use Rattle.std.proofs.lemmas.List.{drop-drop, length-take, length-drop, get_or-take, get_or-drop}
use Rattle.std.proofs.lemmas.List.Sums.{sum_by-cons}
use Rattle.std.proofs.lemmas.Int.{ints}
use Rattle.std.proofs.Math.IntN.{+ℤ_assoc, +ℤ_idl}
use Rattle.hpe_base.specs.Lists.{tabulate}
use Rattle.hpe_base.specs.Bits.{number_of}
use Rattle.hpe_base.specs.Parameters.{symbol_bits}
use Rattle.hpe_base.specs.Accumulator.{accumulated}
use Rattle.hpe_base.specs.Mapper.{symbols_of}
use Rattle.hpe_base.specs.PathScores.{chosen_sum, pulse_sum, inner_score}
use Rattle.hpe_base.specs.Trellis.{walk, IsPath}
use Rattle.hpe_base.specs.declared.profile.Order.{Order}
use Rattle.hpe_base.proofs.ParameterLemmas.{symbol_bits-pos}
use Rattle.hpe_base.proofs.Tabulated.{length-tabulate, tabulate-same, sum-tabulate-none}
use Rattle.hpe_base.proofs.Trellis.{path-length, stage-suc, chosen_sum-none}
use Rattle.hpe_lane.specs.Edges.{gray_from}
use Rattle.hpe_lane.proofs.DifferingBits.{gray-cons}
use Rattle.hpe_inner.specs.Sweeps.{inner_edge, inner_next}
use Rattle.hpe_inner.proofs.Running.{running, length-running, path_of, path-take, group_more, groups-path, tabulate-cons}
use Rattle.hpe_inner.proofs.Words.{number-below}

bit_test : (p b : ℕ) (z : ℤ) → p < 2 → b < 2 → cond (nat_eq ((p + b) % 2) p) (pos 0) z ≡ cond (nat_eq b 1) z (pos 0)
bit_test zero zero z h k = refl
bit_test zero (suc zero) z h k = refl
bit_test (suc zero) zero z h k = refl
bit_test (suc zero) (suc zero) z h k = refl
bit_test p (suc (suc b)) z h k = absurd (omega arith)
bit_test (suc (suc p)) b z h k = absurd (omega arith)

-- the numbers at which the word is 1 are those at which its symbol's bits differ
gray-is : (p : ℕ) (l : List ℤ) (u : List ℕ) → p < 2 → IsPath 2 (length l) u → gray_from p l (number_of (running p u)) ≡ chosen_sum l u
gray-is p [] [] h k = refl
gray-is p [] (b ∷ u) h k = absurd k
gray-is p (z ∷ l) [] h k = absurd k
gray-is p (z ∷ l) (b ∷ u) h k =
    let c : ℕ = (p + b) % 2 in
    let lu : length u ≡ length l = path-length 2 (length l) u k.1 in
    let e : length (running c u) ≡ length l = length-running c u ∙ lu in
    let below : number_of (running c u) < 2 ^ length l = subst (λ (n : ℕ). number_of (running c u) < 2 ^ n) lu (number-below c u) in
    ap (λ (n : ℕ). gray_from p (z ∷ l) (c * 2 ^ n + number_of (running c u))) e
    ∙ gray-cons p z l c (number_of (running c u)) (mod-lt (p + b) (omega arith)) below
    ∙ ap₂ (λ (x y : ℤ). x +ℤ y) (bit_test p b z h k.0) (gray-is c l u (mod-lt (p + b) (omega arith)) k.1)

-- the sum in two parts
chosen-split : (m : ℕ) (l : List ℤ) (x : List ℕ) → chosen_sum (take m l) (take m x) +ℤ chosen_sum (drop m l) (drop m x) ≡ chosen_sum l x
chosen-split zero l x = +ℤ_idl (chosen_sum l x)
chosen-split (suc m) [] x = refl
chosen-split (suc m) (z ∷ l) [] = ap (λ (y : ℤ). pos 0 +ℤ y) (chosen_sum-none (drop m l))
chosen-split (suc m) (z ∷ l) (b ∷ x) =
    +ℤ_assoc (cond (nat_eq b 1) z (pos 0)) (chosen_sum (take m l) (take m x)) (chosen_sum (drop m l) (drop m x))
    ∙ ap (λ (y : ℤ). cond (nat_eq b 1) z (pos 0) +ℤ y) (chosen-split m l x)

-- the counts at the symbols of a path, from stage t on
abbrev count_sum : ℕ → List ℕ → ℕ → List ℕ → ℕ
count_sum size counts t [] = 0
count_sum size counts t (v ∷ vs) = get_or counts (t * size + v) 0 + count_sum size counts (t + 1) vs

four : (a c : ℕ) (b d s : ℤ) → b +ℤ d ≡ s → (pos a +ℤ b) +ℤ (pos c +ℤ d) ≡ pos (a + c) +ℤ s
four a c b d s h = omega (arith, ints)

group_at : (m t n : ℕ) → (t + suc n) * m ≡ t * m + (m + n * m)
group_at m t n = grind arith

group_next : (m t : ℕ) → t * m + m ≡ (t + 1) * m
group_next m t = omega arith

walk-is : (m n t p : ℕ) (counts : List ℕ) (l : List ℤ) (x : List ℕ) → p < 2 → length l ≡ (t + n) * m → IsPath 2 (n * m) x
    → walk (inner_edge m counts l) inner_next t p (path_of m p n x) ≡ pos (count_sum (2 ^ m) counts t (path_of m p n x)) +ℤ chosen_sum (drop (t * m) l) x
walk-is m zero t p counts l [] low long h = sym (+ℤ_idl (chosen_sum (drop (t * m) l) []) ∙ chosen_sum-none (drop (t * m) l))
walk-is m zero t p counts l (b ∷ x) low long h = absurd (subst (λ (k : ℕ). IsPath 2 k (b ∷ x)) (zero-mul m) h)
walk-is m (suc n) t p counts l x low long h =
    let w = path-take 2 m (n * m) x (subst (λ (k : ℕ). IsPath 2 k x) (group_more m n) h) in
    let u : List ℕ = take m x in
    let v : ℕ = number_of (running p u) in
    let L : List ℤ = drop (t * m) l in
    let lu : length u ≡ m = path-length 2 m u w.0 in
    let lL : length (take m L) ≡ m = (let g = group_at m t n in simp (length-take, length-drop) (omega arith)) in
    let below : v < 2 ^ m = subst (λ (k : ℕ). v < 2 ^ k) lu (number-below p u) in
    let edge_is : inner_edge m counts l t p v ≡ pos (get_or counts (t * 2 ^ m + v) 0) +ℤ chosen_sum (take m L) u =
    ap₂ (λ (a : ℕ) (b : ℤ). pos a +ℤ b) (get_or-take (2 ^ m) (drop (t * 2 ^ m) counts) v 0 below ∙ get_or-drop (t * 2 ^ m) counts v 0)
    (gray-is p (take m L) u low (subst (λ (k : ℕ). IsPath 2 k u) (sym lL) w.0)) in
    let rest = walk-is m n (t + 1) (v % 2) counts l (drop m x) (mod-lt v (omega arith)) (long ∙ ap (λ (k : ℕ). k * m) (stage-suc t n)) w.1 in
    let cut : drop m L ≡ drop ((t + 1) * m) l = drop-drop m (t * m) l ∙ ap (λ (k : ℕ). drop k l) (group_next m t) in
    let whole : chosen_sum (take m L) u +ℤ chosen_sum (drop ((t + 1) * m) l) (drop m x) ≡ chosen_sum L x =
    ap (λ (ys : List ℤ). chosen_sum (take m L) u +ℤ chosen_sum ys (drop m x)) (sym cut) ∙ chosen-split m L x in
    ap₂ (λ (a b : ℤ). a +ℤ b) edge_is rest
    ∙ four (get_or counts (t * 2 ^ m + v) 0) (count_sum (2 ^ m) counts (t + 1) (path_of m (v % 2) n (drop m x))) (chosen_sum (take m L) u) (chosen_sum (drop ((t + 1) * m) l) (drop m x)) (chosen_sum L x) whole

count_at : (size : ℕ) (counts : List ℕ) (a b v : ℕ) → a ≡ b → get_or counts (a * size + v) 0 ≡ get_or counts (b * size + v) 0
count_at size counts a b v e = ap (λ (x : ℕ). get_or counts (x * size + v) 0) e

-- the counts by places are those along the path
count-places : (size : ℕ) (counts : List ℕ) (a : ℕ) (vs : List ℕ) → sum (tabulate (length vs) (λ s. get_or counts ((a + s) * size + get_or vs s 0) 0)) ≡ count_sum size counts a vs
count-places size counts a [] = sum-tabulate-none (λ s. get_or counts ((a + s) * size + get_or [] s 0) 0)
count-places size counts a (v ∷ vs) =
    let f : ℕ → ℕ = λ s. get_or counts ((a + s) * size + get_or (v ∷ vs) s 0) 0 in
    ap sum (tabulate-cons (length vs) f)
    ∙ sum_by-cons (λ (k : ℕ). k) (f 0) (tabulate (length vs) (λ i. f (suc i)))
    ∙ ap₂ (λ (x y : ℕ). x + y) (count_at size counts (a + 0) a v (add-zero a))
    (ap sum (tabulate-same (length vs) (λ i. f (suc i)) (λ s. get_or counts ((a + 1 + s) * size + get_or vs s 0) 0) (λ i h. count_at size counts (a + suc i) (a + 1 + i) (get_or vs i 0) (stage-suc a i)))
    ∙ count-places size counts (a + 1) vs)

count_of : (m n k : ℕ) → 0 < m → k ≡ n * m → k / m ≡ n
count_of m n k low e = ap (λ (j : ℕ). j / m) (e ∙ sym (add-zero (n * m))) ∙ div-mul-add n m 0 low

symbols-path : (o : Order) (n : ℕ) (x : List ℕ) → IsPath 2 (n * symbol_bits o) x → symbols_of o (accumulated x) ≡ path_of (symbol_bits o) 0 n x
symbols-path o n x h =
    let m : ℕ = symbol_bits o in
    let long : length (accumulated x) ≡ n * m = length-tabulate (length x) (λ j. sum (take (j + 1) x) % 2) ∙ path-length 2 (n * m) x h in
    ap (λ (k : ℕ). tabulate k (λ s. number_of (slice_range (accumulated x) (s * m) (s * m + m)))) (count_of m n (length (accumulated x)) (symbol_bits-pos o) long)
    ∙ groups-path m n x (symbol_bits-pos o) h

-- the score of a word is what its path scores
pub score-is : (o : Order) (n : ℕ) (counts : List ℕ) (l : List ℤ) (x : List ℕ) → length l ≡ n * symbol_bits o → IsPath 2 (n * symbol_bits o) x
    → inner_score o counts l x ≡ walk (inner_edge (symbol_bits o) counts l) inner_next 0 0 (path_of (symbol_bits o) 0 n x)
score-is o n counts l x long h =
    let m : ℕ = symbol_bits o in
    let vs : List ℕ = path_of m 0 n x in
    ap (λ (ws : List ℕ). pos (pulse_sum o counts ws) +ℤ chosen_sum l x) (symbols-path o n x h)
    ∙ ap (λ (k : ℕ). pos k +ℤ chosen_sum l x)
    (ap sum (tabulate-same (length vs) (λ s. get_or counts (s * 2 ^ m + get_or vs s 0) 0) (λ s. get_or counts ((0 + s) * 2 ^ m + get_or vs s 0) 0)
    (λ s k. count_at (2 ^ m) counts s (0 + s) (get_or vs s 0) (sym (zero-add s))))
    ∙ count-places (2 ^ m) counts 0 vs)
    ∙ ap (λ (k : ℕ). pos (count_sum (2 ^ m) counts 0 vs) +ℤ chosen_sum (drop k l) x) (sym (zero-mul m))
    ∙ sym (walk-is m n 0 0 counts l x (omega arith) (long ∙ ap (λ (k : ℕ). k * m) (sym (zero-add n))) h)
