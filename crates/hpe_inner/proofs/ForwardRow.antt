-- The rows of the forward sweep, stage by stage.
use Rattle.std.proofs.Common.{⊎_elim, ◌≡◌, ℕ, zero, suc, ◌+◌, ◌*◌, ◌%◌, ◌^◌, ◌<◌, ◌≤◌, sym, ◌∙◌, ap, subst, refl, arith, ℤ, pos, negsuc, ◌-◌, ◌+ℤ◌, ◌≤ℤ◌, List, [], ◌∷◌, length, take, drop, get_or}
use Rattle.std.proofs.lemmas.Int.{ints}
use Rattle.std.proofs.lemmas.List.{length-take, length-drop}
use Rattle.std.proofs.Math.Nat.{mul-le-mul_right}
use Rattle.std.proofs.Math.Pow.{pow_mono}
use Rattle.hpe_base.specs.Greatest.{IsGreatest}
use Rattle.hpe_base.specs.Trellis.{IsEdge}
use Rattle.hpe_base.proofs.Trellis.{Fore, fore_step, fore_first}
use Rattle.hpe_base.specs.Sizes.{number_at, Within, AllWithin}
use Rattle.hpe_lane.specs.Edges.{gray_from, edge_of}
use Rattle.hpe_base.specs.Parameters.{symbol_bits}
use Rattle.hpe_base.specs.declared.profile.Order.{Order}
use Rattle.hpe_base.proofs.ParameterLemmas.{symbol_bits-low, positions-high}
use Rattle.std.proofs.lemmas.Bool.{cases_lt}
use Rattle.hpe_lane.specs.Stages.{IsStage}
use Rattle.hpe_inner.specs.Sweeps.{IsSweepable, inner_edge, inner_next, inner_start, RowWithin, IsForwardRow}
use Rattle.hpe_lane.specs.Parts.{stage_edge}
use Rattle.hpe_base.proofs.Greatest.{IsGreatest-carry}
use Rattle.hpe_lane.proofs.DifferingBits.{gray-within, list_within}
use Rattle.hpe_lane.proofs.Sizes.{zero_within, wider, drop_within}

stays : (m p u : ℕ) → p < 2 → u < 2 ^ m → inner_next p u < 2
stays m p u h k = omega arith

sum_of_within : (a b : ℕ) (x y : ℤ) → Within a x → Within b y → Within (b + a) (x +ℤ y)
sum_of_within a b x y h k = (omega (arith, ints), omega (arith, ints))

pub edge-within : (counts : List ℕ) (l : List ℤ) (p v : ℕ) → ((i : ℕ) → get_or counts i 0 ≤ 16383) → AllWithin 16383 l → Within ((length l + 1) * 16383) (stage_edge counts l p v)
edge-within counts l p v most within =
    let a : Within 16383 (pos (get_or counts v 0)) = (let h = most v in (omega (arith, ints), omega (arith, ints))) in
    let b = gray-within 16383 p l v within in
    let e : length l * 16383 + 16383 ≡ (length l + 1) * 16383 = omega arith in
    subst (λ (n : ℕ). Within n (stage_edge counts l p v)) e (sum_of_within 16383 (length l * 16383) (pos (get_or counts v 0)) (gray_from p l v) a b)

le_sum : (a b : ℕ) (x y : ℤ) → x ≤ℤ pos a → y ≤ℤ pos b → (x +ℤ y) ≤ℤ pos (a + b)
le_sum a b x y h k = omega (arith, ints)

ge_sum : (a b : ℕ) (x y : ℤ) → pos 0 ≤ℤ (x +ℤ pos a) → pos 0 ≤ℤ (y +ℤ pos b) → pos 0 ≤ℤ ((x +ℤ y) +ℤ pos (a + b))
ge_sum a b x y h k = omega (arith, ints)

lower : (x y : ℤ) (n : ℕ) → x ≤ℤ y → pos 0 ≤ℤ (x +ℤ pos n) → pos 0 ≤ℤ (y +ℤ pos n)
lower x y n h k = omega (arith, ints)

row_below : (most t s : ℕ) (row : List ℤ) → s < 2 → RowWithin most t row → number_at row s ≤ℤ pos (t * most)
row_below most t zero row h w = w.0.0
row_below most t (suc zero) row h w = w.1
row_below most t (suc (suc s)) row h w = absurd (omega arith)

-- one value of the next row
value_within : (most t size b : ℕ) (row : List ℤ) (edge : ℕ → ℕ → ℤ) (z : ℤ) → 2 ≤ size → b < 2 → ((p v : ℕ) → Within most (edge p v)) → RowWithin most t row
    → IsGreatest (λ (e : ℕ × ℕ). IsEdge size 2 e × (e.1 % 2 ≡ b)) (λ e. number_at row e.0 +ℤ edge e.0 e.1) z → Within (t * most + most) z
value_within most t size b row edge z two bl ew w g =
    let e = g.reached.0 in
    let up : (number_at row e.0 +ℤ edge e.0 e.1) ≤ℤ pos (t * most + most) = le_sum (t * most) most (number_at row e.0) (edge e.0 e.1) (row_below most t e.0 row g.reached.1.0.0.0 w) (ew e.0 e.1).0 in
    let low = g.bound (0, b) ((omega arith, omega arith), omega arith) in (
      subst (λ (y : ℤ). y ≤ℤ pos (t * most + most)) g.reached.1.1 up,
      lower (number_at row 0 +ℤ edge 0 b) z (t * most + most) low (ge_sum (t * most) most (number_at row 0) (edge 0 b) w.0.1 (ew 0 b).1),
    )

wide : (n : ℕ) (z : ℤ) → n ≤ 1099983617 → Within n z → Within 1099983617 z
wide n z h w = (let a = w.0 in omega (arith, ints), let a = w.1 in omega (arith, ints))

pub row-within : (most t size : ℕ) (row next : List ℤ) (edge : ℕ → ℕ → ℤ) → 2 ≤ size → ((p v : ℕ) → Within most (edge p v)) → RowWithin most t row → (t + 1) * most ≤ 1099983617
    → ((b : ℕ) → b < 2 → IsGreatest (λ (e : ℕ × ℕ). IsEdge size 2 e × (e.1 % 2 ≡ b)) (λ e. number_at row e.0 +ℤ edge e.0 e.1) (number_at next b))
    → RowWithin most (t + 1) next
row-within most t size row next edge two ew w cap best =
    let e : t * most + most ≡ (t + 1) * most = omega arith in
    let a = subst (λ (n : ℕ). Within n (number_at next 0)) e (value_within most t size 0 row edge (number_at next 0) two (omega arith) ew w (best 0 (omega arith))) in
    let b = subst (λ (n : ℕ). Within n (number_at next 1)) e (value_within most t size 1 row edge (number_at next 1) two (omega arith) ew w (best 1 (omega arith))) in
    (a, b.0, wide ((t + 1) * most) (number_at next 1) cap b)

-- one row more
pub IsForwardRow-more : (m t : ℕ) (counts : List ℕ) (l row next : List ℤ) → 2 ≤ 2 ^ m → (t + 1) * ((m + 1) * 16383) ≤ 1099983617
    → ((p v : ℕ) → Within ((m + 1) * 16383) (inner_edge m counts l t p v))
    → IsForwardRow m t counts l row
    → ((b : ℕ) → b < 2 → IsGreatest (λ (e : ℕ × ℕ). IsEdge (2 ^ m) 2 e × (e.1 % 2 ≡ b)) (λ e. number_at row e.0 +ℤ inner_edge m counts l t e.0 e.1) (number_at next b))
    → IsForwardRow m (t + 1) counts l next
IsForwardRow-more m t counts l row next two cap ew so_far best = record {
  top = λ q low. fore_step (2 ^ m) 2 (inner_edge m counts l) inner_next inner_start (stays m) t q (number_at next q) (number_at row) so_far.top (best q low);
  small = row-within ((m + 1) * 16383) t (2 ^ m) row next (inner_edge m counts l t) two ew so_far.small cap best;
}

first_value : (q : ℕ) → q < 2 → inner_start q ≡ number_at (pos 0 ∷ negsuc 1073741823 ∷ []) q
first_value zero h = refl
first_value (suc zero) h = refl
first_value (suc (suc q)) h = absurd (omega arith)

first_small : (most : ℕ) → RowWithin most 0 (pos 0 ∷ negsuc 1073741823 ∷ [])
first_small most = ((omega (arith, ints), omega (arith, ints)), omega (arith, ints), (omega (arith, ints), omega (arith, ints)))

pub IsForwardRow-first : (m : ℕ) (counts : List ℕ) (l : List ℤ) → IsForwardRow m 0 counts l (pos 0 ∷ negsuc 1073741823 ∷ [])
IsForwardRow-first m counts l = record {
  top = λ q low. subst (Fore (2 ^ m) 2 (inner_edge m counts l) inner_next inner_start 0 q) (first_value q low) (fore_first (2 ^ m) 2 (inner_edge m counts l) inner_next inner_start q low);
  small = first_small ((m + 1) * 16383);
}

-- a row is what its two numbers are
pub IsForwardRow-same : (m t : ℕ) (counts : List ℕ) (l row : List ℤ) (x y : ℤ) → x ≡ number_at row 0 → y ≡ number_at row 1 → IsForwardRow m t counts l row → IsForwardRow m t counts l (x ∷ y ∷ [])
IsForwardRow-same m t counts l row x y ex ey b = record {
  top = λ q h. subst (Fore (2 ^ m) 2 (inner_edge m counts l) inner_next inner_start t q) (two_is row x y ex ey q h) (b.top q h);
  small = let w = b.small in (
    subst (Within (t * ((m + 1) * 16383))) (sym ex) w.0,
    subst (λ (z : ℤ). z ≤ℤ pos (t * ((m + 1) * 16383))) (sym ey) w.1,
    subst (Within 1099983617) (sym ey) w.2,
  );
}
  where
    two_is : (row : List ℤ) (x y : ℤ) → x ≡ number_at row 0 → y ≡ number_at row 1 → (s : ℕ) → s < 2 → number_at row s ≡ number_at (x ∷ y ∷ []) s
    two_is row x y ex ey zero h = sym ex
    two_is row x y ex ey (suc zero) h = sym ey
    two_is row x y ex ey (suc (suc s)) h = absurd (omega arith)

pub row_fits : (most t : ℕ) (row : List ℤ) → t * most ≤ 1099983617 → RowWithin most t row → (s : ℕ) → s < 2 → Within 1099983617 (number_at row s)
row_fits most t row cap w zero h = wide (t * most) (number_at row 0) cap w.0
row_fits most t row cap w (suc zero) h = w.2
row_fits most t row cap w (suc (suc s)) h = absurd (omega arith)

-- a stage's slice, as the code cuts it
pub cut_is : {A : Type 0} (t size n : ℕ) (xs : List A) → size ≡ n → take ((t + 1) * size - t * size) (drop (t * size) xs) ≡ take n (drop (t * n) xs)
cut_is t size n xs e = let k : (t + 1) * size - t * size ≡ size = omega arith in ap (λ (j : ℕ). take j (drop (t * size) xs)) k ∙ ap (λ (j : ℕ). take j (drop (t * j) xs)) e

pub cut_long : {A : Type 0} (t m n : ℕ) (xs : List A) → length xs ≡ n * m → t < n → length (take m (drop (t * m) xs)) ≡ m
cut_long t m n xs e h = let k : (t + 1) * m ≤ n * m = grind (arith, mul-le-mul_right) in simp (length-take, length-drop) (omega arith)

pub below_cap : (t n most : ℕ) → t ≤ n → n * most ≤ 371566440 → t * most ≤ 1099983617
below_cap t n most h k = let p : t * most ≤ n * most = mul-le-mul_right most h in omega arith

take_most : (n : ℕ) (xs : List ℕ) → ((i : ℕ) → get_or xs i 0 ≤ 16383) → (i : ℕ) → get_or (take n xs) i 0 ≤ 16383
take_most zero xs f i = omega arith
take_most (suc n) [] f i = omega arith
take_most (suc n) (x ∷ xs) f zero = f 0
take_most (suc n) (x ∷ xs) f (suc i) = take_most n xs (λ k. f (suc k)) i

drop_most : (n : ℕ) (xs : List ℕ) → ((i : ℕ) → get_or xs i 0 ≤ 16383) → (i : ℕ) → get_or (drop n xs) i 0 ≤ 16383
drop_most zero xs f i = f i
drop_most (suc n) [] f i = omega arith
drop_most (suc n) (x ∷ xs) f i = drop_most n xs (λ k. f (suc k)) i

take_within : (m n : ℕ) (xs : List ℤ) → AllWithin m xs → (i : ℕ) → Within m (number_at (take n xs) i)
take_within m zero xs f i = zero_within m
take_within m (suc n) [] f i = zero_within m
take_within m (suc n) (x ∷ xs) f zero = f 0
take_within m (suc n) (x ∷ xs) f (suc i) = take_within m n xs (λ k. f (suc k)) i

few_bits : (m : ℕ) → 2 ^ m ≤ 256 → m ≤ 8
few_bits m h = ⊎_elim
    (λ (k : m < 9). omega (arith, k))
    (λ (k : 9 ≤ m). let p : 2 ^ 9 ≤ 2 ^ m = pow_mono {i = 9} {j = m} k in absurd {A = m ≤ 8} (omega (arith, p, h)))
    (cases_lt m 9)

-- a stage's slices are a stage; k and size are the lengths that the code cuts by
pub stage_is : (o : Order) (k size t n : ℕ) (counts : List ℕ) (l : List ℤ) → k ≡ symbol_bits o → size ≡ 2 ^ symbol_bits o → IsSweepable o n counts l → t < n
    → IsStage (take ((t + 1) * size - t * size) (drop (t * size) counts)) (take ((t + 1) * k - t * k) (drop (t * k) l))
stage_is o k size t n counts l ek es w lt =
    let m : ℕ = symbol_bits o in
    let long : length (take m (drop (t * m) l)) ≡ m = cut_long t m n l w.l_long lt in
    let exact : IsStage (take (2 ^ m) (drop (t * 2 ^ m) counts)) (take m (drop (t * m) l)) = record {
      few = subst (λ (j : ℕ). (2 ≤ j) × (j ≤ 8)) (sym long) (symbol_bits-low o, few_bits m (positions-high o));
      long = cut_long t (2 ^ m) n counts w.counts_long lt ∙ ap (λ (j : ℕ). 2 ^ j) (sym long);
      most = take_most (2 ^ m) (drop (t * 2 ^ m) counts) (drop_most (t * 2 ^ m) counts w.most);
      within = take_within 16383 m (drop (t * m) l) (drop_within 16383 (t * m) l w.within);
    } in
    subst (λ (x : List ℕ). IsStage x (take ((t + 1) * k - t * k) (drop (t * k) l))) (sym (cut_is t size (2 ^ m) counts es))
    (subst (IsStage (take (2 ^ m) (drop (t * 2 ^ m) counts))) (sym (cut_is t k m l ek)) exact)

-- what a stage's call says of its slices, said of the whole word; k and size are the lengths that the code cuts by
pub stage_best : (m k n t size : ℕ) (counts : List ℕ) (l : List ℤ) (row next : List ℤ) → k ≡ m → size ≡ 2 ^ m → length l ≡ n * m → t < n
    → ((b : ℕ) → b < 2 → IsGreatest (λ (e : ℕ × ℕ). IsEdge (2 ^ length (take ((t + 1) * k - t * k) (drop (t * k) l))) 2 e × (e.1 % 2 ≡ b))
    (λ e. number_at row e.0 +ℤ stage_edge (take ((t + 1) * size - t * size) (drop (t * size) counts)) (take ((t + 1) * k - t * k) (drop (t * k) l)) e.0 e.1) (number_at next b))
    → (b : ℕ) → b < 2 → IsGreatest (λ (e : ℕ × ℕ). IsEdge (2 ^ m) 2 e × (e.1 % 2 ≡ b)) (λ e. number_at row e.0 +ℤ inner_edge m counts l t e.0 e.1) (number_at next b)
stage_best m k n t size counts l row next ek es el lt h =
    let C : List ℕ → List ℤ → ℕ → Type 0 = λ cs ls j. (b : ℕ) → b < 2 → IsGreatest (λ (e : ℕ × ℕ). IsEdge (2 ^ j) 2 e × (e.1 % 2 ≡ b)) (λ e. number_at row e.0 +ℤ stage_edge cs ls e.0 e.1) (number_at next b) in
    let one = subst (λ (x : List ℕ). C x (take ((t + 1) * k - t * k) (drop (t * k) l)) (length (take ((t + 1) * k - t * k) (drop (t * k) l)))) (cut_is t size (2 ^ m) counts es) h in
    let two = subst (λ (y : List ℤ). C (take (2 ^ m) (drop (t * 2 ^ m) counts)) y (length y)) (cut_is t k m l ek) one in
    subst (λ (j : ℕ). C (take (2 ^ m) (drop (t * 2 ^ m) counts)) (take m (drop (t * m) l)) j) (cut_long t m n l el lt) two

pub two_or_more : (m : ℕ) → 2 ≤ m → 2 ≤ 2 ^ m
two_or_more m h = let p : 2 ^ 2 ≤ 2 ^ m = pow_mono {i = 2} {j = m} h in omega arith

pub inner-within : (m n t : ℕ) (counts : List ℕ) (l : List ℤ) → length l ≡ n * m → t < n → ((i : ℕ) → get_or counts i 0 ≤ 16383) → AllWithin 16383 l
    → (p v : ℕ) → Within ((m + 1) * 16383) (inner_edge m counts l t p v)
inner-within m n t counts l el lt most within p v =
    let cs : List ℕ = take (2 ^ m) (drop (t * 2 ^ m) counts) in
    let ls : List ℤ = take m (drop (t * m) l) in
    subst (λ (k : ℕ). Within ((k + 1) * 16383) (stage_edge cs ls p v)) (cut_long t m n l el lt)
    (edge-within cs ls p v (take_most (2 ^ m) (drop (t * 2 ^ m) counts) (drop_most (t * 2 ^ m) counts most)) (take_within 16383 m (drop (t * m) l) (drop_within 16383 (t * m) l within)))

-- the list of the edges of one state
pub edges_within : (s n : ℕ) (counts : List ℕ) (l xs : List ℤ) → length l ≤ 8 → length xs ≡ n → ((i : ℕ) → get_or counts i 0 ≤ 16383) → AllWithin 16383 l
    → ((v : ℕ) → v < n → number_at xs v ≡ stage_edge counts l s v) → AllWithin 147447 xs
edges_within s n counts l xs short lx most within is =
    list_within 147447 xs (λ i h.
    let k : i < n = omega arith in
    let cap : (length l + 1) * 16383 ≤ 147447 = omega arith in
    subst (Within 147447) (sym (is i k)) (wider ((length l + 1) * 16383) 147447 (stage_edge counts l s i) cap (edge-within counts l s i most within)))

pub edge_is : (counts : List ℕ) (l from0 from1 : List ℤ) (n : ℕ) → ((v : ℕ) → v < n → number_at from0 v ≡ stage_edge counts l 0 v) → ((v : ℕ) → v < n → number_at from1 v ≡ stage_edge counts l 1 v)
    → (s v : ℕ) → s < 2 → v < n → edge_of from0 from1 s v ≡ stage_edge counts l s v
edge_is counts l from0 from1 n zero_is one_is zero v h k = zero_is v k
edge_is counts l from0 from1 n zero_is one_is (suc zero) v h k = one_is v k
edge_is counts l from0 from1 n zero_is one_is (suc (suc s)) v h k = absurd (omega arith)

-- the row of a stage, over its counts and numbers in place of the lists of edges
pub stage_top : (counts : List ℕ) (l from0 from1 row : List ℤ) (n size b : ℕ) (z : ℤ) → n ≡ size
    → ((v : ℕ) → v < n → number_at from0 v ≡ stage_edge counts l 0 v) → ((v : ℕ) → v < n → number_at from1 v ≡ stage_edge counts l 1 v)
    → IsGreatest (λ (e : ℕ × ℕ). IsEdge n 2 e × (e.1 % 2 ≡ b)) (λ e. number_at row e.0 +ℤ edge_of from0 from1 e.0 e.1) z
    → IsGreatest (λ (e : ℕ × ℕ). IsEdge size 2 e × (e.1 % 2 ≡ b)) (λ e. number_at row e.0 +ℤ stage_edge counts l e.0 e.1) z
stage_top counts l from0 from1 row n size b z es zero_is one_is g =
    let same : (e : ℕ × ℕ) → IsEdge n 2 e → number_at row e.0 +ℤ edge_of from0 from1 e.0 e.1 ≡ number_at row e.0 +ℤ stage_edge counts l e.0 e.1 =
    λ e h. ap (λ (y : ℤ). number_at row e.0 +ℤ y) (edge_is counts l from0 from1 n zero_is one_is e.0 e.1 h.0 h.1) in
    subst (λ (k : ℕ). IsGreatest (λ (e : ℕ × ℕ). IsEdge k 2 e × (e.1 % 2 ≡ b)) (λ e. number_at row e.0 +ℤ stage_edge counts l e.0 e.1) z) es
    (IsGreatest-carry (λ e h. (e, (h, sym (same e h.0)))) (λ e h. (e, (h, same e h.0))) g)

-- ---- memory for the edges of a stage of few bits
pub eight_at_most : (m n : ℕ) → m ≤ 3 → n ≡ 2 ^ m → n ≤ 8
eight_at_most m n h e = let p : 2 ^ m ≤ 2 ^ 3 = pow_mono {i = m} {j = 3} h in omega arith

pub as_many : (m n : ℕ) (xs : List ℤ) → m ≤ 3 → n ≡ 2 ^ m → length xs ≡ 8 → length (take n xs) ≡ n
as_many m n xs h e l = let a : n ≤ 8 = eight_at_most m n h e in simp length-take (omega arith)
