-- Sums of the outer kernels fit, and mean what they say.
use Rattle.std.proofs.Common.{◌≡◌, ℕ, zero, suc, ◌+◌, ◌<◌, sym, ◌∙◌, ap, ap₂, subst, refl, arith, rules, ℤ, pos, ◌+ℤ◌, ◌-ℤ◌, ◌≤ℤ◌, List, [], ◌∷◌, w32, to_z, of_z, FitsSigned}
use Rattle.std.specs.Int.{int_max}
use Rattle.std.proofs.lemmas.Int.{ints, clamps}
use Rattle.hpe_base.specs.Sizes.{number_at, Within, AllWithin}
use Rattle.hpe_base.specs.Greatest.{IsSoft}
use Rattle.hpe_base.specs.Trellis.{IsEdge}
use Rattle.hpe_lane.specs.OuterStage.{outer_next, edge_sum, soft_bit}
use Rattle.hpe_lane.proofs.OuterEdges.{outer-stays}
use Rattle.hpe_lane.proofs.Sizes.{wider}
use Rattle.hpe_lane.specs.OuterSums.{best_sum, chosen_after}
use Rattle.hpe_lane.proofs.OuterEdges.{best_shifted, best_same, class_soft, pick, at_four, after_within, edge_sum_within}

-- a number as the machine keeps it
abbrev pub kept_z : ℤ → ℤ
kept_z z = to_z w32 (of_z w32 z)

-- numbers of this size fit
pub fits : (z : ℤ) → Within 1300000000 z → FitsSigned w32 z
fits z h = search (rules, ints)

-- and are kept as they are
pub clean : (z : ℤ) → Within 1300000000 z → kept_z z ≡ z
clean z h = omega (arith, ints)

-- each of four numbers is at most so large
abbrev pub AreWithin : ℕ → List ℤ → Type 0
AreWithin most row = (q : ℕ) → q < 4 → Within most (number_at row q)

first_of : (a : ℤ) → Within 16383 a → kept_z a ≡ a +ℤ (pos 0 +ℤ (pos 0 +ℤ pos 0))
first_of a ha = omega (arith, ints)

second_of : (b c : ℤ) → Within 16383 b → Within 16383 c → kept_z (kept_z b +ℤ kept_z c) ≡ pos 0 +ℤ (b +ℤ (c +ℤ pos 0))
second_of b c hb hc = omega (arith, ints)

all_of : (a b c : ℤ) → Within 16383 a → Within 16383 b → Within 16383 c → kept_z (kept_z a +ℤ kept_z (kept_z b +ℤ kept_z c)) ≡ a +ℤ (b +ℤ (c +ℤ pos 0))
all_of a b c ha hb hc = omega (arith, ints)

-- the four scores that edges have
pub none_is : (l : List ℤ) → pos 0 ≡ edge_sum l 0 0
none_is l = refl

pub first_is : (l : List ℤ) → AllWithin 16383 l → kept_z (number_at l 0) ≡ edge_sum l 3 0
first_is l h = first_of (number_at l 0) (h 0)

pub second_is : (l : List ℤ) → AllWithin 16383 l → kept_z (kept_z (number_at l 1) +ℤ kept_z (number_at l 2)) ≡ edge_sum l 2 0
second_is l h = second_of (number_at l 1) (number_at l 2) (h 1) (h 2)

pub all_is : (l : List ℤ) → AllWithin 16383 l → kept_z (kept_z (number_at l 0) +ℤ kept_z (kept_z (number_at l 1) +ℤ kept_z (number_at l 2))) ≡ edge_sum l 1 0
all_is l h = all_of (number_at l 0) (number_at l 1) (number_at l 2) (h 0) (h 1) (h 2)

-- and how large they are
pub edge_within : (l : List ℤ) (p x : ℕ) (k : ℤ) → AllWithin 16383 l → k ≡ edge_sum l p x → Within 600049149 k
edge_within l p x k h e = subst (Within 600049149) (sym e) (wider 49149 600049149 (edge_sum l p x) (omega arith) (edge_sum_within l p x h))

clean_row : (x : ℤ) → Within 600000000 x → kept_z x ≡ x
clean_row x h = omega (arith, ints)

clean_after : (x : ℤ) → Within 600049149 x → kept_z x ≡ x
clean_after x h = omega (arith, ints)

-- a row's numbers are kept as they are
pub place_is : (row : List ℤ) → AreWithin 600000000 row → (q : ℕ) → q < 4 → kept_z (number_at row q) ≡ number_at row q
place_is row h q lt = clean_row (number_at row q) (h q lt)

pub place_within : (row : List ℤ) → AreWithin 600000000 row → (q : ℕ) → q < 4 → Within 600000000 (kept_z (number_at row q))
place_within row h q lt = subst (Within 600000000) (sym (place_is row h q lt)) (h q lt)

-- and so are sums of an edge and what is behind it
pub after_is : (after : List ℤ) → AreWithin 600049149 after → (q : ℕ) → q < 4 → kept_z (number_at after q) ≡ number_at after q
after_is after h q lt = clean_after (number_at after q) (h q lt)

sum_within : (e x : ℤ) → Within 49149 e → Within 600000000 x → Within 1300000000 (e +ℤ x)
sum_within e x he hx = (omega (arith, ints), omega (arith, ints))

sum_of : (e k x y : ℤ) → k ≡ e → y ≡ x → k +ℤ y ≡ e +ℤ x
sum_of e k x y s t = ap₂ (λ (u v : ℤ). u +ℤ v) s t

-- the sum of an edge and the number behind it fits
pub onward_fits : (l back : List ℤ) (p x q : ℕ) (k : ℤ) → AllWithin 16383 l → AreWithin 600000000 back → q < 4 → k ≡ edge_sum l p x → FitsSigned w32 (k +ℤ kept_z (number_at back q))
onward_fits l back p x q k hl hb lt e =
    subst (FitsSigned w32) (sym (sum_of (edge_sum l p x) k (number_at back q) (kept_z (number_at back q)) e (place_is back hb q lt)))
    (fits (edge_sum l p x +ℤ number_at back q) (sum_within (edge_sum l p x) (number_at back q) (edge_sum_within l p x hl) (hb q lt)))

-- and is kept
pub onward_is : (l back : List ℤ) (p x q : ℕ) (k : ℤ) → AllWithin 16383 l → AreWithin 600000000 back → q < 4 → k ≡ edge_sum l p x
    → kept_z (k +ℤ kept_z (number_at back q)) ≡ edge_sum l p x +ℤ number_at back q
onward_is l back p x q k hl hb lt e =
    ap kept_z (sum_of (edge_sum l p x) k (number_at back q) (kept_z (number_at back q)) e (place_is back hb q lt))
    ∙ clean (edge_sum l p x +ℤ number_at back q) (sum_within (edge_sum l p x) (number_at back q) (edge_sum_within l p x hl) (hb q lt))

alone_of : (x : ℤ) → Within 600000000 x → kept_z x ≡ (pos 0 +ℤ (pos 0 +ℤ (pos 0 +ℤ pos 0))) +ℤ x
alone_of x h = omega (arith, ints)

-- the number behind an edge that scores 0
pub alone_is : (l back : List ℤ) (q : ℕ) → AreWithin 600000000 back → q < 4 → kept_z (number_at back q) ≡ edge_sum l 0 0 +ℤ number_at back q
alone_is l back q hb lt = alone_of (number_at back q) (hb q lt)

-- the greater of two sums
pub greater_is : (a x b y r : ℤ) → Within 600000000 a → Within 600049149 x → Within 600000000 b → Within 600049149 y
    → r ≡ int_max (kept_z (kept_z a +ℤ kept_z x)) (kept_z (kept_z b +ℤ kept_z y)) → kept_z r ≡ int_max (a +ℤ x) (b +ℤ y)
greater_is a x b y r ha hx hb hy e =
    let p : kept_z (kept_z a +ℤ kept_z x) ≡ a +ℤ x = omega (arith, ints) in
    let q : kept_z (kept_z b +ℤ kept_z y) ≡ b +ℤ y = omega (arith, ints) in
    let w : Within 1300000000 (int_max (a +ℤ x) (b +ℤ y)) = (omega (arith, ints, clamps), omega (arith, ints, clamps)) in
    ap kept_z (e ∙ ap₂ int_max p q) ∙ clean (int_max (a +ℤ x) (b +ℤ y)) w

-- the greater of two sums fits
sums_within : (a x b y : ℤ) → Within 600000000 a → Within 600049149 x → Within 600000000 b → Within 600049149 y → Within 1300000000 (int_max (a +ℤ x) (b +ℤ y))
sums_within a x b y ha hx hb hy = (omega (arith, ints, clamps), omega (arith, ints, clamps))

-- the greater of the two edges that leave neighbouring states
pub forward_is : (row l : List ℤ) (p x : ℕ) (e f r : ℤ) → AreWithin 600000000 row → AllWithin 16383 l → p + 1 < 4 → e ≡ edge_sum l p x → f ≡ edge_sum l (p + 1) x
    → r ≡ int_max (kept_z (number_at row p) +ℤ e) (kept_z (number_at row (p + 1)) +ℤ f)
    → kept_z r ≡ int_max (number_at row p +ℤ edge_sum l p x) (number_at row (p + 1) +ℤ edge_sum l (p + 1) x)
forward_is row l p x e f r hr hl lt ee ef h =
    let a : ℤ = number_at row p in
    let b : ℤ = number_at row (p + 1) in
    let low : p < 4 = omega arith in
    let s : r ≡ int_max (a +ℤ edge_sum l p x) (b +ℤ edge_sum l (p + 1) x) =
    h ∙ ap₂ int_max (sum_of a (kept_z a) (edge_sum l p x) e (place_is row hr p low) ee) (sum_of b (kept_z b) (edge_sum l (p + 1) x) f (place_is row hr (p + 1) lt) ef) in
    ap kept_z s
    ∙ clean (int_max (a +ℤ edge_sum l p x) (b +ℤ edge_sum l (p + 1) x))
    (sums_within a (edge_sum l p x) b (edge_sum l (p + 1) x) (hr p low) (edge_within l p x (edge_sum l p x) hl refl) (hr (p + 1) lt) (edge_within l (p + 1) x (edge_sum l (p + 1) x) hl refl))

-- the greater of two numbers is within their size
max_within : (x y : ℤ) → Within 1300000000 x → Within 1300000000 y → Within 1300000000 (int_max x y)
max_within x y h k = (omega (arith, ints, clamps), omega (arith, ints, clamps))

-- the greatest of four sums fits
pub best_within : (f g : ℕ → ℤ) → ((p : ℕ) → p < 4 → Within 600000000 (f p)) → ((p : ℕ) → p < 4 → Within 600049149 (g p)) → Within 1300000000 (best_sum f g)
best_within f g hf hg =
    max_within (int_max (f 0 +ℤ g 0) (f 1 +ℤ g 1)) (int_max (f 2 +ℤ g 2) (f 3 +ℤ g 3))
    (sums_within (f 0) (g 0) (f 1) (g 1) (hf 0 (omega arith)) (hg 0 (omega arith)) (hf 1 (omega arith)) (hg 1 (omega arith)))
    (sums_within (f 2) (g 2) (f 3) (g 3) (hf 2 (omega arith)) (hg 2 (omega arith)) (hf 3 (omega arith)) (hg 3 (omega arith)))

-- the greater of the first two, or of the last two
pair_is : (a x b y a2 x2 b2 y2 r : ℤ) → Within 600000000 a → Within 600049149 x → Within 600000000 b → Within 600049149 y → r ≡ int_max (kept_z a +ℤ kept_z x) (kept_z b +ℤ kept_z y) → kept_z r ≡ int_max (a +ℤ x) (b +ℤ y)
pair_is a x b y a2 x2 b2 y2 r ha hx hb hy h =
    let s : r ≡ int_max (a +ℤ x) (b +ℤ y) = h ∙ ap₂ int_max (ap₂ (λ (u v : ℤ). u +ℤ v) (clean_row a ha) (clean_after x hx)) (ap₂ (λ (u v : ℤ). u +ℤ v) (clean_row b hb) (clean_after y hy)) in
    ap kept_z s ∙ clean (int_max (a +ℤ x) (b +ℤ y)) (sums_within a x b y ha hx hb hy)

-- the greatest of four sums, of two pairs
pub best_is : (f g : List ℤ) (low high r : ℤ) → AreWithin 600000000 f → AreWithin 600049149 g
    → low ≡ int_max (kept_z (number_at f 0) +ℤ kept_z (number_at g 0)) (kept_z (number_at f 1) +ℤ kept_z (number_at g 1))
    → high ≡ int_max (kept_z (number_at f 2) +ℤ kept_z (number_at g 2)) (kept_z (number_at f 3) +ℤ kept_z (number_at g 3))
    → r ≡ int_max (kept_z low) (kept_z high) → kept_z r ≡ best_sum (number_at f) (number_at g)
best_is f g low high r hf hg el eh e =
    let a = pair_is (number_at f 0) (number_at g 0) (number_at f 1) (number_at g 1) (pos 0) (pos 0) (pos 0) (pos 0) low (hf 0 (omega arith)) (hg 0 (omega arith)) (hf 1 (omega arith)) (hg 1 (omega arith)) el in
    let b = pair_is (number_at f 2) (number_at g 2) (number_at f 3) (number_at g 3) (pos 0) (pos 0) (pos 0) (pos 0) high (hf 2 (omega arith)) (hg 2 (omega arith)) (hf 3 (omega arith)) (hg 3 (omega arith)) eh in
    ap kept_z (e ∙ ap₂ int_max a b) ∙ clean (best_sum (number_at f) (number_at g)) (best_within (number_at f) (number_at g) hf hg)

-- numbers that are close have a small difference
gap_within : (x y : ℤ) → x ≤ℤ (y +ℤ pos 1200098298) → y ≤ℤ (x +ℤ pos 1200098298) → Within 1300000000 (x -ℤ y)
gap_within x y h k = (omega (arith, ints), omega (arith, ints))

-- so have two greatest sums
pub best_gap : (f g h : ℕ → ℤ) → ((p : ℕ) → p < 4 → Within 600049149 (g p)) → ((p : ℕ) → p < 4 → Within 600049149 (h p)) → Within 1300000000 (best_sum f g -ℤ best_sum f h)
best_gap f g h hg hh = gap_within (best_sum f g) (best_sum f h) (best_shifted f g h hg hh) (best_shifted f h g hh hg)

module _ (f g h : ℕ → ℤ) (hf : (p : ℕ) → p < 4 → Within 600000000 (f p)) (hg : (p : ℕ) → p < 4 → Within 600049149 (g p)) (hh : (p : ℕ) → p < 4 → Within 600049149 (h p))
    (r s : ℤ) (er : r ≡ best_sum f g) (es : s ≡ best_sum f h) where
  gap : Within 1300000000 (best_sum f g -ℤ best_sum f h)
  gap = gap_within (best_sum f g) (best_sum f h) (best_shifted f g h hg hh) (best_shifted f h g hh hg)

  both : kept_z r -ℤ kept_z s ≡ best_sum f g -ℤ best_sum f h
  both = ap₂ (λ (x y : ℤ). x -ℤ y) (ap kept_z er ∙ clean (best_sum f g) (best_within f g hf hg)) (ap kept_z es ∙ clean (best_sum f h) (best_within f h hf hh))

  -- the difference of two greatest sums fits
  pub gap_fits : FitsSigned w32 (kept_z r -ℤ kept_z s)
  gap_fits = subst (FitsSigned w32) (sym both) (fits (best_sum f g -ℤ best_sum f h) gap)

  -- and is kept
  pub gap_is : kept_z (kept_z r -ℤ kept_z s) ≡ best_sum f g -ℤ best_sum f h
  gap_is = ap kept_z both ∙ clean (best_sum f g -ℤ best_sum f h) gap

-- the greater of two numbers is kept
pub greater_clean : (x y r : ℤ) → Within 600049149 x → Within 600049149 y → r ≡ int_max (kept_z x) (kept_z y) → kept_z r ≡ int_max x y
greater_clean x y r hx hy e =
    let w : Within 1300000000 (int_max x y) = max_within x y (wider 600049149 1300000000 x (omega arith) hx) (wider 600049149 1300000000 y (omega arith) hy) in
    ap kept_z (e ∙ ap₂ int_max (clean_after x hx) (clean_after y hy)) ∙ clean (int_max x y) w

-- with either input a state scores within this size
chosen_within : (zero_after one_after : List ℤ) (x p : ℕ) → Within 600049149 (number_at zero_after p) → Within 600049149 (number_at one_after p) → Within 600049149 (chosen_after zero_after one_after p x)
chosen_within a b zero p h k = h
chosen_within a b (suc x) p h k = k

-- it is the difference of two greatest sums of the lists that have the bit 1 and 0
pub soft_value : (fore a b g0 g1 : List ℤ) (k : ℕ) (d : ℤ) → k < 4
    → AreWithin 600000000 fore → AreWithin 600049149 a → AreWithin 600049149 b
    → ((p : ℕ) → p < 4 → number_at g1 p ≡ chosen_after a b p (pick k 1 p)) → ((p : ℕ) → p < 4 → number_at g0 p ≡ chosen_after a b p (pick k 0 p))
    → d ≡ best_sum (number_at fore) (number_at g1) -ℤ best_sum (number_at fore) (number_at g0)
    → IsSoft (IsEdge 2 4) (λ (e : ℕ × ℕ). soft_bit k e.0 e.1) (λ e. number_at fore e.0 +ℤ chosen_after a b e.0 e.1) (kept_z d)
soft_value fore a b g0 g1 k d h hf ha hb e1 e0 ed =
    let f : ℕ → ℤ = number_at fore in
    let up : ℕ → ℤ = λ p. chosen_after a b p (pick k 1 p) in
    let down : ℕ → ℤ = λ p. chosen_after a b p (pick k 0 p) in
    let wu : (p : ℕ) → p < 4 → Within 600049149 (up p) = λ p l. chosen_within a b (pick k 1 p) p (ha p l) (hb p l) in
    let wd : (p : ℕ) → p < 4 → Within 600049149 (down p) = λ p l. chosen_within a b (pick k 0 p) p (ha p l) (hb p l) in
    let s : d ≡ best_sum f up -ℤ best_sum f down = ed ∙ ap₂ (λ (x y : ℤ). x -ℤ y) (best_same f (number_at g1) up e1) (best_same f (number_at g0) down e0) in
    let w : Within 1300000000 (best_sum f up -ℤ best_sum f down) = gap f up down hf wu wd (best_sum f up) (best_sum f down) refl refl in
    class_soft f (chosen_after a b) k (kept_z d) h (ap kept_z s ∙ clean (best_sum f up -ℤ best_sum f down) w)

-- and fits as it is
pub soft_place : (fore a b g0 g1 : List ℤ) (k : ℕ) (d : ℤ) → k < 4
    → AreWithin 600000000 fore → AreWithin 600049149 a → AreWithin 600049149 b
    → ((p : ℕ) → p < 4 → number_at g1 p ≡ chosen_after a b p (pick k 1 p)) → ((p : ℕ) → p < 4 → number_at g0 p ≡ chosen_after a b p (pick k 0 p))
    → d ≡ best_sum (number_at fore) (number_at g1) -ℤ best_sum (number_at fore) (number_at g0)
    → IsSoft (IsEdge 2 4) (λ (e : ℕ × ℕ). soft_bit k e.0 e.1) (λ e. number_at fore e.0 +ℤ chosen_after a b e.0 e.1) d
soft_place fore a b g0 g1 k d h hf ha hb e1 e0 ed =
    let w1 : (p : ℕ) → p < 4 → Within 600049149 (number_at g1 p) = λ p l. subst (Within 600049149) (sym (e1 p l)) (chosen_within a b (pick k 1 p) p (ha p l) (hb p l)) in
    let w0 : (p : ℕ) → p < 4 → Within 600049149 (number_at g0 p) = λ p l. subst (Within 600049149) (sym (e0 p l)) (chosen_within a b (pick k 0 p) p (ha p l) (hb p l)) in
    let w : Within 1300000000 d = subst (Within 1300000000) (sym ed) (best_gap (number_at fore) (number_at g1) (number_at g0) w1 w0) in
    subst (IsSoft (IsEdge 2 4) (λ (e : ℕ × ℕ). soft_bit k e.0 e.1) (λ e. number_at fore e.0 +ℤ chosen_after a b e.0 e.1)) (clean d w) (soft_value fore a b g0 g1 k d h hf ha hb e1 e0 ed)

-- a list that takes each place from another
abbrev pub mixed : List ℤ → List ℤ → List ℤ → List ℤ → List ℤ
mixed a b c d = kept_z (number_at a 0) ∷ kept_z (number_at b 1) ∷ kept_z (number_at c 2) ∷ kept_z (number_at d 3) ∷ []

pub mixed_within : (a b c d : List ℤ) → AreWithin 600049149 a → AreWithin 600049149 b → AreWithin 600049149 c → AreWithin 600049149 d → AreWithin 600049149 (mixed a b c d)
mixed_within a b c d ha hb hc hd = at_four (λ p. Within 600049149 (number_at (mixed a b c d) p))
    (subst (Within 600049149) (sym (after_is a ha 0 (omega arith))) (ha 0 (omega arith))) (subst (Within 600049149) (sym (after_is b hb 1 (omega arith))) (hb 1 (omega arith)))
    (subst (Within 600049149) (sym (after_is c hc 2 (omega arith))) (hc 2 (omega arith))) (subst (Within 600049149) (sym (after_is d hd 3 (omega arith))) (hd 3 (omega arith)))

-- it has the inputs with which soft bit k is v, where each place was taken so
pub mixed_picks : (with_zero with_one : List ℤ) (k v : ℕ) (a b c d : List ℤ) → AreWithin 600049149 a → AreWithin 600049149 b → AreWithin 600049149 c → AreWithin 600049149 d
    → number_at a 0 ≡ chosen_after with_zero with_one 0 (pick k v 0) → number_at b 1 ≡ chosen_after with_zero with_one 1 (pick k v 1)
    → number_at c 2 ≡ chosen_after with_zero with_one 2 (pick k v 2) → number_at d 3 ≡ chosen_after with_zero with_one 3 (pick k v 3)
    → (p : ℕ) → p < 4 → number_at (mixed a b c d) p ≡ chosen_after with_zero with_one p (pick k v p)
mixed_picks with_zero with_one k v a b c d ha hb hc hd ea eb ec ed =
    at_four (λ p. number_at (mixed a b c d) p ≡ chosen_after with_zero with_one p (pick k v p))
    (after_is a ha 0 (omega arith) ∙ ea) (after_is b hb 1 (omega arith) ∙ eb) (after_is c hc 2 (omega arith) ∙ ec) (after_is d hd 3 (omega arith) ∙ ed)

-- what the two lists say of an edge
pub after_edge : (l back a b : List ℤ) → ((p : ℕ) → p < 4 → number_at a p ≡ edge_sum l p 0 +ℤ number_at back (outer_next p 0)) → ((p : ℕ) → p < 4 → number_at b p ≡ edge_sum l p 1 +ℤ number_at back (outer_next p 1))
    → (p x : ℕ) → p < 4 → x < 2 → chosen_after a b p x ≡ edge_sum l p x +ℤ number_at back (outer_next p x)
after_edge l back a b f g p zero h k = f p h
after_edge l back a b f g p (suc zero) h k = g p h
after_edge l back a b f g p (suc (suc x)) h k = absurd (omega arith)

-- how large the numbers of such a list are
pub afters_within : (l back a : List ℤ) (x : ℕ) → x < 2 → AllWithin 16383 l → AreWithin 600000000 back → ((p : ℕ) → p < 4 → number_at a p ≡ edge_sum l p x +ℤ number_at back (outer_next p x))
    → (p : ℕ) → p < 4 → Within 600049149 (number_at a p)
afters_within l back a x hx hl hb f p h =
    subst (Within 600049149) (sym (f p h)) (after_within (edge_sum l p x) (number_at back (outer_next p x)) (edge_sum_within l p x hl) (hb (outer_next p x) (outer-stays p x h hx)))
