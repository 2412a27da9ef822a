-- The outputs that a step keeps: their numbers are spread over the three outputs, and their soft values written back.
use Rattle.std.proofs.Common.{◌≡◌, ◌≢◌, ℕ, zero, suc, ◌+◌, ◌<◌, ◌≤◌, sym, ◌∙◌, ap, ap₂, subst, refl, arith, ℤ, pos, ◌+ℤ◌, List, [], ◌∷◌, length, drop, get_or, set, get_or-set_same, get_or-set_other, Bool, true, false, cond, add-zero, add-one}
use Rattle.std.specs.Prelude.{nat_eq}
use Rattle.std.proofs.lemmas.Int.{ints}
use Rattle.std.proofs.lemmas.List.{length-set}
use Rattle.hpe_base.specs.PathScores.{chosen_sum}
use Rattle.hpe_base.specs.Parameters.{flags_set}
use Rattle.hpe_base.proofs.KeptLength.{length-selected}
use Rattle.hpe_base.specs.Sizes.{number_at, Within}
use Rattle.hpe_base.specs.ConvolutionalCode.{selected}
use Rattle.hpe_base.proofs.Trellis.{stage-suc, chosen_sum-none}
use Rattle.hpe_lane.specs.OuterStage.{edge_outputs, edge_sum}
use Rattle.hpe_trellis.specs.OuterTrellis.{put_all}
use Rattle.hpe_lane.proofs.OuterFits.{kept_z, clean}
use Rattle.hpe_lane.proofs.Sizes.{zero_within, wider}

-- the numbers of the outputs, 0 for those that aren't kept
abbrev spread : List Bool → List ℤ → ℕ → List ℤ
spread [] l at = []
spread (f ∷ fs) l at = cond f (number_at l at) (pos 0) ∷ spread fs l (at + cond f 1 0)

drop_suc : (l : List ℤ) (at : ℕ) → at < length l → drop at l ≡ number_at l at ∷ drop (suc at) l
drop_suc [] at h = absurd (omega arith)
drop_suc (z ∷ l) zero h = refl
drop_suc (z ∷ l) (suc at) h = drop_suc l at (omega arith)

-- the number of a place, and those after it
drop_at : (l : List ℤ) (at : ℕ) → at < length l → drop at l ≡ number_at l at ∷ drop (at + 1) l
drop_at l at h = drop_suc l at h ∙ ap (λ (k : ℕ). number_at l at ∷ drop k l) (sym (add-one at))

zero_choice : (b : Bool) (z : ℤ) → cond b (pos 0) (pos 0) +ℤ z ≡ z
zero_choice true z = omega (arith, ints)
zero_choice false z = omega (arith, ints)

-- with zeros between them they sum to the same
pub spread-is : (fs : List Bool) (xs : List ℕ) (l : List ℤ) (at : ℕ) → length fs ≡ length xs → at + length (selected fs xs) ≤ length l → chosen_sum (spread fs l at) xs ≡ chosen_sum (drop at l) (selected fs xs)
spread-is [] [] l at e h = sym (chosen_sum-none (drop at l))
spread-is [] (x ∷ xs) l at e h = absurd (omega arith)
spread-is (f ∷ fs) [] l at e h = absurd (omega arith)
spread-is (true ∷ fs) (x ∷ xs) l at e h =
    ap (λ (z : ℤ). cond (nat_eq x 1) (number_at l at) (pos 0) +ℤ z) (spread-is fs xs l (at + 1) (omega arith) (omega arith))
    ∙ ap (λ (ys : List ℤ). chosen_sum ys (x ∷ selected fs xs)) (sym (drop_at l at (omega arith)))
spread-is (false ∷ fs) (x ∷ xs) l at e h =
    zero_choice (nat_eq x 1) (chosen_sum (spread fs l (at + 0)) xs)
    ∙ ap (λ (k : ℕ). chosen_sum (spread fs l k) xs) (add-zero at)
    ∙ spread-is fs xs l at (omega arith) h

-- three flags
three_list : (fs : List Bool) → length fs ≡ 3 → fs ≡ get_or fs 0 false ∷ get_or fs 1 false ∷ get_or fs 2 false ∷ []
three_list [] e = absurd (omega arith)
three_list (a ∷ []) e = absurd (omega arith)
three_list (a ∷ b ∷ []) e = absurd (omega arith)
three_list (a ∷ b ∷ c ∷ []) e = refl
three_list (a ∷ b ∷ c ∷ d ∷ fs) e = absurd (omega arith)

-- so an edge of the kernel scores what that of the step does
pub edge-is : (fs : List Bool) (l : List ℤ) (at : ℕ) (r : List ℤ) → length fs ≡ 3 → at + flags_set fs ≤ length l
    → number_at r 0 ≡ cond (get_or fs 0 false) (number_at l at) (pos 0)
    → number_at r 1 ≡ cond (get_or fs 1 false) (number_at l (at + cond (get_or fs 0 false) 1 0)) (pos 0)
    → number_at r 2 ≡ cond (get_or fs 2 false) (number_at l (at + cond (get_or fs 0 false) 1 0 + cond (get_or fs 1 false) 1 0)) (pos 0)
    → (p x : ℕ) → edge_sum r p x ≡ chosen_sum (drop at l) (selected fs (edge_outputs p x))
edge-is fs l at r e h r0 r1 r2 p x =
    let fs2 : List Bool = get_or fs 0 false ∷ get_or fs 1 false ∷ get_or fs 2 false ∷ [] in
    let whole : fs ≡ fs2 = three_list fs e in
    let room : at + length (selected fs2 (edge_outputs p x)) ≤ length l = subst (λ (k : ℕ). at + k ≤ length l) (ap flags_set whole ∙ sym (length-selected fs2 (edge_outputs p x) refl)) h in
    ap (λ (ys : List ℤ). chosen_sum ys (edge_outputs p x)) (ap (λ (z : ℤ). z ∷ number_at r 1 ∷ number_at r 2 ∷ []) r0 ∙ ap₂ (λ (y z : ℤ). cond (get_or fs 0 false) (number_at l at) (pos 0) ∷ y ∷ z ∷ []) r1 r2)
    ∙ spread-is fs2 (edge_outputs p x) l at refl room
    ∙ ap (λ (gs : List Bool). chosen_sum (drop at l) (selected gs (edge_outputs p x))) (sym whole)

-- which output the kept bit i of a column is
abbrev pub flag_index : List Bool → ℕ → ℕ
flag_index [] i = 0
flag_index (true ∷ fs) zero = 0
flag_index (true ∷ fs) (suc i) = suc (flag_index fs i)
flag_index (false ∷ fs) i = suc (flag_index fs i)

-- it is that output
pub selected-index : (fs : List Bool) (ys : List ℕ) (i : ℕ) → i < length (selected fs ys) → (flag_index fs i < length ys) × (get_or (selected fs ys) i 0 ≡ get_or ys (flag_index fs i) 0)
selected-index [] ys i h = absurd (omega arith)
selected-index (f ∷ fs) [] i h = absurd (omega arith)
selected-index (true ∷ fs) (y ∷ ys) zero h = (omega arith, refl)
selected-index (true ∷ fs) (y ∷ ys) (suc i) h = let r = selected-index fs ys i (omega arith) in (omega (arith, r.0), r.1)
selected-index (false ∷ fs) (y ∷ ys) i h = let r = selected-index fs ys i h in (omega (arith, r.0), r.1)

-- places below those that are written stay
pub put-below : (fs : List Bool) (ss code : List ℤ) (at j : ℕ) → j < at → number_at (put_all fs ss code at) j ≡ number_at code j
put-below [] ss code at j h = refl
put-below (f ∷ fs) [] code at j h = refl
put-below (true ∷ fs) (s ∷ ss) code at j h = let ne : j ≢ at = omega arith in put-below fs ss (set code at s) (at + 1) j (omega arith) ∙ get_or-set_other code at j s (pos 0) ne
put-below (false ∷ fs) (s ∷ ss) code at j h = put-below fs ss code (at + 0) j (omega arith)

-- each value stands at its place
pub put-at : (fs : List Bool) (ss : List ℤ) (ys : List ℕ) (code : List ℤ) (at i : ℕ) → length ss ≡ length ys → i < length (selected fs ys) → at + length (selected fs ys) ≤ length code
    → number_at (put_all fs ss code at) (at + i) ≡ number_at ss (flag_index fs i)
put-at [] ss ys code at i e h r = absurd (omega arith)
put-at (f ∷ fs) [] [] code at i e h r = absurd (omega arith)
put-at (f ∷ fs) (s ∷ ss) [] code at i e h r = absurd (omega arith)
put-at (f ∷ fs) [] (y ∷ ys) code at i e h r = absurd (omega arith)
put-at (true ∷ fs) (s ∷ ss) (y ∷ ys) code at zero e h r =
    put-below fs ss (set code at s) (at + 1) (at + 0) (omega arith) ∙ ap (number_at (set code at s)) (add-zero at) ∙ get_or-set_same code at s (pos 0) (omega arith)
put-at (true ∷ fs) (s ∷ ss) (y ∷ ys) code at (suc i) e h r =
    ap (number_at (put_all fs ss (set code at s) (at + 1))) (stage-suc at i)
    ∙ put-at fs ss ys (set code at s) (at + 1) i (omega arith) (omega arith) (omega (arith, length-set {A = ℤ}))
put-at (false ∷ fs) (s ∷ ss) (y ∷ ys) code at i e h r =
    ap (λ (k : ℕ). number_at (put_all fs ss code k) (at + i)) (add-zero at) ∙ put-at fs ss ys code at i (omega arith) h r

-- places above them stay
pub put-above : (fs : List Bool) (ss : List ℤ) (ys : List ℕ) (code : List ℤ) (at j : ℕ) → length ss ≡ length ys → at + length (selected fs ys) ≤ j → number_at (put_all fs ss code at) j ≡ number_at code j
put-above [] ss ys code at j e h = refl
put-above (f ∷ fs) [] ys code at j e h = refl
put-above (f ∷ fs) (s ∷ ss) [] code at j e h = absurd (omega arith)
put-above (true ∷ fs) (s ∷ ss) (y ∷ ys) code at j e h =
    let ne : j ≢ at = omega arith in put-above fs ss ys (set code at s) (at + 1) j (omega arith) (omega arith) ∙ get_or-set_other code at j s (pos 0) ne
put-above (false ∷ fs) (s ∷ ss) (y ∷ ys) code at j e h = put-above fs ss ys code (at + 0) j (omega arith) (omega arith)

-- a number that is taken is kept
pub taken_is : (f : Bool) (z r : ℤ) → Within 16383 z → r ≡ cond f z (pos 0) → kept_z r ≡ cond f z (pos 0)
taken_is true z r h e = ap kept_z e ∙ clean z (wider 16383 1300000000 z (omega arith) h)
taken_is false z r h e = ap kept_z e ∙ clean (pos 0) (zero_within 1300000000)

put_once : Bool → List ℤ → ℕ → ℤ → List ℤ
put_once f code at v = cond f (set code at v) code

-- three writes, one for each output
pub put-is : (fs : List Bool) (code c1 c2 c3 : List ℤ) (at k1 k2 : ℕ) (s1 s2 s3 v1 v2 v3 : ℤ) → length fs ≡ 3 → v1 ≡ s1 → v2 ≡ s2 → v3 ≡ s3
    → k1 ≡ at + cond (get_or fs 0 false) 1 0 → k2 ≡ k1 + cond (get_or fs 1 false) 1 0
    → c1 ≡ cond (get_or fs 0 false) (set code at v1) code → c2 ≡ cond (get_or fs 1 false) (set c1 k1 v2) c1 → c3 ≡ cond (get_or fs 2 false) (set c2 k2 v3) c2
    → c3 ≡ put_all fs (s1 ∷ s2 ∷ s3 ∷ []) code at
unfolding put_once
put-is fs code c1 c2 c3 at k1 k2 s1 s2 s3 v1 v2 v3 e a1 a2 a3 b1 b2 d1 d2 d3 =
    let f0 : Bool = get_or fs 0 false in
    let f1 : Bool = get_or fs 1 false in
    let f2 : Bool = get_or fs 2 false in
    let one : c1 ≡ put_once f0 code at s1 = d1 ∙ ap (put_once f0 code at) a1 in
    let two : c2 ≡ put_once f1 (put_once f0 code at s1) (at + cond f0 1 0) s2 = d2 ∙ ap (λ (v : ℤ). put_once f1 c1 k1 v) a2 ∙ ap₂ (λ (xs : List ℤ) (k : ℕ). put_once f1 xs k s2) one b1 in
    let three : c3 ≡ put_once f2 (put_once f1 (put_once f0 code at s1) (at + cond f0 1 0) s2) (at + cond f0 1 0 + cond f1 1 0) s3 =
    d3 ∙ ap (λ (v : ℤ). put_once f2 c2 k2 v) a3 ∙ ap₂ (λ (xs : List ℤ) (k : ℕ). put_once f2 xs k s3) two (b2 ∙ ap (λ (k : ℕ). k + cond f1 1 0) b1) in
    three ∙ ap (λ (gs : List Bool). put_all gs (s1 ∷ s2 ∷ s3 ∷ []) code at) (sym (three_list fs e))
