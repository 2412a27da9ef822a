-- The backward sweep, and the soft values where the rows meet.
use Rattle.std.proofs.Common.{◌≡◌, ℕ, zero, suc, ◌+◌, ◌-◌, ◌*◌, ◌/◌, ◌%◌, ◌^◌, ◌<◌, ◌≤◌, sym, ◌∙◌, ap, ap₂, subst, refl, arith, ℤ, pos, ◌+ℤ◌, List, [], ◌∷◌, length, take, drop, get_or, Some}
use Rattle.std.specs.Prelude.{IsSome}
use Rattle.std.proofs.lemmas.Int.{ints}
use Rattle.std.proofs.lemmas.List.{length-take}
use Rattle.std.proofs.Math.Nat.{mul-le-mul_right, div-lt_iff_lt-mul}
use Rattle.hpe_base.specs.Parameters.{symbol_bits}
use Rattle.hpe_base.specs.Sizes.{number_at, Within}
use Rattle.hpe_base.specs.Greatest.{IsGreatest, IsSoft}
use Rattle.hpe_base.specs.Trellis.{IsEdge, walk, state_at}
use Rattle.hpe_base.specs.GreatestScores.{inner_top}
use Rattle.hpe_base.specs.SoftValues.{inner_soft_value, difference}
use Rattle.hpe_base.specs.declared.profile.Order.{Order}
use Rattle.hpe_base.proofs.Trellis.{Back, IsRun, back_step, back_last, meet}
use Rattle.hpe_base.proofs.ParameterLemmas.{positions-high}
use Rattle.hpe_lane.specs.Edges.{input_bit, edge_of}
use Rattle.hpe_lane.proofs.Soft.{IsGreatest-score, IsSoft-score}
use Rattle.hpe_inner.specs.Sweeps.{inner_edge, inner_next, inner_start, IsForwardRow, BackRow, IsSoftAt, AreSoft}
use Rattle.hpe_lane.specs.Parts.{stage_edge}
use Rattle.hpe_inner.proofs.BestWord.{walk-within, inner-top}
use Rattle.hpe_inner.proofs.ForwardRow.{cut_is, cut_long, edge_is}

stays : (m p u : ℕ) → p < 2 → u < 2 ^ m → inner_next p u < 2
stays m p u h k = omega arith

both_zero : (q : ℕ) → q < 2 → pos 0 ≡ number_at (pos 0 ∷ pos 0 ∷ []) q
both_zero zero h = refl
both_zero (suc zero) h = refl
both_zero (suc (suc q)) h = absurd (omega arith)

-- ---- rows
pub BackRow-last : (m t : ℕ) (counts : List ℕ) (l : List ℤ) → BackRow m t 0 counts l (pos 0 ∷ pos 0 ∷ [])
BackRow-last m t counts l = record { top = λ q h. subst (Back (2 ^ m) (inner_edge m counts l) inner_next (λ s. pos 0) t 0 q) (both_zero q h) (back_last (2 ^ m) (inner_edge m counts l) inner_next (λ s. pos 0) t q) }

pub BackRow-more : (m t left : ℕ) (counts : List ℕ) (l row next : List ℤ) → BackRow m (t + 1) left counts l row
    → ((s : ℕ) → s < 2 → IsGreatest (λ (v : ℕ). v < 2 ^ m) (λ v. inner_edge m counts l t s v +ℤ number_at row (v % 2)) (number_at next s))
    → BackRow m t (suc left) counts l next
BackRow-more m t left counts l row next later best = record {
  top = λ q h. back_step (2 ^ m) 2 (inner_edge m counts l) inner_next (λ s. pos 0) (stays m) t left q (number_at next q) (number_at row) h later.top (best q h);
}

plain_sum : (n : ℕ) (w : ℤ) → Within n w → Within n (w +ℤ pos 0)
plain_sum n w h = (let a = h.0 in omega (arith, ints), let a = h.1 in omega (arith, ints))

wide : (n : ℕ) (z : ℤ) → n ≤ 600000000 → Within n z → Within 600000000 z
wide n z h w = (let a = w.0 in omega (arith, ints), let a = w.1 in omega (arith, ints))

pub back_fits : (m t left end most : ℕ) (counts : List ℕ) (l row : List ℤ) → t + left ≡ end → ((s p v : ℕ) → s < end → Within most (inner_edge m counts l s p v)) → left * most ≤ 600000000
    → BackRow m t left counts l row → (s : ℕ) → s < 2 → Within 600000000 (number_at row s)
back_fits m t left end most counts l row e edges cap b s h =
    let g = b.top s h in
    let us : List ℕ = g.reached.0 in
    let w = walk-within (inner_edge m counts l) inner_next (2 ^ m) most end left t s us edges e g.reached.1.0 in
    wide (left * most) (number_at row s) cap (subst (Within (left * most)) g.reached.1.1 (plain_sum (left * most) (walk (inner_edge m counts l) inner_next t s us) w))

-- ---- where the rows meet
module _ (o : Order) (n t i : ℕ) (counts : List ℕ) (l : List ℤ) (long : length l ≡ n * symbol_bits o) (lt : t < n) (li : i < symbol_bits o)
    (most : ℕ) (edges : (s p v : ℕ) → s < n → Within most (inner_edge (symbol_bits o) counts l s p v)) (short : n * most ≤ 371566440)
    (left : ℕ) (all : t + suc left ≡ n) (fore back : List ℤ)
    (so_far : IsForwardRow (symbol_bits o) t counts l fore) (later : BackRow (symbol_bits o) (t + 1) left counts l back) where
  meets : (b : ℕ) (z : ℤ) → b < 2
      → IsGreatest (λ (e : ℕ × ℕ). IsEdge (2 ^ symbol_bits o) 2 e × (input_bit (symbol_bits o) i e.0 e.1 ≡ b)) (λ e. number_at fore e.0 +ℤ (inner_edge (symbol_bits o) counts l t e.0 e.1 +ℤ number_at back (e.1 % 2))) z
      → inner_top o counts l (t * symbol_bits o + i) b ≡ Some z
  meets b z bit best =
      let m : ℕ = symbol_bits o in
      let class : ℕ → ℕ → Type 0 = λ p v. input_bit m i p v ≡ b in
      let runs = meet (2 ^ m) 2 (inner_edge m counts l) inner_next inner_start (stays m) (λ s. pos 0) class t left (number_at fore) (number_at back)
      so_far.top later.top z best in
      let runs_n = subst (λ (k : ℕ). IsGreatest (λ (r : ℕ × List ℕ). IsRun (2 ^ m) 2 k r × class (state_at inner_next r.0 r.1 t) (get_or r.1 t 0)) (λ r. (inner_start r.0 +ℤ walk (inner_edge m counts l) inner_next 0 r.0 r.1) +ℤ pos 0) z) all runs in
      inner-top o n t i b counts l long lt li bit most edges short z runs_n

  pub soft-at : (z : ℤ) → IsSoft (IsEdge (2 ^ symbol_bits o) 2) (λ (e : ℕ × ℕ). input_bit (symbol_bits o) i e.0 e.1) (λ e. number_at fore e.0 +ℤ (inner_edge (symbol_bits o) counts l t e.0 e.1 +ℤ number_at back (e.1 % 2))) z
      → IsSoftAt o counts l (t * symbol_bits o + i) z
  soft-at z g = record { one = g.one; zero = g.zero; top_one = meets 1 g.one (omega arith) g.with_one; top_zero = meets 0 g.zero (omega arith) g.with_zero; value = g.value }

-- ---- a stage's call, over its counts and numbers
pub row_stage : (counts : List ℕ) (l from0 from1 back : List ℤ) (n size s : ℕ) (z : ℤ) → s < 2 → n ≡ size
    → ((v : ℕ) → v < n → number_at from0 v ≡ stage_edge counts l 0 v) → ((v : ℕ) → v < n → number_at from1 v ≡ stage_edge counts l 1 v)
    → IsGreatest (λ (v : ℕ). v < n) (λ v. edge_of from0 from1 s v +ℤ number_at back (v % 2)) z
    → IsGreatest (λ (v : ℕ). v < size) (λ v. stage_edge counts l s v +ℤ number_at back (v % 2)) z
row_stage counts l from0 from1 back n size s z low es zero_is one_is g =
    subst (λ (k : ℕ). IsGreatest (λ (v : ℕ). v < k) (λ v. stage_edge counts l s v +ℤ number_at back (v % 2)) z) es
    (IsGreatest-score (λ v p. ap (λ (y : ℤ). y +ℤ number_at back (v % 2)) (sym (edge_is counts l from0 from1 n zero_is one_is s v low p))) g)

pub soft_stage : (counts : List ℕ) (l from0 from1 fore back : List ℤ) (n size m i : ℕ) (z : ℤ) → n ≡ size
    → ((v : ℕ) → v < n → number_at from0 v ≡ stage_edge counts l 0 v) → ((v : ℕ) → v < n → number_at from1 v ≡ stage_edge counts l 1 v)
    → IsSoft (IsEdge n 2) (λ (e : ℕ × ℕ). input_bit m i e.0 e.1) (λ e. number_at fore e.0 +ℤ (edge_of from0 from1 e.0 e.1 +ℤ number_at back (e.1 % 2))) z
    → IsSoft (IsEdge size 2) (λ (e : ℕ × ℕ). input_bit m i e.0 e.1) (λ e. number_at fore e.0 +ℤ (stage_edge counts l e.0 e.1 +ℤ number_at back (e.1 % 2))) z
soft_stage counts l from0 from1 fore back n size m i z es zero_is one_is g =
    subst (λ (k : ℕ). IsSoft (IsEdge k 2) (λ (e : ℕ × ℕ). input_bit m i e.0 e.1) (λ e. number_at fore e.0 +ℤ (stage_edge counts l e.0 e.1 +ℤ number_at back (e.1 % 2))) z) es
    (IsSoft-score (λ e p. ap (λ (y : ℤ). number_at fore e.0 +ℤ (y +ℤ number_at back (e.1 % 2))) (sym (edge_is counts l from0 from1 n zero_is one_is e.0 e.1 p.0 p.1))) g)

-- the same, said of the whole word
pub row_whole : (m k n t size : ℕ) (counts : List ℕ) (l back next : List ℤ) → k ≡ m → size ≡ 2 ^ m → length l ≡ n * m → t < n
    → ((s : ℕ) → s < 2 → IsGreatest (λ (v : ℕ). v < 2 ^ length (take ((t + 1) * k - t * k) (drop (t * k) l)))
    (λ v. stage_edge (take ((t + 1) * size - t * size) (drop (t * size) counts)) (take ((t + 1) * k - t * k) (drop (t * k) l)) s v +ℤ number_at back (v % 2)) (number_at next s))
    → (s : ℕ) → s < 2 → IsGreatest (λ (v : ℕ). v < 2 ^ m) (λ v. inner_edge m counts l t s v +ℤ number_at back (v % 2)) (number_at next s)
row_whole m k n t size counts l back next ek es el lt h =
    let C : List ℕ → List ℤ → ℕ → Type 0 = λ cs ls j. (s : ℕ) → s < 2 → IsGreatest (λ (v : ℕ). v < 2 ^ j) (λ v. stage_edge cs ls s v +ℤ number_at back (v % 2)) (number_at next s) in
    let one = subst (λ (x : List ℕ). C x (take ((t + 1) * k - t * k) (drop (t * k) l)) (length (take ((t + 1) * k - t * k) (drop (t * k) l)))) (cut_is t size (2 ^ m) counts es) h in
    let two = subst (λ (y : List ℤ). C (take (2 ^ m) (drop (t * 2 ^ m) counts)) y (length y)) (cut_is t k m l ek) one in
    subst (λ (j : ℕ). C (take (2 ^ m) (drop (t * 2 ^ m) counts)) (take m (drop (t * m) l)) j) (cut_long t m n l el lt) two

pub soft_whole : (m k n t size : ℕ) (counts : List ℕ) (l fore back new : List ℤ) → k ≡ m → size ≡ 2 ^ m → length l ≡ n * m → t < n
    → ((i : ℕ) → i < length (take ((t + 1) * k - t * k) (drop (t * k) l)) → IsSoft (IsEdge (2 ^ length (take ((t + 1) * k - t * k) (drop (t * k) l))) 2) (λ (e : ℕ × ℕ). input_bit (length (take ((t + 1) * k - t * k) (drop (t * k) l))) i e.0 e.1)
    (λ e. number_at fore e.0 +ℤ (stage_edge (take ((t + 1) * size - t * size) (drop (t * size) counts)) (take ((t + 1) * k - t * k) (drop (t * k) l)) e.0 e.1 +ℤ number_at back (e.1 % 2))) (number_at new i))
    → (i : ℕ) → i < m → IsSoft (IsEdge (2 ^ m) 2) (λ (e : ℕ × ℕ). input_bit m i e.0 e.1) (λ e. number_at fore e.0 +ℤ (inner_edge m counts l t e.0 e.1 +ℤ number_at back (e.1 % 2))) (number_at new i)
soft_whole m k n t size counts l fore back new ek es el lt h =
    let C : List ℕ → List ℤ → ℕ → Type 0 = λ cs ls j. (i : ℕ) → i < j → IsSoft (IsEdge (2 ^ j) 2) (λ (e : ℕ × ℕ). input_bit j i e.0 e.1) (λ e. number_at fore e.0 +ℤ (stage_edge cs ls e.0 e.1 +ℤ number_at back (e.1 % 2))) (number_at new i) in
    let one = subst (λ (x : List ℕ). C x (take ((t + 1) * k - t * k) (drop (t * k) l)) (length (take ((t + 1) * k - t * k) (drop (t * k) l)))) (cut_is t size (2 ^ m) counts es) h in
    let two = subst (λ (y : List ℤ). C (take (2 ^ m) (drop (t * 2 ^ m) counts)) y (length y)) (cut_is t k m l ek) one in
    subst (λ (j : ℕ). C (take (2 ^ m) (drop (t * 2 ^ m) counts)) (take m (drop (t * m) l)) j) (cut_long t m n l el lt) two

two_is : (row : List ℤ) (x y : ℤ) → x ≡ number_at row 0 → y ≡ number_at row 1 → (s : ℕ) → s < 2 → number_at row s ≡ number_at (x ∷ y ∷ []) s
two_is row x y ex ey zero h = sym ex
two_is row x y ex ey (suc zero) h = sym ey
two_is row x y ex ey (suc (suc s)) h = absurd (omega arith)

pub BackRow-same : (m t left : ℕ) (counts : List ℕ) (l row : List ℤ) (x y : ℤ) → x ≡ number_at row 0 → y ≡ number_at row 1 → BackRow m t left counts l row → BackRow m t left counts l (x ∷ y ∷ [])
BackRow-same m t left counts l row x y ex ey b = record { top = λ q h. subst (Back (2 ^ m) (inner_edge m counts l) inner_next (λ s. pos 0) t left q) (two_is row x y ex ey q h) (b.top q h) }

pub below_cap_back : (k n most : ℕ) → k ≤ n → n * most ≤ 371566440 → k * most ≤ 600000000
below_cap_back k n most h c = let p : k * most ≤ n * most = mul-le-mul_right most h in omega arith

pub place_parts : (j n m : ℕ) → 2 ≤ m → j < n * m → (j / m < n) × (j % m < m) × (j ≡ j / m * m + j % m)
place_parts j n m two h = (grind (arith, div-lt_iff_lt-mul), omega arith, omega arith)

-- each place of the word is an input bit of a stage
pub each_place : (o : Order) (k : ℕ) (counts : List ℕ) (l out : List ℤ) → k ≡ symbol_bits o → 2 ≤ symbol_bits o → length l % symbol_bits o ≡ 0
    → AreSoft o 0 (length l / k) counts l out
    → (j : ℕ) → j < length l → IsSoftAt o counts l j (number_at out j)
each_place o k counts l out e two whole soft j h =
    let m : ℕ = symbol_bits o in
    let all : length l ≡ length l / m * m = omega arith in
    let p = place_parts j (length l / m) m two (subst (λ (n : ℕ). j < n) all h) in
    subst (λ (n : ℕ). IsSoftAt o counts l n (number_at out n)) (sym p.2)
    (soft (j / m) (j % m) (omega arith) (subst (λ (n : ℕ). j / m < length l / n) (sym e) p.0) p.1)

-- so the value is that of the definition
pub soft-value : (o : Order) (counts : List ℕ) (l : List ℤ) (j : ℕ) (z : ℤ) → IsSoftAt o counts l j z → z ≡ inner_soft_value o counts l j
unfolding inner_soft_value
soft-value o counts l j z h = h.value ∙ ap₂ difference (sym h.top_one) (sym h.top_zero)

some_top : (o : Order) (counts : List ℕ) (l : List ℤ) (j b : ℕ) (z : ℤ) → inner_top o counts l j b ≡ Some z → IsSome (inner_top o counts l j b)
some_top o counts l j b z e = subst IsSome (sym e) refl

-- and both tops are there
pub soft-tops : (o : Order) (counts : List ℕ) (l : List ℤ) (j b : ℕ) (z : ℤ) → b < 2 → IsSoftAt o counts l j z → IsSome (inner_top o counts l j b)
soft-tops o counts l j zero z low h = some_top o counts l j 0 h.zero h.top_zero
soft-tops o counts l j (suc zero) z low h = some_top o counts l j 1 h.one h.top_one
soft-tops o counts l j (suc (suc b)) z low h = absurd (omega arith)

-- as many edges as the symbols of a stage
pub stage_room : (o : Order) (k size t n : ℕ) (l from : List ℤ) → k ≡ symbol_bits o → size ≡ 2 ^ symbol_bits o → length l ≡ n * symbol_bits o → t < n → length from ≡ 256
    → length (take size from) ≡ 2 ^ length (take ((t + 1) * k - t * k) (drop (t * k) l))
stage_room o k size t n l from ek es el lt lf =
    let high : 2 ^ symbol_bits o ≤ 256 = positions-high o in
    let a : length (take size from) ≡ size = simp length-take (omega arith) in
    let b : length (take ((t + 1) * k - t * k) (drop (t * k) l)) ≡ symbol_bits o = ap length (cut_is t k (symbol_bits o) l ek) ∙ cut_long t (symbol_bits o) n l el lt in
    a ∙ es ∙ ap (λ (j : ℕ). 2 ^ j) (sym b)
