-- Folding a list of scores by the input bits of its places.
use Rattle.std.proofs.Common.{◌≡◌, ℕ, zero, suc, ◌+◌, ◌-◌, ◌*◌, ◌/◌, ◌%◌, ◌^◌, ◌<◌, ◌≤◌, ⊎_elim, sym, ◌∙◌, ap, ap₂, subst, refl, arith, ℤ, pos, ◌+ℤ◌, ◌-ℤ◌, ◌≤ℤ◌, List, length, ◌++◌, length-append, zero-add}
use Rattle.std.proofs.Math.ListN.{get_or-append}
use Rattle.std.proofs.lemmas.List.{get_or-append-add}
use Rattle.std.specs.Int.{bit_at, int_max}
use Rattle.std.proofs.lemmas.Int.{ints}
use Rattle.std.proofs.lemmas.Bool.{cases_lt}
use Rattle.std.proofs.lemmas.Nat.{div-mul-add}
use Rattle.std.proofs.lemmas.Nat.Bits.{bit_at-lt}
use Rattle.std.proofs.Math.Nat.{two-pow-succ, div-eq_of_lt}
use Rattle.std.proofs.Math.Pow.{pow_pos}
use Rattle.std.proofs.lemmas.Nat.{pow-add}
use Rattle.hpe_base.specs.Bits.{xor}
use Rattle.hpe_base.specs.Sizes.{number_at, Within}
use Rattle.hpe_base.specs.Greatest.{IsGreatest, IsSoft}
use Rattle.hpe_base.specs.Trellis.{IsEdge}
use Rattle.hpe_base.proofs.Greatest.{max_left, max_right, max_cases, le_trans}
use Rattle.hpe_lane.specs.Edges.{input_bit}
use Rattle.hpe_lane.specs.Near.{Near}
use Rattle.hpe_lane.specs.Folds.{SameBits, Folded}
use Rattle.hpe_base.proofs.Trellis.{stage-suc}

-- ---- input bits of a place and of its mirror image

turned_div : (a c q r : ℕ) → r < q → ((a + 1 + c) * q - 1 - (a * q + r)) / q ≡ c
turned_div a c q r h =
    let e : (a + 1 + c) * q - 1 - (a * q + r) ≡ c * q + (q - 1 - r) = grind arith in
    ap (λ (n : ℕ). n / q) e ∙ div-mul-add c q (q - 1 - r) (omega arith)

half_even : (n p : ℕ) → p < n → 2 ^ n ≡ 2 ^ (n - 1 - p) * 2 * 2 ^ p
half_even n p h =
    let e : n ≡ (n - 1 - p + 1) + p = omega arith in
    ap (λ (k : ℕ). 2 ^ k) e ∙ pow-add 2 (n - 1 - p + 1) p ∙ ap (λ (k : ℕ). k * 2 ^ p) (pow-add 2 (n - 1 - p) 1)

other_bit : (f a c : ℕ) → f * 2 ≡ a + 1 + c → c % 2 ≡ 1 - a % 2
other_bit f a c h = omega arith

below_times : (v e q : ℕ) → 0 < q → v < e * q → v / q < e
below_times v e q up h = grind (arith, div-mul-add)

-- the bits of the mirror image of a place are turned
turned_bit : (n v p : ℕ) → p < n → v < 2 ^ n → bit_at (2 ^ n - 1 - v) p ≡ 1 - bit_at v p
turned_bit n v p h below =
    let q : ℕ = 2 ^ p in
    let f : ℕ = 2 ^ (n - 1 - p) in
    let up : 0 < q = pow_pos p in
    let all : 2 ^ n ≡ f * 2 * q = half_even n p h in
    let a : ℕ = v / q in
    let r : ℕ = v % q in
    let split : v ≡ a * q + r = omega arith in
    let small : r < q = omega arith in
    let few : a < f * 2 = below_times v (f * 2) q up (subst (λ (k : ℕ). v < k) all below) in
    let c : ℕ = f * 2 - 1 - a in
    let parts : f * 2 ≡ a + 1 + c = omega arith in
    ap₂ (λ (x y : ℕ). (x - 1 - y) / q % 2) (all ∙ ap (λ (k : ℕ). k * q) parts) split
    ∙ ap (λ (k : ℕ). k % 2) (turned_div a c q r small)
    ∙ other_bit f a c parts

turned_xor : (a b : ℕ) → a < 2 → b < 2 → xor (1 - a) (1 - b) ≡ xor a b
turned_xor a b h k = omega arith

turned_state : (a : ℕ) → a < 2 → xor (1 - a) 1 ≡ xor a 0
turned_state a h = omega arith

top_place : (m : ℕ) → 0 < m → m - 1 - 0 < m
top_place m h = omega arith

any_place : (m i : ℕ) → i < m → m - 1 - i < m
any_place m i h = omega arith

-- later input bits are those of the place itself
turned_later : (m i s t v : ℕ) → suc i < m → v < 2 ^ m → input_bit m (suc i) s (2 ^ m - 1 - v) ≡ input_bit m (suc i) t v
turned_later m i s t v h below =
    ap₂ (λ (a b : ℕ). xor a b) (turned_bit m v (m - 1 - suc i) (any_place m (suc i) h) below) (turned_bit m v (m - 1 - i) (any_place m i (omega arith)) below)
    ∙ turned_xor (bit_at v (m - 1 - suc i)) (bit_at v (m - 1 - i)) (bit_at-lt v (m - 1 - suc i)) (bit_at-lt v (m - 1 - i))

-- with the other state, the mirror image of a place has all its input bits
turned_input : (m i v : ℕ) → i < m → v < 2 ^ m → input_bit m i 1 (2 ^ m - 1 - v) ≡ input_bit m i 0 v
turned_input m zero v h below =
    ap (λ (a : ℕ). xor a 1) (turned_bit m v (m - 1 - 0) (top_place m h) below) ∙ turned_state (bit_at v (m - 1 - 0)) (bit_at-lt v (m - 1 - 0))
turned_input m (suc i) v h below = turned_later m i 1 0 v h below

next_place : (k j : ℕ) → suc k - 1 - suc j ≡ k - 1 - j
next_place k j = omega arith

last_place : (k : ℕ) → suc k - 1 - 0 ≡ k
last_place k = omega arith

no_bit : (v k : ℕ) → v < 2 ^ k → bit_at v k ≡ 0
no_bit v k h = ap (λ (n : ℕ). n % 2) (div-eq_of_lt h)

-- a place of the first half, as a place of a list of half the length
front_input : (k j v : ℕ) → j < k → v < 2 ^ k → input_bit (suc k) (suc j) 0 v ≡ input_bit k j 0 v
front_input k zero v h below =
    ap₂ (λ (a b : ℕ). xor (bit_at v a) b) (next_place k 0) (ap (bit_at v) (last_place k) ∙ no_bit v k below)
front_input k (suc j) v h below =
    ap₂ (λ (a b : ℕ). xor (bit_at v a) (bit_at v b)) (next_place k (suc j)) (next_place k j)

-- a place of the second half, as the mirror image of a place of the first
back_input : (k j v : ℕ) → j < k → v < 2 ^ k → input_bit (suc k) (suc j) 0 (2 ^ suc k - 1 - v) ≡ input_bit k j 0 v
back_input k j v h below =
    let two : 2 ^ suc k ≡ 2 ^ k + 2 ^ k = two-pow-succ k in
    turned_later (suc k) j 0 0 v (omega arith) (omega arith) ∙ front_input k j v h below

half_number : (b : ℕ) → b < 2 → xor (b % 2) 0 ≡ b
half_number b h = omega arith

-- the first input bit tells the halves apart
first_input : (k w : ℕ) → w < 2 ^ suc k → input_bit (suc k) 0 0 w ≡ w / 2 ^ k
first_input k w h =
    ap (λ (a : ℕ). xor (bit_at w a) 0) (last_place k)
    ∙ half_number (w / 2 ^ k) (below_times w 2 (2 ^ k) (pow_pos k) (let two : 2 ^ suc k ≡ 2 ^ k + 2 ^ k = two-pow-succ k in omega arith))

-- ---- folding

le_refl : (z : ℤ) → z ≤ℤ z
le_refl z = omega (arith, ints)

pub Folded-first : (m : ℕ) (start : List ℤ) → Folded m 0 m start start
Folded-first m start = record {
  from = λ w h. (w, (h, (refl, λ j k. ap (λ (i : ℕ). input_bit m i 0 w) (zero-add j))));
  into = λ v h. (v, (h, (le_refl (number_at start v), λ j k. ap (λ (i : ℕ). input_bit m i 0 v) (zero-add j))));
}

mirror_below : (k v q : ℕ) → q ≡ 2 ^ k + 2 ^ k → v < 2 ^ k → q - 1 - v < q
mirror_below k v q e h = omega arith

mirror_back : (k w q : ℕ) → q ≡ 2 ^ k + 2 ^ k → w < q → 2 ^ k ≤ w → q - 1 - w < 2 ^ k
mirror_back k w q e h le = omega arith

mirror_twice : (w q : ℕ) → w < q → q - 1 - (q - 1 - w) ≡ w
mirror_twice w q h = omega arith

module _ (m i k : ℕ) (start now next : List ℤ) (so_far : Folded m i (suc k) start now)
    (is : (v : ℕ) → v < 2 ^ k → number_at next v ≡ int_max (number_at now v) (number_at now (2 ^ suc k - 1 - v))) where
  from_place : (w u : ℕ) → w < 2 ^ k → u < 2 ^ suc k → number_at next w ≡ number_at now u → ((j : ℕ) → j < k → input_bit (suc k) (suc j) 0 u ≡ input_bit k j 0 w)
      → (v : ℕ) × ((v < 2 ^ m) × ((number_at start v ≡ number_at next w) × SameBits m (i + 1) k v w))
  from_place w u h below e bits =
      let f = so_far.from u below in
      (f.0, (f.1.0, (f.1.1.0 ∙ sym e, λ j l. ap (λ (n : ℕ). input_bit m n 0 f.0) (sym (stage-suc i j)) ∙ f.1.1.1 (suc j) (omega arith) ∙ bits j l)))

  into_place : (v u w : ℕ) → w < 2 ^ k → number_at start v ≤ℤ number_at now u → SameBits m i (suc k) v u → number_at now u ≤ℤ number_at next w
      → ((j : ℕ) → j < k → input_bit (suc k) (suc j) 0 u ≡ input_bit k j 0 w)
      → (w : ℕ) × ((w < 2 ^ k) × ((number_at start v ≤ℤ number_at next w) × SameBits m (i + 1) k v w))
  into_place v u w h le same more bits =
      (w, (h, (le_trans _ _ _ le more, λ j l. ap (λ (n : ℕ). input_bit m n 0 v) (sym (stage-suc i j)) ∙ same (suc j) (omega arith) ∙ bits j l)))

  into_half : (v u : ℕ) → u < 2 ^ suc k → number_at start v ≤ℤ number_at now u → SameBits m i (suc k) v u
      → (w : ℕ) × ((w < 2 ^ k) × ((number_at start v ≤ℤ number_at next w) × SameBits m (i + 1) k v w))
  into_half v u below le same =
      let q : ℕ = 2 ^ suc k in
      let two : q ≡ 2 ^ k + 2 ^ k = two-pow-succ k in
      ⊎_elim
      (λ (h : u < 2 ^ k). into_place v u u h le same
      (subst (λ (z : ℤ). number_at now u ≤ℤ z) (sym (is u h)) (max_left (number_at now u) (number_at now (q - 1 - u))))
      (λ j l. front_input k j u l h))
      (λ (h : 2 ^ k ≤ u).
      let w : ℕ = q - 1 - u in
      let low : w < 2 ^ k = mirror_back k u q two below h in
      let back : q - 1 - w ≡ u = mirror_twice u q below in
      into_place v u w low le same
      (subst (λ (z : ℤ). number_at now u ≤ℤ z) (sym (is w low))
      (subst (λ (n : ℕ). number_at now u ≤ℤ int_max (number_at now w) (number_at now n)) (sym back) (max_right (number_at now w) (number_at now u))))
      (λ j l. subst (λ (n : ℕ). input_bit (suc k) (suc j) 0 n ≡ input_bit k j 0 w) back (back_input k j w l low)))
      (cases_lt u (2 ^ k))

  -- one fold more
  pub Folded-more : Folded m (i + 1) k start next
  Folded-more =
      let q : ℕ = 2 ^ suc k in
      let two : q ≡ 2 ^ k + 2 ^ k = two-pow-succ k in
      record {
        from = λ w h.
            ⊎_elim
            (λ e. from_place w w h (omega arith) (is w h ∙ e) (λ j l. front_input k j w l h))
            (λ e. from_place w (q - 1 - w) h (mirror_below k w q two h) (is w h ∙ e) (λ j l. back_input k j w l h))
            (max_cases (number_at now w) (number_at now (q - 1 - w)));
        into = λ v h. let g = so_far.into v h in into_half v g.0 g.1.0 g.1.1.0 g.1.1.1;
      }

-- the soft value of input bit i, from the halves of a list that is folded i times
module _ (m i k : ℕ) (start now : List ℤ) (so_far : Folded m i (suc k) start now) where
  same_first : (v w : ℕ) → w < 2 ^ suc k → SameBits m i (suc k) v w → input_bit m i 0 v ≡ w / 2 ^ k
  same_first v w h same =
      let e : i + 0 ≡ i = omega arith in ap (λ (n : ℕ). input_bit m n 0 v) (sym e) ∙ same 0 (omega arith) ∙ first_input k w h

  greatest_start : (b : ℕ) (z : ℤ) → IsGreatest (λ (w : ℕ). (w < 2 ^ suc k) × (w / 2 ^ k ≡ b)) (number_at now) z
      → IsGreatest (λ (v : ℕ). (v < 2 ^ m) × (input_bit m i 0 v ≡ b)) (number_at start) z
  greatest_start b z g =
      let w : ℕ = g.reached.0 in
      let f = so_far.from w g.reached.1.0.0 in
      record {
        reached = (f.0, ((f.1.0, same_first f.0 w g.reached.1.0.0 f.1.1.1 ∙ g.reached.1.0.1), f.1.1.0 ∙ g.reached.1.1));
        bound = λ v p. let h = so_far.into v p.0 in le_trans _ _ _ h.1.1.0 (g.bound h.0 (h.1.0, sym (same_first v h.0 h.1.0 h.1.1.1) ∙ p.1));
      }

  pub soft_start : (z : ℤ) → IsSoft (λ (w : ℕ). w < 2 ^ suc k) (λ w. w / 2 ^ k) (number_at now) z → IsSoft (λ (v : ℕ). v < 2 ^ m) (input_bit m i 0) (number_at start) z
  soft_start z g = record { one = g.one; zero = g.zero; with_one = greatest_start 1 g.one g.with_one; with_zero = greatest_start 0 g.zero g.with_zero; value = g.value }

  -- the folded list holds numbers of the first
  pub near_now : (most : ℕ) → Near most (2 ^ m) start → Near most (2 ^ suc k) now
  near_now most near v w h l =
      let f = so_far.from v h in
      let g = so_far.from w l in
      subst (λ (z : ℤ). z ≤ℤ (number_at now w +ℤ pos most)) f.1.1.0
      (subst (λ (z : ℤ). number_at start f.0 ≤ℤ (z +ℤ pos most)) g.1.1.0 (near f.0 g.0 f.1.0 g.1.0))

-- the halves of a list
module _ (low high : List ℤ) (h : ℕ) (some : 0 < h) (front : length low ≡ h) (behind : length high ≡ h) (l u : ℤ)
    (least : IsGreatest (λ (v : ℕ). v < h) (number_at low) l) (most : IsGreatest (λ (v : ℕ). v < h) (number_at high) u) where
  in_front : (v : ℕ) → v < h → (number_at (low ++ high) v ≡ number_at low v) × (v / h ≡ 0)
  in_front v b = (get_or-append low high (pos 0) v (omega arith), div-eq_of_lt b)

  in_back : (v : ℕ) → v < h → (number_at (low ++ high) (h + v) ≡ number_at high v) × ((h + v) / h ≡ 1)
  in_back v b = (
    ap (λ (n : ℕ). number_at (low ++ high) (n + v)) (sym front) ∙ get_or-append-add low high v (pos 0),
    (let e : h + v ≡ 1 * h + v = omega arith in ap (λ (n : ℕ). n / h) e ∙ div-mul-add 1 h v b),
  )

  back_bound : (v : ℕ) → v < h + h → v / h ≡ 1 → number_at (low ++ high) v ≤ℤ u
  back_bound v b e = ⊎_elim
      (λ (f : v < h). absurd (omega (arith, (in_front v f).1)))
      (λ (f : h ≤ v).
      let w : ℕ = v - h in
      let at : h + w ≡ v = omega arith in
      let lt : w < h = omega arith in
      subst (λ (z : ℤ). z ≤ℤ u) (sym (in_back w lt).0 ∙ ap (number_at (low ++ high)) at) (most.bound w lt))
      (cases_lt v h)

  front_bound : (v : ℕ) → v < h + h → v / h ≡ 0 → number_at (low ++ high) v ≤ℤ l
  front_bound v b e = ⊎_elim
      (λ (f : v < h). subst (λ (z : ℤ). z ≤ℤ l) (sym (in_front v f).0) (least.bound v f))
      (λ (f : h ≤ v).
      let w : ℕ = v - h in
      let at : h + w ≡ v = omega arith in
      let lt : w < h = omega arith in
      absurd (omega (arith, ap (λ (n : ℕ). n / h) (sym at) ∙ (in_back w lt).1)))
      (cases_lt v h)

  pub soft_of_halves : IsSoft (λ (v : ℕ). v < h + h) (λ v. v / h) (number_at (low ++ high)) (u -ℤ l)
  soft_of_halves = record {
    one = u;
    zero = l;
    with_one = record {
      reached = (h + most.reached.0, ((omega (arith, most.reached.1.0), (in_back most.reached.0 most.reached.1.0).1), (in_back most.reached.0 most.reached.1.0).0 ∙ most.reached.1.1));
      bound = λ v p. back_bound v p.0 p.1;
    };
    with_zero = record {
      reached = (least.reached.0, ((omega (arith, least.reached.1.0), (in_front least.reached.0 least.reached.1.0).1), (in_front least.reached.0 least.reached.1.0).0 ∙ least.reached.1.1));
      bound = λ v p. front_bound v p.0 p.1;
    };
    value = refl;
  }

-- a list of an even length
pub halves_soft : (xs low high : List ℤ) (l u : ℤ) → xs ≡ low ++ high → 0 < length low → length high ≡ length low
    → IsGreatest (λ (v : ℕ). v < length low) (number_at low) l → IsGreatest (λ (v : ℕ). v < length high) (number_at high) u
    → IsSoft (λ (v : ℕ). v < length xs) (λ v. v / (length xs / 2)) (number_at xs) (u -ℤ l)
halves_soft xs low high l u whole some same least most =
    let h : ℕ = length low in
    let long : length (low ++ high) ≡ h + h = omega (arith, length-append low high) in
    let half : length (low ++ high) / 2 ≡ h = omega arith in
    subst (λ (ys : List ℤ). IsSoft (λ (v : ℕ). v < length ys) (λ v. v / (length ys / 2)) (number_at ys) (u -ℤ l)) (sym whole)
    (subst (λ (n : ℕ). IsSoft (λ (v : ℕ). v < n) (λ v. v / (length (low ++ high) / 2)) (number_at (low ++ high)) (u -ℤ l)) (sym long)
    (subst (λ (n : ℕ). IsSoft (λ (v : ℕ). v < h + h) (λ v. v / n) (number_at (low ++ high)) (u -ℤ l)) (sym half)
    (soft_of_halves low high h some refl same l u least (subst (λ (n : ℕ). IsGreatest (λ (v : ℕ). v < n) (number_at high) u) same most))))

pub halves_folded : (xs low high new : List ℤ) → xs ≡ low ++ high → length high ≡ length low → length new ≡ length low
    → ((v : ℕ) → v < length low → number_at new v ≡ int_max (number_at low v) (number_at high (length high - 1 - v)))
    → (v : ℕ) → v < length xs / 2 → number_at (new ++ high) v ≡ int_max (number_at xs v) (number_at xs (length xs - 1 - v))
halves_folded xs low high new whole same kept raised v below =
    let h : ℕ = length low in
    let long : length xs ≡ h + h = ap length whole ∙ omega (arith, length-append low high) in
    let lt : v < h = omega arith in
    let w : ℕ = length high - 1 - v in
    let back : w < length high = omega arith in
    let at : h + w ≡ length xs - 1 - v = omega arith in
    get_or-append new high (pos 0) v (omega arith)
    ∙ raised v lt
    ∙ ap₂ (λ (x y : ℤ). int_max x y) (sym (get_or-append low high (pos 0) v lt) ∙ ap (λ (ys : List ℤ). number_at ys v) (sym whole))
    (sym (get_or-append-add low high w (pos 0)) ∙ ap₂ (λ (ys : List ℤ) (n : ℕ). number_at ys n) (sym whole) at)

difference_near : (most : ℕ) (h l : ℤ) → h ≤ℤ (l +ℤ pos most) → l ≤ℤ (h +ℤ pos most) → Within most (h -ℤ l)
difference_near most h l a b = (omega (arith, ints), omega (arith, ints))

-- so the difference of two greatest numbers of a list is no more
pub soft_within : {bit : ℕ → ℕ} {z : ℤ} (most n : ℕ) (xs : List ℤ) → Near most n xs → IsSoft (λ (v : ℕ). v < n) bit (number_at xs) z → Within most z
soft_within most n xs near g =
    let a = g.with_one.reached in
    let b = g.with_zero.reached in
    subst (Within most) (ap₂ (λ (x y : ℤ). x -ℤ y) a.1.1 b.1.1 ∙ sym g.value)
    (difference_near most (number_at xs a.0) (number_at xs b.0) (near a.0 b.0 a.1.0.0 b.1.0.0) (near b.0 a.0 b.1.0.0 a.1.0.0))

-- ---- from the places of a list to the edges of both states

module _ (m : ℕ) (score : ℕ × ℕ → ℤ) (xs : List ℤ)
    (is : (w : ℕ) → w < 2 ^ m → number_at xs w ≡ int_max (score (0, w)) (score (1, 2 ^ m - 1 - w))) where
  mirrored : (v : ℕ) → v < 2 ^ m → 2 ^ m - 1 - v < 2 ^ m
  mirrored v h = omega arith

  edge_place : (i s v : ℕ) → i < m → s < 2 → v < 2 ^ m → (w : ℕ) × ((w < 2 ^ m) × ((input_bit m i 0 w ≡ input_bit m i s v) × (score (s, v) ≤ℤ number_at xs w)))
  edge_place i zero v li h below =
      (v, (below, (refl, subst (λ (z : ℤ). score (0, v) ≤ℤ z) (sym (is v below)) (max_left (score (0, v)) (score (1, 2 ^ m - 1 - v))))))
  edge_place i (suc zero) v li h below =
      let w : ℕ = 2 ^ m - 1 - v in
      let low : w < 2 ^ m = mirrored v below in
      let back : 2 ^ m - 1 - w ≡ v = mirror_twice v (2 ^ m) below in (
        w,
        (
          low,
          (
            sym (turned_input m i w li low) ∙ ap (input_bit m i 1) back,
            subst (λ (z : ℤ). score (1, v) ≤ℤ z) (sym (is w low)) (subst (λ (n : ℕ). score (1, v) ≤ℤ int_max (score (0, w)) (score (1, n))) (sym back) (max_right (score (0, w)) (score (1, v)))),
          ),
        ),
      )
  edge_place i (suc (suc s)) v li h below = absurd (omega arith)

  place_edge : (i w : ℕ) → i < m → w < 2 ^ m → (e : ℕ × ℕ) × (IsEdge (2 ^ m) 2 e × ((input_bit m i e.0 e.1 ≡ input_bit m i 0 w) × (score e ≡ number_at xs w)))
  place_edge i w li h = ⊎_elim
      (λ e. ((0, w), ((omega arith, h), (refl, sym e ∙ sym (is w h)))))
      (λ e. ((1, 2 ^ m - 1 - w), ((omega arith, mirrored w h), (turned_input m i w li h, sym e ∙ sym (is w h)))))
      (max_cases (score (0, w)) (score (1, 2 ^ m - 1 - w)))

  greatest_edge : (i b : ℕ) (z : ℤ) → i < m → IsGreatest (λ (v : ℕ). (v < 2 ^ m) × (input_bit m i 0 v ≡ b)) (number_at xs) z
      → IsGreatest (λ (e : ℕ × ℕ). IsEdge (2 ^ m) 2 e × (input_bit m i e.0 e.1 ≡ b)) score z
  greatest_edge i b z li g =
      let at = place_edge i g.reached.0 li g.reached.1.0.0 in
      record {
        reached = (at.0, ((at.1.0, at.1.1.0 ∙ g.reached.1.0.1), at.1.1.1 ∙ g.reached.1.1));
        bound = λ e p. let w = edge_place i e.0 e.1 li p.0.0 p.0.1 in le_trans _ _ _ w.1.1.1 (g.bound w.0 (w.1.0, w.1.1.0 ∙ p.1));
      }

  pub soft_edge : (i : ℕ) (z : ℤ) → i < m → IsSoft (λ (v : ℕ). v < 2 ^ m) (input_bit m i 0) (number_at xs) z
      → IsSoft (IsEdge (2 ^ m) 2) (λ (e : ℕ × ℕ). input_bit m i e.0 e.1) score z
  soft_edge i z li g = record { one = g.one; zero = g.zero; with_one = greatest_edge i 1 g.one li g.with_one; with_zero = greatest_edge i 0 g.zero li g.with_zero; value = g.value }

-- a soft value of the folded list is one of the list that it was folded from
greatest_from : (m i k : ℕ) (start now : List ℤ) → Folded m i k start now → (j b : ℕ) (z : ℤ) → j < k → IsGreatest (λ (w : ℕ). (w < 2 ^ k) × (input_bit k j 0 w ≡ b)) (number_at now) z
    → IsGreatest (λ (v : ℕ). (v < 2 ^ m) × (input_bit m (i + j) 0 v ≡ b)) (number_at start) z
greatest_from m i k start now f j b z lj g =
    let at = f.from g.reached.0 g.reached.1.0.0 in
    record {
      reached = (at.0, ((at.1.0, at.1.1.1 j lj ∙ g.reached.1.0.1), at.1.1.0 ∙ g.reached.1.1));
      bound = λ v p. let w = f.into v p.0 in le_trans _ _ _ w.1.1.0 (g.bound w.0 (w.1.0, sym (w.1.1.1 j lj) ∙ p.1));
    }

pub soft_from : (m i k : ℕ) (start now : List ℤ) → Folded m i k start now → (j : ℕ) (z : ℤ) → j < k → IsSoft (λ (w : ℕ). w < 2 ^ k) (input_bit k j 0) (number_at now) z
    → IsSoft (λ (v : ℕ). v < 2 ^ m) (input_bit m (i + j) 0) (number_at start) z
soft_from m i k start now f j z lj g = record {
  one = g.one;
  zero = g.zero;
  with_one = greatest_from m i k start now f j 1 g.one lj g.with_one;
  with_zero = greatest_from m i k start now f j 0 g.zero lj g.with_zero;
  value = g.value;
}

pub near_from : (m i k : ℕ) (start now : List ℤ) (most : ℕ) → Folded m i k start now → Near most (2 ^ m) start → Near most (2 ^ k) now
near_from m i k start now most so_far near v w h l =
    let f = so_far.from v h in
    let g = so_far.from w l in
    subst (λ (z : ℤ). z ≤ℤ (number_at now w +ℤ pos most)) f.1.1.0
    (subst (λ (z : ℤ). number_at start f.0 ≤ℤ (z +ℤ pos most)) g.1.1.0 (near f.0 g.0 f.1.0 g.1.0))
