-- How many numbers wait in the rings of an unweaver.
use Rattle.std.proofs.Common.{◌≡◌, ◌<◌, ◌≤◌, ◌+◌, ◌-◌, ◌*◌, ℕ, List, [], length, min, ap, sym, ◌∙◌, arith, inl, inr, sum, sum_by, zero, suc, take, get_or, ◌/◌}
use Rattle.std.proofs.lemmas.Bool.{cases_lt}
use Rattle.std.proofs.lemmas.Nat.{mul-le}
use Rattle.std.proofs.lemmas.List.{length-drop, take_all}
use Rattle.std.proofs.lemmas.List.Sums.{sum_by_more}
use Rattle.circular_buffer.specs.Buffer.{Buffer, buffer}
use Rattle.std.proofs.Math.Nat.{zero-mul}
use Rattle.hpe_base.specs.Lists.{tabulate}
use Rattle.hpe_base.specs.Parameters.{Parameters, positions, interleaver_depth}
use Rattle.hpe_base.proofs.Tabulated.{tabulate-none, sum-tabulate-suc}
use Rattle.hpe_weave.specs.Turns.{turns, joined_on_row}
use Rattle.hpe_weave.specs.Unweaving.{held_turns, gathered, held_after}
use Rattle.hpe_weave.proofs.UnweaverLemmas.{length-on, whole}

-- the last of so many rows, in numbers of m a row
times-min : (m a b : ℕ) → a * m - (a * m - b * m) ≡ m * min b a
times-min m a b = elim (cases_lt a b) [
  | inl less ↦ (let h : a * m ≤ b * m = mul-le a m b m (omega arith) (omega arith) in
      let e : min b a ≡ a = omega arith in
      let z : a * m - (a * m - b * m) ≡ a * m = omega arith in
      let c : a * m ≡ m * a = omega arith in z ∙ c ∙ ap (λ (k : ℕ). m * k) (sym e))
  | inr more ↦ (let h : b * m ≤ a * m = mul-le b m a m more (omega arith) in
      let e : min b a ≡ b = omega arith in
      let z : a * m - (a * m - b * m) ≡ b * m = omega arith in
      let c : b * m ≡ m * b = omega arith in z ∙ c ∙ ap (λ (k : ℕ). m * k) (sym e))
]

-- what waits on one row
pub length-gathered : (p : Parameters) (g : List (List ℕ)) (i : ℕ) → i < p.rows → whole p g
    → length (gathered p g i) ≡ positions p.order * min (held_turns p i) (turns p.rows (length g) i)
length-gathered p g i h all =
    let l : length (joined_on_row p.rows g i) ≡ turns p.rows (length g) i * positions p.order = length-on p g i h all in
    length-drop (length (joined_on_row p.rows g i) - held_turns p i * positions p.order) (joined_on_row p.rows g i)
    ∙ ap (λ (k : ℕ). k - (k - held_turns p i * positions p.order)) l
    ∙ times-min (positions p.order) (turns p.rows (length g) i) (held_turns p i)

-- the products of one row further
half-products : (n m b : ℕ) → n * (n + 1 + (m + m)) * b + (m * b + m * b) ≡ suc n * (n + (m + m)) * b
half-products n m b = grind arith

-- n (n + 2 m + 1), one row further
half-step : (n m b : ℕ) → n * (n + (m + 1 + (m + 1)) - 1) * b + (m * b + m * b) ≡ suc n * (suc n + (m + m) - 1) * b
half-step n m b =
    let x : n + (m + 1 + (m + 1)) - 1 ≡ n + 1 + (m + m) = omega arith in
    let y : suc n + (m + m) - 1 ≡ n + (m + m) = omega arith in
    let z : n * (n + 1 + (m + m)) * b + (m * b + m * b) ≡ suc n * (n + (m + m)) * b = half-products n m b in
    ap (λ (k : ℕ). n * k * b + (m * b + m * b)) x ∙ z ∙ ap (λ (k : ℕ). suc n * k * b) (sym y)

-- twice what the first n rows hold back, where m rows come after them
pub half : (n m b : ℕ) (f : ℕ → ℕ) → ((i j : ℕ) → i + 1 + j ≡ n + m → f i ≤ j * b) → sum (tabulate n f) + sum (tabulate n f) ≤ n * (n + (m + m) - 1) * b
half zero m b f h = rw (tabulate-none f) (omega arith)
half (suc n) m b f h =
    let ih : sum (tabulate n f) + sum (tabulate n f) ≤ n * (n + (m + 1 + (m + 1)) - 1) * b = half n (m + 1) b f (λ i j e. h i j (omega arith)) in
    let last : f n ≤ m * b = h n m (omega arith) in
    let s : sum (tabulate (suc n) f) ≡ sum (tabulate n f) + f n = sum-tabulate-suc n f in
    let e : n * (n + (m + 1 + (m + 1)) - 1) * b + (m * b + m * b) ≡ suc n * (suc n + (m + m) - 1) * b = half-step n m b in
    rw (s, ← e) (omega arith)

-- twice a product, by parts
two-sums : (m s d : ℕ) → m * (s + s) ≤ d → m * s + m * s ≤ d
two-sums m s d h = omega arith

-- at most half the depth
pub held-half : (p : Parameters) (c : ℕ) → held_after p c + held_after p c ≤ positions p.order * interleaver_depth p
held-half p c =
    let f = λ (i : ℕ). min (held_turns p i) (turns p.rows c i) in
    let h : sum (tabulate p.rows f) + sum (tabulate p.rows f) ≤ p.rows * (p.rows + (0 + 0) - 1) * p.delay =
    half p.rows 0 p.delay f (λ i j e. let w : p.rows - 1 - i ≡ j = omega arith in let k : held_turns p i ≡ j * p.delay = ap (λ (n : ℕ). n * p.delay) w in omega arith) in
    let z : p.rows + (0 + 0) - 1 ≡ p.rows - 1 = omega arith in
    let d : p.rows * (p.rows + (0 + 0) - 1) * p.delay ≡ interleaver_depth p = ap (λ (n : ℕ). p.rows * n * p.delay) z in
    let m : positions p.order * (sum (tabulate p.rows f) + sum (tabulate p.rows f)) ≤ positions p.order * interleaver_depth p =
    mul-le (positions p.order) (sum (tabulate p.rows f) + sum (tabulate p.rows f)) (positions p.order) (interleaver_depth p) (omega arith) (omega arith) in
    two-sums (positions p.order) (sum (tabulate p.rows f)) (positions p.order * interleaver_depth p) m

-- half of a number that twice another is at most
half-le : (a b : ℕ) → a + a ≤ b → a ≤ b / 2
half-le a b h = omega arith

-- what waits is at most half the depth, rounded down
pub held-most : (p : Parameters) (c n : ℕ) → n ≡ held_after p c → n ≤ positions p.order * interleaver_depth p / 2
held-most p c n e = rw e (half-le (held_after p c) (positions p.order * interleaver_depth p) (held-half p c))

-- the rings counted one by one
pub summed_more : (rs : List (Buffer ℕ)) (k sums n : ℕ) (b : Buffer ℕ) → k < length rs → b ≡ get_or rs k b → n ≡ length b.items
    → sums ≡ sum_by (λ ring. length ring.items) (take k rs) → sums + n ≡ sum_by (λ ring. length ring.items) (take (k + 1) rs)
summed_more rs k sums n b h at e was =
    (λ i. was i + (e ∙ ap (λ (z : Buffer ℕ). length z.items) at) i) ∙ sym (sum_by_more (λ (ring : Buffer ℕ). length ring.items) rs k b h)

-- a product of a sum
times-sum : (m a b : ℕ) → m * a + m * b ≡ m * (a + b)
times-sum m a b = grind arith

-- the rings are as the pushes left them
module _ (p : Parameters) (g : List (List ℕ)) (rs : List (Buffer ℕ)) (all : whole p g) (count : length rs + 1 ≡ p.rows)
    (rings : (j : ℕ) (d : Buffer ℕ) → j + 1 < p.rows → (get_or rs j d).items ≡ gathered p g j) where
  -- the first n rings
  first-rings : (n : ℕ) → n ≤ length rs
      → sum_by (λ ring. length ring.items) (take n rs) ≡ positions p.order * sum (tabulate n (λ i. min (held_turns p i) (turns p.rows (length g) i)))
  first-rings zero h = let z : positions p.order * 0 ≡ 0 = omega arith in rw (tabulate-none (λ i. min (held_turns p i) (turns p.rows (length g) i))) (sym z)
  first-rings (suc n) h =
      let f = λ (i : ℕ). min (held_turns p i) (turns p.rows (length g) i) in
      let d : Buffer ℕ = buffer [] 0 in
      let next : suc n ≡ n + 1 = omega arith in
      let row : length (get_or rs n d).items ≡ positions p.order * f n =
      ap (λ (l : List ℕ). length l) (rings n d (omega arith)) ∙ length-gathered p g n (omega arith) all in
      ap (λ (k : ℕ). sum_by (λ (ring : Buffer ℕ). length ring.items) (take k rs)) next
      ∙ sum_by_more (λ (ring : Buffer ℕ). length ring.items) rs n d (omega arith)
      ∙ (λ i. first-rings n (omega arith) i + row i)
      ∙ times-sum (positions p.order) (sum (tabulate n f)) (f n)
      ∙ ap (λ (k : ℕ). positions p.order * k) (sym (sum-tabulate-suc n f))

  -- all rings; the last row has none
  pub all-rings : (n sums : ℕ) → length rs ≤ n → sums ≡ sum_by (λ ring. length ring.items) (take n rs) → sums ≡ held_after p (length g)
  all-rings n sums h e =
      let f = λ (i : ℕ). min (held_turns p i) (turns p.rows (length g) i) in
      let m = length rs in
      let rows : suc m ≡ p.rows = omega arith in
      let left : p.rows - 1 - m ≡ 0 = omega arith in
      let turned : held_turns p m ≡ 0 = ap (λ (k : ℕ). k * p.delay) left ∙ zero-mul p.delay in
      let last : f m ≡ 0 = omega arith in
      let end : sum (tabulate m f) + f m ≡ sum (tabulate m f) = omega arith in
      e
      ∙ ap (λ (l : List (Buffer ℕ)). sum_by (λ (ring : Buffer ℕ). length ring.items) l) (take_all n rs h ∙ sym (take_all m rs (omega arith)))
      ∙ first-rings m (omega arith)
      ∙ ap (λ (k : ℕ). positions p.order * k) (sym (sum-tabulate-suc m f ∙ end))
      ∙ ap (λ (k : ℕ). positions p.order * sum (tabulate k f)) rows
