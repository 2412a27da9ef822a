-- One push of the unweaver.
use Rattle.std.proofs.Common.{◌≡◌, ◌≢◌, ◌<◌, ◌≤◌, ◌+◌, ◌-◌, ◌*◌, ◌/◌, ◌%◌, ℕ, List, [], ◌∷◌, ◌++◌, length, get_or, ap, sym, ◌∙◌, arith, inl, inr, length-append, drop, take, set, All, ◌^◌, eqb, if◌then◌else◌, true, false, min}
use Rattle.std.proofs.lemmas.Bool.{cases_eq, cases_lt, eq-eqb, ne_eqb}
use Rattle.std.proofs.lemmas.Nat.{mul-le, mod_below, div-add-mod', mod-mul-add}
use Rattle.std.proofs.lemmas.List.{append-nil, get_or_push, get_or-set_same, get_or-set_other, length-set, length-drop, length_push, get_or_append_left, drop-append-le, drop-drop, drop_all}
use Rattle.std.proofs.lemmas.List.Elements.{All-append}
use Rattle.circular_buffer.specs.Buffer.{Buffer, keep_last}
use Rattle.std.proofs.Math.Nat.{zero-mul}
use Rattle.hpe_base.specs.Lists.{joined}
use Rattle.hpe_base.specs.Parameters.{Parameters, IsValid, positions, interleaver_depth}
use Rattle.hpe_base.specs.ChannelInterleaver.{delay_at, deinterleaved_channel}
use Rattle.hpe_base.proofs.Tabulated.{joined-more, joined-same, length-joined-each}
use Rattle.hpe_weave.proofs.Channels.{row_at, unchannel_more, unchannel_none}
use Rattle.hpe_weave.specs.Turns.{turns, joined_on_row}
use Rattle.hpe_weave.specs.Unweaving.{held_turns, gathered, HasUnwoven, IsUnweaving}
use Rattle.hpe_weave.proofs.TurnLemmas.{turns-now, turns-more, turns-same, turn_below}
use Rattle.hpe_weave.proofs.WeaverLemmas.{next_row}
use Rattle.hpe_base.proofs.Pieces.{part-joined}

-- the numbers of another row stay
joined_on_row-same : (rows : ℕ) (g : List (List ℕ)) (x : List ℕ) (i : ℕ) → i < rows → length g % rows ≢ i → joined_on_row rows (g ++ x ∷ []) i ≡ joined_on_row rows g i
joined_on_row-same rows g x i h ne =
    ap (λ (n : ℕ). joined n (λ j. get_or (g ++ x ∷ []) (j * rows + i) [])) (ap (λ (n : ℕ). turns rows n i) (length_push g x) ∙ turns-same rows (length g) i ne)
    ∙ joined-same (turns rows (length g) i) (λ j. get_or (g ++ x ∷ []) (j * rows + i) []) (λ j. get_or g (j * rows + i) [])
    (λ j b. get_or_append_left g (x ∷ []) [] (j * rows + i) (turn_below rows (length g) i j h b))

-- the numbers of the row of a push gain those that are pushed
joined_on_row-more : (rows : ℕ) (g : List (List ℕ)) (x : List ℕ) (i : ℕ) → i < rows → length g % rows ≡ i → joined_on_row rows (g ++ x ∷ []) i ≡ joined_on_row rows g i ++ x
joined_on_row-more rows g x i h e =
    let t = turns rows (length g) i in
    let f = λ (j : ℕ). get_or (g ++ x ∷ []) (j * rows + i) [] in
    let place : turns rows (length g) i * rows + i ≡ length g = rw (← e) (turns-now rows (length g) (omega arith)) in
    let last : get_or (g ++ x ∷ []) (t * rows + i) [] ≡ x = get_or_push g x [] (t * rows + i) (sym place) in
    ap (λ (n : ℕ). joined n f) (ap (λ (n : ℕ). turns rows n i) (length_push g x) ∙ turns-more rows (length g) i e)
    ∙ joined-more t f
    ∙ ap (λ (v : List ℕ). joined t f ++ v) last
    ∙ ap (λ (l : List ℕ). l ++ x) (joined-same t f (λ j. get_or g (j * rows + i) [])
    (λ j b. get_or_append_left g (x ∷ []) [] (j * rows + i) (turn_below rows (length g) i j h b)))

-- the last of what was kept and more
pub keep_last-twice : (c : ℕ) (a b : List ℕ) → keep_last c (keep_last c a ++ b) ≡ keep_last c (a ++ b)
keep_last-twice c a b =
    let k = length a - c in
    let e : drop k a ++ b ≡ drop k (a ++ b) = sym (drop-append-le k a b (omega arith)) in
    let l : length (drop k a ++ b) ≡ length a - k + length b = length-append (drop k a) b ∙ ap (λ (n : ℕ). n + length b) (length-drop k a) in
    let n : k + (length (drop k a ++ b) - c) ≡ length (a ++ b) - c = omega (arith, length-append a b) in
    ap (λ (xs : List ℕ). drop (length (drop k a ++ b) - c) xs) e
    ∙ drop-drop (length (drop k a ++ b) - c) k (a ++ b)
    ∙ ap (λ (m : ℕ). drop m (a ++ b)) n

-- a full ring gives its first numbers for as many new ones
pub keep_last-full : (c m : ℕ) (r x : List ℕ) → length r ≡ c → m ≤ c → length x ≡ m → keep_last c (drop m r ++ x) ≡ keep_last c (r ++ x)
keep_last-full c m r x l h e =
    let d : drop m r ++ x ≡ drop m (r ++ x) = sym (drop-append-le m r x (omega arith)) in
    let z : length (drop m r ++ x) - c ≡ 0 = omega (arith, length-append (drop m r) x, length-drop m r) in
    let k : length (r ++ x) - c ≡ m = omega (arith, length-append r x) in
    ap (λ (n : ℕ). drop n (drop m r ++ x)) z ∙ d ∙ ap (λ (n : ℕ). drop n (r ++ x)) (sym k)

-- numbers of rows, turns and delays. n is the turn, w is how many rows come after row i
deep-enough : (w delay n i : ℕ) → (w + i + 1) * (w + i) * delay ≤ n * (w + i + 1) + i → w * delay ≤ n
deep-enough w delay n i d = elim (cases_lt n (w * delay)) [
  | inr ok ↦ ok
  | inl less ↦
      let a : w * delay ≤ (w + i) * delay = mul-le w delay (w + i) delay (omega arith) (omega arith) in
      let b : (n + 1) * (w + i + 1) ≤ (w + i) * delay * (w + i + 1) = mul-le (n + 1) (w + i + 1) ((w + i) * delay) (w + i + 1) (omega arith) (omega arith) in
      absurd (omega arith)
]

-- the place from which a row comes out, by turns
source-row : (w delay m i v len : ℕ) → (m + w * delay) * (w + i + 1) + i ≡ len → v + (w + i + 1) * (w + i) * delay ≡ len
    → m * (w + i + 1) + i ≡ v + i * (w + i + 1) * delay
source-row w delay m i v len e p = omega arith

-- the row that comes out is on the same place of its turn as the one that goes in
pub same-row : (rows k v len : ℕ) → 0 < rows → v + k * rows ≡ len → v % rows ≡ len % rows
same-row rows k v len h e =
    let q : v / rows * rows + v % rows ≡ v = div-add-mod' v rows in
    let s : (v / rows + k) * rows + v % rows ≡ len = omega arith in
    sym (ap (λ (n : ℕ). n % rows) (sym s) ∙ mod-mul-add (v / rows + k) rows (v % rows) (mod_below v rows h))

-- the depth in whole turns
depth-rows : (rows delay : ℕ) → rows * (rows - 1) * delay ≡ (rows - 1) * delay * rows
depth-rows rows delay = let r1 = rows - 1 in omega arith

-- a product of a sum
two-products : (k c m : ℕ) → (k + c) * m ≡ k * m + c * m
two-products k c m = omega arith

-- the list that comes out, and what is enough for it
record IsSource (p : Parameters) (g : List (List ℕ)) (x : List ℕ) (i : ℕ) : Type 0 where
  pub deep : held_turns p i ≤ turns p.rows (length g) i
  pub at : row_at p (g ++ x ∷ []) (length g - interleaver_depth p) ≡ get_or (g ++ x ∷ []) ((turns p.rows (length g) i - held_turns p i) * p.rows + i) []

-- once the depth is reached, the row that comes out is the one of so many turns before
source : (p : Parameters) (g : List (List ℕ)) (x : List ℕ) (i : ℕ) → i < p.rows → length g % p.rows ≡ i → interleaver_depth p ≤ length g → IsSource p g x i
source p g x i h e deep =
    let n = turns p.rows (length g) i in
    let w = p.rows - 1 - i in
    let v = length g - interleaver_depth p in
    let rows : w + i + 1 ≡ p.rows = omega arith in
    let place : n * p.rows + i ≡ length g = rw (← e) (turns-now p.rows (length g) (omega arith)) in
    let all : v + interleaver_depth p ≡ length g = omega arith in
    let r1 : p.rows - 1 ≡ w + i = omega arith in
    let depth : interleaver_depth p ≡ (w + i + 1) * (w + i) * p.delay = (λ k. sym rows k * r1 k * p.delay) in
    let enough : w * p.delay ≤ n = deep-enough w p.delay n i (let a : n * (w + i + 1) + i ≡ length g = ap (λ (r : ℕ). n * r + i) rows ∙ place in omega arith) in
    let m = n - w * p.delay in
    let split : m + w * p.delay ≡ n = omega arith in
    let src : m * (w + i + 1) + i ≡ v + i * (w + i + 1) * p.delay =
    source-row w p.delay m i v (length g) (ap (λ (k : ℕ). k * (w + i + 1) + i) split ∙ ap (λ (r : ℕ). n * r + i) rows ∙ place) (ap (λ (k : ℕ). v + k) (sym depth) ∙ all) in
    let same : v % p.rows ≡ i = same-row p.rows ((p.rows - 1) * p.delay) v (length g) (omega arith) (ap (λ (k : ℕ). v + k) (sym (depth-rows p.rows p.delay)) ∙ all) ∙ e in
    let here : v + delay_at p v ≡ m * p.rows + i =
    (λ k. v + same k * p.rows * p.delay) ∙ sym (ap (λ (r : ℕ). v + i * r * p.delay) rows) ∙ sym src ∙ ap (λ (r : ℕ). m * r + i) rows in
    record { deep = enough; at = ap (λ (k : ℕ). get_or (g ++ x ∷ []) k []) here }

-- each list has a number for each position
abbrev pub whole : Parameters → List (List ℕ) → Type 0
whole p g = All (λ row. length row ≡ positions p.order) g

-- how many numbers came on a row
pub length-on : (p : Parameters) (g : List (List ℕ)) (i : ℕ) → i < p.rows → whole p g → length (joined_on_row p.rows g i) ≡ turns p.rows (length g) i * positions p.order
length-on p g i h all = length-joined-each (turns p.rows (length g) i) (positions p.order) (λ j. get_or g (j * p.rows + i) [])
    (λ k b. all (k * p.rows + i) [] (turn_below p.rows (length g) i k h b))

-- the row that has waited longest on a row with a ring
pub front_row : (p : Parameters) (g : List (List ℕ)) (x : List ℕ) (i : ℕ) → i + 1 < p.rows → 1 ≤ p.delay → length g % p.rows ≡ i → interleaver_depth p ≤ length g → whole p g
    → take (positions p.order) (gathered p g i) ≡ row_at p (g ++ x ∷ []) (length g - interleaver_depth p)
front_row p g x i h low e deep all =
    let n = turns p.rows (length g) i in
    let m = positions p.order in
    let c = held_turns p i in
    let s : IsSource p g x i = source p g x i (omega arith) e deep in
    let f = λ (j : ℕ). get_or g (j * p.rows + i) [] in
    let l : length (joined_on_row p.rows g i) ≡ n * m = length-on p g i (omega arith) all in
    let some : 1 * 1 ≤ c = mul-le 1 1 (p.rows - 1 - i) p.delay (omega arith) low in
    let k = n - c in
    let split : k + c ≡ n = (let d = s.deep in omega arith) in
    let nm : n * m ≡ k * m + c * m = ap (λ (z : ℕ). z * m) (sym split) ∙ two-products k c m in
    let cut : length (joined_on_row p.rows g i) - c * m ≡ k * m = omega arith in
    let below : k * p.rows + i < length g = turn_below p.rows (length g) i k (omega arith) (omega arith) in
    ap (λ (z : ℕ). take m (drop z (joined_on_row p.rows g i))) cut
    ∙ part-joined n m k f (λ j b. all (j * p.rows + i) [] (turn_below p.rows (length g) i j (omega arith) b)) (omega arith)
    ∙ sym (s.at ∙ get_or_append_left g (x ∷ []) [] (k * p.rows + i) below)

-- the last row has no ring
pub last_row : (p : Parameters) (g : List (List ℕ)) (x : List ℕ) (i : ℕ) → i + 1 ≡ p.rows → length g % p.rows ≡ i → interleaver_depth p ≤ length g
    → x ≡ row_at p (g ++ x ∷ []) (length g - interleaver_depth p)
last_row p g x i h e deep =
    let n = turns p.rows (length g) i in
    let s : IsSource p g x i = source p g x i (omega arith) e deep in
    let z : p.rows - 1 - i ≡ 0 = omega arith in
    let c : held_turns p i ≡ 0 = ap (λ (k : ℕ). k * p.delay) z ∙ zero-mul p.delay in
    let place : n * p.rows + i ≡ length g = rw (← e) (turns-now p.rows (length g) (omega arith)) in
    let k : n - held_turns p i ≡ n = omega arith in
    sym (s.at ∙ ap (λ (j : ℕ). get_or (g ++ x ∷ []) (j * p.rows + i) []) k ∙ get_or_push g x [] (n * p.rows + i) (sym place))

-- a row is whole in a ring from which rows come out
room : (p : Parameters) (g : List (List ℕ)) (i : ℕ) → i + 1 < p.rows → 1 ≤ p.delay → length g % p.rows ≡ i → interleaver_depth p ≤ length g → whole p g
    → positions p.order ≤ length (gathered p g i)
room p g i h low e deep all =
    let n = turns p.rows (length g) i in
    let m = positions p.order in
    let c = held_turns p i in
    let s : IsSource p g [] i = source p g [] i (omega arith) e deep in
    let l : length (joined_on_row p.rows g i) ≡ n * m = length-on p g i (omega arith) all in
    let some : 1 * 1 ≤ c = mul-le 1 1 (p.rows - 1 - i) p.delay (omega arith) low in
    let cm : c * m ≤ n * m = mul-le c m n m s.deep (omega arith) in
    let one : 1 * m ≤ c * m = mul-le 1 m c m (omega arith) (omega arith) in
    omega (arith, length-drop (length (joined_on_row p.rows g i) - c * m) (joined_on_row p.rows g i))

-- what is read from a ring that gives a row
pub row_read : (p : Parameters) (g : List (List ℕ)) (x r out : List ℕ) (i : ℕ) → i + 1 < p.rows → 1 ≤ p.delay → length g % p.rows ≡ i → interleaver_depth p ≤ length g → whole p g
    → length out ≡ positions p.order → r ≡ gathered p g i
    → take (length out) r ++ drop (min (length out) (length r)) out ≡ row_at p (g ++ x ∷ []) (length g - interleaver_depth p)
row_read p g x r out i h low e deep all lo er =
    let fits : positions p.order ≤ length (gathered p g i) = room p g i h low e deep all in
    let lr : length r ≡ length (gathered p g i) = ap (λ (l : List ℕ). length l) er in
    let m : min (length out) (length r) ≡ length out = omega arith in
    ap (λ (n : ℕ). take (length out) r ++ drop n out) m
    ∙ ap (λ (l : List ℕ). take (length out) r ++ l) (drop_all (length out) out (omega arith))
    ∙ append-nil (take (length out) r)
    ∙ ap (λ (n : ℕ). take n r) lo ∙ ap (λ (l : List ℕ). take (positions p.order) l) er
    ∙ front_row p g x i h low e deep all

-- what a ring holds after a push on its row, while rows still gather
pub gathers : (p : Parameters) (g : List (List ℕ)) (x : List ℕ) (i : ℕ) → i < p.rows → length g % p.rows ≡ i
    → keep_last (held_turns p i * positions p.order) (gathered p g i ++ x) ≡ gathered p (g ++ x ∷ []) i
gathers p g x i h e =
    keep_last-twice (held_turns p i * positions p.order) (joined_on_row p.rows g i) x
    ∙ ap (λ (l : List ℕ). keep_last (held_turns p i * positions p.order) l) (sym (joined_on_row-more p.rows g x i h e))

-- and once rows come out
pub gathers_due : (p : Parameters) (g : List (List ℕ)) (x : List ℕ) (i : ℕ) → i + 1 < p.rows → 1 ≤ p.delay → length g % p.rows ≡ i → interleaver_depth p ≤ length g
    → whole p g → length x ≡ positions p.order
    → keep_last (held_turns p i * positions p.order) (drop (positions p.order) (gathered p g i) ++ x) ≡ gathered p (g ++ x ∷ []) i
gathers_due p g x i h low e deep all lx =
    let n = turns p.rows (length g) i in
    let m = positions p.order in
    let c = held_turns p i in
    let s : IsSource p g x i = source p g x i (omega arith) e deep in
    let l : length (joined_on_row p.rows g i) ≡ n * m = length-on p g i (omega arith) all in
    let some : 1 * 1 ≤ c = mul-le 1 1 (p.rows - 1 - i) p.delay (omega arith) low in
    let cm : c * m ≤ n * m = mul-le c m n m s.deep (omega arith) in
    let one : 1 * m ≤ c * m = mul-le 1 m c m (omega arith) (omega arith) in
    let full : length (gathered p g i) ≡ c * m = omega (arith, length-drop (length (joined_on_row p.rows g i) - c * m) (joined_on_row p.rows g i)) in
    keep_last-full (c * m) m (gathered p g i) x full (omega arith) lx
    ∙ gathers p g x i (omega arith) e

-- a push on another row
pub gathers_other : (p : Parameters) (g : List (List ℕ)) (x : List ℕ) (i : ℕ) → i < p.rows → length g % p.rows ≢ i → gathered p (g ++ x ∷ []) i ≡ gathered p g i
gathers_other p g x i h ne = ap (λ (l : List ℕ). keep_last (held_turns p i * positions p.order) l) (joined_on_row-same p.rows g x i h ne)

-- where no push has to wait any more, the depth is reached
pub ends-soon : (wait depth len : ℕ) → wait ≡ depth - len → wait ≡ 0 → depth ≤ len
ends-soon wait depth len e z = omega arith

-- what a push leaves in the ring of its row
pub ring_after : (p : Parameters) (g : List (List ℕ)) (x : List ℕ) (t wait : ℕ) (r : List ℕ) → t + 1 < p.rows → 1 ≤ p.delay → length g % p.rows ≡ t → wait ≡ interleaver_depth p - length g
    → whole p g → length x ≡ positions p.order → r ≡ gathered p g t
    → keep_last (held_turns p t * positions p.order) ((if eqb wait 0 then drop (positions p.order) r else r) ++ x) ≡ gathered p (g ++ x ∷ []) t
ring_after p g x t wait r h low e w all lx er =
    elim (cases_eq wait 0) [
      | inl z ↦
          let b : eqb wait 0 ≡ true = eq-eqb wait 0 z in
          let deep : interleaver_depth p ≤ length g = ends-soon wait (interleaver_depth p) (length g) w z in
          rw (b, er) (gathers_due p g x t h low e deep all lx)
      | inr nz ↦
          let b : eqb wait 0 ≡ false = ne_eqb wait 0 nz in
          rw (b, er) (gathers p g x t (omega arith) e)
    ]

-- all lists of one list
one : (x : List ℕ) (n : ℕ) → length x ≡ n → All (λ row. length row ≡ n) (x ∷ [])
one x n e = λ k d h. let z : k ≡ 0 = omega arith in rw z e

-- a push on any row
pub unstep : (p : Parameters) (rs after : List (Buffer ℕ)) (t next wait less : ℕ) (g : List (List ℕ)) (x : List ℕ)
    → next ≡ (t + 1) % p.rows → less ≡ wait - 1 → length x ≡ positions p.order
    → ((j : ℕ) (d : Buffer ℕ) → j ≢ t → get_or after j d ≡ get_or rs j d)
    → ((d : Buffer ℕ) → t + 1 < p.rows → (get_or after t d).items ≡ gathered p (g ++ x ∷ []) t)
    → HasUnwoven (record { parameters = p; rings = rs; turn = t; wait = wait }) g
    → HasUnwoven (record { parameters = p; rings = after; turn = next; wait = less }) (g ++ x ∷ [])
unstep p rs after t next wait less g x r el lx others here was =
    let l : length (g ++ x ∷ []) ≡ length g + 1 = length_push g x in
    let w : wait ≡ interleaver_depth p - length g = was.wait in
    let tt : t ≡ length g % p.rows = was.turn in
    record {
      whole = All-append (λ (row : List ℕ). length row ≡ positions p.order) g (x ∷ []) was.whole (one x (positions p.order) lx);
      turn = next_row p.rows (length g) t next was.turn r ∙ ap (λ (n : ℕ). n % p.rows) (sym (length_push g x));
      wait = omega arith;
      rings = λ j d hj. elim (cases_eq j t) [
        | inl same ↦ ap (λ (i : ℕ). (get_or after i d).items) same ∙ here d (omega arith) ∙ ap (λ (i : ℕ). gathered p (g ++ x ∷ []) i) (sym same)
        | inr other ↦ ap (λ (b : Buffer ℕ). b.items) (others j d other) ∙ was.rings j d hj ∙ sym (gathers_other p g x j (omega arith) (let q : length g % p.rows ≢ j = omega arith in q))
      ];
    }

-- the rows that come out: at most one more
pub rows_after : (p : Parameters) (g : List (List ℕ)) (x y : List ℕ) (wait : ℕ) → 0 < p.rows → wait ≡ interleaver_depth p - length g
    → (wait ≡ 0 → y ≡ row_at p (g ++ x ∷ []) (length g - interleaver_depth p))
    → deinterleaved_channel p [] (g ++ x ∷ []) ≡ deinterleaved_channel p [] g ++ (if eqb wait 0 then y ∷ [] else [])
rows_after p g x y wait pos w due =
    elim (cases_eq wait 0) [
      | inl z ↦
          let b : eqb wait 0 ≡ true = eq-eqb wait 0 z in
          let deep : interleaver_depth p ≤ length g = ends-soon wait (interleaver_depth p) (length g) w z in
          rw (b, due z) (unchannel_more p g x pos deep)
      | inr nz ↦
          let b : eqb wait 0 ≡ false = ne_eqb wait 0 nz in
          let l : length (g ++ x ∷ []) ≡ length g + 1 = length_push g x in
          rw b (unchannel_none p (g ++ x ∷ []) (omega arith) ∙ sym (append-nil (deinterleaved_channel p [] g) ∙ unchannel_none p g (omega arith)))
    ]

-- a push keeps what every unweaver keeps
pub capacity_kept : (p : Parameters) (rs : List (Buffer ℕ)) (b : Buffer ℕ) (t next wait less : ℕ) → next < p.rows → t < length rs → ((d : Buffer ℕ) → b.capacity ≡ (get_or rs t d).capacity)
    → IsUnweaving (record { parameters = p; rings = rs; turn = t; wait = wait }) → IsUnweaving (record { parameters = p; rings = set rs t b; turn = next; wait = less })
capacity_kept p rs b t next wait less h inside same i = record {
  rows_low = i.rows_low;
  rows_high = i.rows_high;
  delay_low = i.delay_low;
  depth = i.depth;
  turn_in = h;
  count = (let c : length rs + 1 ≡ p.rows = i.count in omega (arith, length-set rs t b));
  capacity = λ j d hj. elim (cases_eq j t) [
    | inl e ↦ ap (λ (k : ℕ). (get_or (set rs t b) k d).capacity) e ∙ ap (λ (z : Buffer ℕ). z.capacity) (get_or-set_same rs t b d inside) ∙ same d
        ∙ ap (λ (k : ℕ). (get_or rs k d).capacity) (sym e) ∙ i.capacity j d hj
    | inr ne ↦ ap (λ (z : Buffer ℕ). z.capacity) (get_or-set_other rs t j b d ne) ∙ i.capacity j d hj
  ];
}

-- what a row holds back is at most the depth, and so many numbers are few
held_turns-le : (p : Parameters) (i : ℕ) → 1 ≤ p.rows → held_turns p i ≤ interleaver_depth p
held_turns-le p i low =
    let more : 1 * (p.rows - 1) ≤ p.rows * (p.rows - 1) = mul-le 1 (p.rows - 1) p.rows (p.rows - 1) low (omega arith) in
    mul-le (p.rows - 1 - i) p.delay (p.rows * (p.rows - 1)) p.delay (omega arith) (omega arith)

pub room-le : (p : Parameters) (i : ℕ) → 1 ≤ p.rows → interleaver_depth p * positions p.order ≤ 2 ^ 26 → held_turns p i * positions p.order ≤ 2 ^ 26
room-le p i low depth =
    let fewer : held_turns p i * positions p.order ≤ interleaver_depth p * positions p.order =
    mul-le (held_turns p i) (positions p.order) (interleaver_depth p) (positions p.order) (held_turns-le p i low) (omega arith) in
    omega arith

-- the rings that are made so far: each is empty, and has room for what its row holds back
pub record AreMadeEmpty (p : Parameters) (row : ℕ) (rs : List (Buffer ℕ)) : Type 0 where
  pub count : length rs + 1 ≡ row
  pub items : (j : ℕ) (d : Buffer ℕ) → j + 1 < row → (get_or rs j d).items ≡ []
  pub capacity : (j : ℕ) (d : Buffer ℕ) → j + 1 < row → (get_or rs j d).capacity ≡ held_turns p j * positions p.order

-- one ring more
pub made_empty_more : (p : Parameters) (row : ℕ) (rs : List (Buffer ℕ)) (b : Buffer ℕ) → AreMadeEmpty p row rs → b.items ≡ [] → b.capacity ≡ (p.rows - row) * p.delay * positions p.order
    → AreMadeEmpty p (row + 1) (rs ++ b ∷ [])
made_empty_more p row rs b m items capacity =
    let count : length rs + 1 ≡ row = m.count in
    record {
      count = (let l : length (rs ++ b ∷ []) ≡ length rs + 1 = length_push rs b in omega arith);
      items = λ j d h. elim (cases_lt j (length rs)) [
        | inl less ↦ ap (λ (z : Buffer ℕ). z.items) (get_or_append_left rs (b ∷ []) d j less) ∙ m.items j d (omega arith)
        | inr more ↦ (let e : length rs ≡ j = omega arith in ap (λ (z : Buffer ℕ). z.items) (get_or_push rs b d j e) ∙ items)
      ];
      capacity = λ j d h. elim (cases_lt j (length rs)) [
        | inl less ↦ ap (λ (z : Buffer ℕ). z.capacity) (get_or_append_left rs (b ∷ []) d j less) ∙ m.capacity j d (omega arith)
        | inr more ↦ (let e : length rs ≡ j = omega arith in let k : p.rows - row ≡ p.rows - 1 - j = omega arith in
            ap (λ (z : Buffer ℕ). z.capacity) (get_or_push rs b d j e) ∙ capacity ∙ ap (λ (i : ℕ). i * p.delay * positions p.order) k)
      ];
    }

-- all rings make an unweaver
pub made_unweaving : (p : Parameters) (rs : List (Buffer ℕ)) (wait : ℕ) → IsValid p → AreMadeEmpty p p.rows rs → IsUnweaving (record { parameters = p; rings = rs; turn = 0; wait = wait })
made_unweaving p rs wait valid m = record {
  rows_low = valid.range.rows_low;
  rows_high = valid.range.rows_high;
  delay_low = valid.range.delay_low;
  depth = valid.depth;
  turn_in = (let low : 1 ≤ p.rows = valid.range.rows_low in omega arith);
  count = m.count;
  capacity = m.capacity;
}

-- before the first push nothing waits
gathered-none : (p : Parameters) (i : ℕ) → gathered p [] i ≡ []
unfolding joined turns
gathered-none p i = drop_all (0 - held_turns p i * positions p.order) [] (omega arith)

-- as it is before the first push
pub made_unwoven : (p : Parameters) (rs : List (Buffer ℕ)) (wait : ℕ) → 1 ≤ p.rows → wait ≡ interleaver_depth p → AreMadeEmpty p p.rows rs
    → HasUnwoven (record { parameters = p; rings = rs; turn = 0; wait = wait }) []
made_unwoven p rs wait pos w m = record {
  whole = λ k d h. absurd (omega arith);
  turn = (let z : 0 ≡ 0 % p.rows = omega arith in z);
  wait = (let none : interleaver_depth p - 0 ≡ interleaver_depth p = omega arith in w ∙ sym none);
  rings = λ j d h. m.items j d h ∙ sym (gathered-none p j);
}
