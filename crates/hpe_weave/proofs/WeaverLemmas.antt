-- One push of the weaver.
use Rattle.std.proofs.Common.{◌≡◌, ◌≢◌, ◌<◌, ◌≤◌, ◌+◌, ◌-◌, ◌*◌, ◌%◌, ℕ, List, [], ◌∷◌, ◌++◌, length, get_or, refl, ap, sym, ◌∙◌, arith, inl, inr, length-append, drop, nat_le, append_assoc, set}
use Rattle.std.proofs.Math.Nat.{mod-add-mod}
use Rattle.std.proofs.lemmas.Bool.{cases_eq, cases_lt, le-leb, lt-leb, cond-true, cond-false}
use Rattle.std.proofs.lemmas.Nat.{mul-le}
use Rattle.std.proofs.lemmas.List.{nil_from_length, append-nil, get_or_push, get_or-set_same, get_or-set_other, length-drop, length_push, get_or_append_left, get_or-append_right, drop_more, drop-append-le}
use Rattle.circular_buffer.specs.Buffer.{Buffer, keep_last}
use Rattle.hpe_base.specs.Bits.{zeros}
use Rattle.hpe_base.specs.Parameters.{Parameters}
use Rattle.hpe_base.specs.ChannelInterleaver.{delay_at, channel_at}
use Rattle.hpe_base.proofs.BitLists.{length-zeros, get_or-zeros}
use Rattle.hpe_base.proofs.Tabulated.{length-tabulate, get_or-tabulate}
use Rattle.hpe_weave.specs.Turns.{turns, on_row}
use Rattle.hpe_weave.specs.Weaving.{waiting, HasWoven, IsWeaving}
use Rattle.hpe_weave.proofs.TurnLemmas.{on_row-same, on_row-more, turns-now, turns-more}

-- how many values came on a row
pub length-on_row : (rows : ℕ) (s : List ℕ) (i : ℕ) → length (on_row rows s i) ≡ turns rows (length s) i
length-on_row rows s i = length-tabulate (turns rows (length s) i) (λ j. get_or s (j * rows + i) 0)

-- a list whose first n items are dropped, with one item more behind, and its first item
record Goes (xs : List ℕ) (x n y : ℕ) (ys : List ℕ) : Type 0 where
  pub head : y ≡ get_or (xs ++ x ∷ []) n 0
  pub tail : ys ≡ drop (n + 1) (xs ++ x ∷ [])

-- both follow from a push that goes through a full ring
goes : (xs : List ℕ) (x n y : ℕ) (ys : List ℕ) → n ≤ length xs → y ∷ ys ≡ drop n xs ++ x ∷ [] → Goes xs x n y ys
goes xs x n y ys h e =
    let a : drop n (xs ++ x ∷ []) ≡ drop n xs ++ x ∷ [] = drop-append-le n xs (x ∷ []) h in
    let l : length (xs ++ x ∷ []) ≡ length xs + 1 = length_push xs x in
    let b : drop n (xs ++ x ∷ []) ≡ get_or (xs ++ x ∷ []) n 0 ∷ drop (n + 1) (xs ++ x ∷ []) = drop_more (xs ++ x ∷ []) n 0 (omega arith) in
    record { head = cc; tail = cc }

-- what waits, without keep_last
waiting_is : (p : Parameters) (s : List ℕ) (i : ℕ) → waiting p s i ≡ drop (turns p.rows (length s) i) (zeros (i * p.delay) ++ on_row p.rows s i)
waiting_is p s i =
    let l : length (zeros (i * p.delay) ++ on_row p.rows s i) ≡ i * p.delay + turns p.rows (length s) i =
    length-append (zeros (i * p.delay)) (on_row p.rows s i) ∙ (λ k. length-zeros (i * p.delay) k + length-on_row p.rows s i k) in
    let e : length (zeros (i * p.delay) ++ on_row p.rows s i) - i * p.delay ≡ turns p.rows (length s) i = omega arith in
    ap (λ (n : ℕ). drop n (zeros (i * p.delay) ++ on_row p.rows s i)) e

-- how many symbols wait on a row
pub length-waiting : (p : Parameters) (s : List ℕ) (i : ℕ) → length (waiting p s i) ≡ i * p.delay
length-waiting p s i =
    let l : length (zeros (i * p.delay) ++ on_row p.rows s i) ≡ i * p.delay + turns p.rows (length s) i =
    length-append (zeros (i * p.delay)) (on_row p.rows s i) ∙ (λ k. length-zeros (i * p.delay) k + length-on_row p.rows s i k) in
    omega (arith, length-drop (length (zeros (i * p.delay) ++ on_row p.rows s i) - i * p.delay) (zeros (i * p.delay) ++ on_row p.rows s i))

-- products of the rows, the delay and the turns
turn-far : (n i rows b c : ℕ) → n < i * b → i < rows → n * rows + i ≡ c → c < i * rows * b
turn-far n i rows b c h hi e = omega (arith, mul-le (n + 1) rows (i * b) rows (omega arith) (omega arith))

turn-near : (m i rows b c : ℕ) → (m + i * b) * rows + i ≡ c → m * rows + i + i * rows * b ≡ c
turn-near m i rows b c e = omega arith

-- the symbol that comes out of a row
out_of : (p : Parameters) (s : List ℕ) (x i n : ℕ) → i < p.rows → length s % p.rows ≡ i → n ≡ turns p.rows (length s) i
    → get_or ((zeros (i * p.delay) ++ on_row p.rows s i) ++ x ∷ []) n 0 ≡ channel_at p (s ++ x ∷ []) (length s)
out_of p s x i n h e en =
    let rows = p.rows in
    let c = i * p.delay in
    let place : n * p.rows + i ≡ length s = rw (en, ← e) (turns-now p.rows (length s) (omega arith)) in
    let more : on_row p.rows (s ++ x ∷ []) i ≡ on_row p.rows s i ++ x ∷ [] = on_row-more p.rows s x i h e in
    let count : turns p.rows (length (s ++ x ∷ [])) i ≡ n + 1 = ap (λ (k : ℕ). turns p.rows k i) (length_push s x) ∙ turns-more p.rows (length s) i e ∙ ap (λ (k : ℕ). k + 1) (sym en) in
    let delay : delay_at p (length s) ≡ i * p.rows * p.delay = ap (λ (k : ℕ). k * p.rows * p.delay) e in
    let before : (zeros (i * p.delay) ++ on_row p.rows s i) ++ x ∷ [] ≡ zeros (i * p.delay) ++ on_row p.rows (s ++ x ∷ []) i =
    append_assoc (zeros (i * p.delay)) (on_row p.rows s i) (x ∷ []) ∙ ap (λ (l : List ℕ). zeros (i * p.delay) ++ l) (sym more) in
    ap (λ (l : List ℕ). get_or l n 0) before ∙
    elim (cases_lt n (i * p.delay)) [
      | inl none ↦
          let far : length s < i * p.rows * p.delay = turn-far n i p.rows p.delay (length s) none h place in
          get_or_append_left (zeros (i * p.delay)) (on_row p.rows (s ++ x ∷ []) i) 0 n (let l = length-zeros (i * p.delay) in omega arith)
          ∙ get_or-zeros (i * p.delay) n
          ∙ sym (cond-false (nat_le (delay_at p (length s)) (length s)) (get_or (s ++ x ∷ []) (length s - delay_at p (length s)) 0) 0 (lt-leb (delay_at p (length s)) (length s) (omega arith)))
      | inr some ↦
          let m = n - i * p.delay in
          let split : m + i * p.delay ≡ n = omega arith in
          let at : m * p.rows + i + i * p.rows * p.delay ≡ length s = turn-near m i p.rows p.delay (length s) (rw split place) in
          get_or-append_right (zeros (i * p.delay)) (on_row p.rows (s ++ x ∷ []) i) (i * p.delay) n 0 (length-zeros (i * p.delay)) some
          ∙ get_or-tabulate (turns p.rows (length (s ++ x ∷ [])) i) (λ j. get_or (s ++ x ∷ []) (j * p.rows + i) 0) (n - i * p.delay) 0 (omega arith)
          ∙ ap (λ (k : ℕ). get_or (s ++ x ∷ []) k 0) (let a : m * p.rows + i ≡ length s - delay_at p (length s) = omega arith in a)
          ∙ sym (cond-true (nat_le (delay_at p (length s)) (length s)) (get_or (s ++ x ∷ []) (length s - delay_at p (length s)) 0) 0 (le-leb (delay_at p (length s)) (length s) (omega arith)))
    ]

-- a ring takes one more symbol of its row
pub record Passes (p : Parameters) (s : List ℕ) (x i y : ℕ) (ys : List ℕ) : Type 0 where
  pub out : y ≡ channel_at p (s ++ x ∷ []) (length s)
  pub left : ys ≡ waiting p (s ++ x ∷ []) i

-- what comes out, and what is left, by the channel interleaver
pub passes : (p : Parameters) (s : List ℕ) (x i y : ℕ) (xs ys : List ℕ) → i < p.rows → length s % p.rows ≡ i
    → xs ≡ waiting p s i → y ∷ ys ≡ xs ++ x ∷ [] → Passes p s x i y ys
passes p s x i y xs ys h e was moved =
    let n = turns p.rows (length s) i in
    let all = zeros (i * p.delay) ++ on_row p.rows s i in
    let fits : turns p.rows (length s) i ≤ length (zeros (i * p.delay) ++ on_row p.rows s i) =
    omega (arith, length-append (zeros (i * p.delay)) (on_row p.rows s i), length-on_row p.rows s i) in
    let g : Goes all x n y ys = goes all x n y ys fits (moved ∙ ap (λ (l : List ℕ). l ++ x ∷ []) (was ∙ waiting_is p s i)) in
    let count : turns p.rows (length (s ++ x ∷ [])) i ≡ n + 1 = ap (λ (k : ℕ). turns p.rows k i) (length_push s x) ∙ turns-more p.rows (length s) i e in
    let lists : all ++ x ∷ [] ≡ zeros (i * p.delay) ++ on_row p.rows (s ++ x ∷ []) i =
    append_assoc (zeros (i * p.delay)) (on_row p.rows s i) (x ∷ []) ∙ ap (λ (l : List ℕ). zeros (i * p.delay) ++ l) (sym (on_row-more p.rows s x i h e)) in
    record {
      out = g.head ∙ out_of p s x i n h e refl;
      left = g.tail ∙ ap (λ (l : List ℕ). drop (n + 1) l) lists ∙ ap (λ (k : ℕ). drop k (zeros (i * p.delay) ++ on_row p.rows (s ++ x ∷ []) i)) (sym count)
          ∙ sym (waiting_is p (s ++ x ∷ []) i);
    }

-- the first row has no ring
pub passes_straight : (p : Parameters) (s : List ℕ) (x : ℕ) → 0 < p.rows → length s % p.rows ≡ 0 → x ≡ channel_at p (s ++ x ∷ []) (length s)
passes_straight p s x h e = (passes p s x 0 x [] [] h e (sym (nil_from_length (waiting p s 0) (let l = length-waiting p s 0 in omega arith))) refl).out

-- the rings of the other rows
pub waits : (p : Parameters) (s : List ℕ) (x i : ℕ) → i < p.rows → length s % p.rows ≢ i → waiting p (s ++ x ∷ []) i ≡ waiting p s i
waits p s x i h ne = ap (λ (l : List ℕ). keep_last (i * p.delay) (zeros (i * p.delay) ++ l)) (on_row-same p.rows s x i h ne)

-- the row of the next push
pub next_row : (rows n t next : ℕ) → t ≡ n % rows → next ≡ (t + 1) % rows → next ≡ (n + 1) % rows
next_row rows n t next e r = r ∙ ap (λ (k : ℕ). (k + 1) % rows) e ∙ mod-add-mod n rows 1

-- a push on the first row
pub step_straight : (p : Parameters) (rs : List (Buffer ℕ)) (t next x : ℕ) (s : List ℕ) → t ≡ 0 → 0 < p.rows → next ≡ (t + 1) % p.rows
    → HasWoven (record { parameters = p; rings = rs; turn = t }) s → HasWoven (record { parameters = p; rings = rs; turn = next }) (s ++ x ∷ [])
step_straight p rs t next x s z pos r was = record {
  turn = next_row p.rows (length s) t next was.turn r ∙ ap (λ (n : ℕ). n % p.rows) (sym (length_push s x));
  rings = λ j d h. let e : length s % p.rows ≢ j + 1 = (let w : t ≡ length s % p.rows = was.turn in omega arith) in was.rings j d h ∙ sym (waits p s x (j + 1) h e);
}

-- what a push that goes through a ring gives
pub record Stepped (p : Parameters) (rs : List (Buffer ℕ)) (next x y : ℕ) (s : List ℕ) : Type 0 where
  pub out : y ≡ channel_at p (s ++ x ∷ []) (length s)
  pub woven : HasWoven (record { parameters = p; rings = rs; turn = next }) (s ++ x ∷ [])

-- a push on a row with a ring
pub step_ring : (p : Parameters) (rs : List (Buffer ℕ)) (b : Buffer ℕ) (t next x y : ℕ) (s : List ℕ) → 0 < t → t < p.rows → length rs + 1 ≡ p.rows → next ≡ (t + 1) % p.rows
    → y ∷ b.items ≡ (get_or rs (t - 1) b).items ++ x ∷ []
    → HasWoven (record { parameters = p; rings = rs; turn = t }) s → Stepped p (set rs (t - 1) b) next x y s
step_ring p rs b t next x y s pos h count r moved was =
    let w : t ≡ length s % p.rows = was.turn in
    let k : t - 1 + 1 ≡ t = omega arith in
    let here : (get_or rs (t - 1) b).items ≡ waiting p s t = was.rings (t - 1) b (omega arith) ∙ ap (λ (i : ℕ). waiting p s i) k in
    let g : Passes p s x t y b.items = passes p s x t y (get_or rs (t - 1) b).items b.items h (sym w) here moved in
    record {
      out = g.out;
      woven = record {
        turn = next_row p.rows (length s) t next was.turn r ∙ ap (λ (n : ℕ). n % p.rows) (sym (length_push s x));
        rings = λ j d hj. elim (cases_eq j (t - 1)) [
          | inl same ↦ ap (λ (i : ℕ). (get_or (set rs (t - 1) b) i d).items) same
              ∙ ap (λ (z : Buffer ℕ). z.items) (get_or-set_same rs (t - 1) b d (omega arith))
              ∙ g.left ∙ ap (λ (i : ℕ). waiting p (s ++ x ∷ []) i) (let q : t ≡ j + 1 = omega arith in q)
          | inr other ↦ ap (λ (z : Buffer ℕ). z.items) (get_or-set_other rs (t - 1) j b d other)
              ∙ was.rings j d hj ∙ sym (waits p s x (j + 1) hj (let q : length s % p.rows ≢ j + 1 = omega arith in q))
        ];
      };
    }

-- no turns before the first push
turns-of-none : (rows i : ℕ) → turns rows (length {A = ℕ} []) i ≡ 0
unfolding turns
turns-of-none rows i = refl

-- before the first push only zeros wait
pub waiting-none : (p : Parameters) (i : ℕ) → waiting p [] i ≡ zeros (i * p.delay)
waiting-none p i =
    waiting_is p [] i
    ∙ ap (λ (n : ℕ). drop n (zeros (i * p.delay) ++ on_row p.rows [] i)) (turns-of-none p.rows i)
    ∙ ap (λ (l : List ℕ). zeros (i * p.delay) ++ l) (nil_from_length (on_row p.rows [] i) (length-on_row p.rows [] i ∙ turns-of-none p.rows i))
    ∙ append-nil (zeros (i * p.delay))

-- the rings that are made so far: each is full of zeros
pub record AreMade (delay row : ℕ) (rs : List (Buffer ℕ)) : Type 0 where
  pub count : length rs + 1 ≡ row
  pub items : (j : ℕ) (d : Buffer ℕ) → j + 1 < row → (get_or rs j d).items ≡ zeros ((j + 1) * delay)
  pub capacity : (j : ℕ) (d : Buffer ℕ) → j + 1 < row → (get_or rs j d).capacity ≡ (j + 1) * delay

-- one ring more
pub made_more : (delay row : ℕ) (rs : List (Buffer ℕ)) (b : Buffer ℕ) → AreMade delay row rs → b.items ≡ zeros (row * delay) → b.capacity ≡ row * delay → AreMade delay (row + 1) (rs ++ b ∷ [])
made_more delay row rs b m items capacity =
    let n = length rs in
    let count : length rs + 1 ≡ row = m.count in
    record {
      count = (let l : length (rs ++ b ∷ []) ≡ length rs + 1 = length_push rs b in omega arith);
      items = λ j d h. elim (cases_lt j (length rs)) [
        | inl less ↦ ap (λ (z : Buffer ℕ). z.items) (get_or_append_left rs (b ∷ []) d j less) ∙ m.items j d (omega arith)
        | inr more ↦ (let e : length rs ≡ j = omega arith in let k : row ≡ j + 1 = omega arith in
            ap (λ (z : Buffer ℕ). z.items) (get_or_push rs b d j e) ∙ items ∙ ap (λ (i : ℕ). zeros (i * delay)) k)
      ];
      capacity = λ j d h. elim (cases_lt j (length rs)) [
        | inl less ↦ ap (λ (z : Buffer ℕ). z.capacity) (get_or_append_left rs (b ∷ []) d j less) ∙ m.capacity j d (omega arith)
        | inr more ↦ (let e : length rs ≡ j = omega arith in let k : row ≡ j + 1 = omega arith in
            ap (λ (z : Buffer ℕ). z.capacity) (get_or_push rs b d j e) ∙ capacity ∙ ap (λ (i : ℕ). i * delay) k)
      ];
    }

-- all rings make a weaver
pub made_weaving : (p : Parameters) (rs : List (Buffer ℕ)) → 1 ≤ p.rows → AreMade p.delay p.rows rs → IsWeaving (record { parameters = p; rings = rs; turn = 0 })
made_weaving p rs pos m = record {
  rows_low = pos;
  turn_in = omega arith;
  count = m.count;
  capacity = m.capacity;
  full = λ j d h. ap (λ (l : List ℕ). length l) (m.items j d h) ∙ length-zeros ((j + 1) * p.delay) ∙ sym (m.capacity j d h);
}

-- as it is before the first push
pub made_woven : (p : Parameters) (rs : List (Buffer ℕ)) → 1 ≤ p.rows → AreMade p.delay p.rows rs → HasWoven (record { parameters = p; rings = rs; turn = 0 }) []
made_woven p rs pos m = record {
  turn = (let z : 0 ≡ 0 % p.rows = omega arith in z);
  rings = λ j d h. m.items j d h ∙ sym (waiting-none p (j + 1));
}
