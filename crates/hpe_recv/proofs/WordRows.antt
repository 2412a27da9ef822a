-- The words as their rows come, one after another.
use Rattle.std.proofs.Common.{Vec, Global, ◌≡◌, ◌≤◌, ◌<◌, ◌+◌, ◌-◌, ◌*◌, ◌%◌, ◌++◌, ◌∷◌, [], ℕ, List, length, take, map, ap, sym, ◌∙◌, arith, append-nil, length-append}
use Rattle.std.specs.List.{flat_map}
use Rattle.std.specs.Vec.{with_items}
use borrow.Rule.Slice.PartMut.{put_mid}
use Rattle.std.proofs.lemmas.Nat.{mul-le}
use Rattle.std.proofs.lemmas.List.{map_push, length_push, length-take, length-drop, take_all, with_items_is}
use Rattle.std.proofs.lemmas.List.Concat.{flat_map-append}
use Rattle.std.proofs.lemmas.Slice.{take-put_mid, take-put_mid_below}
use Rattle.hpe_base.specs.Parameters.{Parameters, positions, codeword_symbols}
use Rattle.hpe_base.specs.ReceivedWords.{groups_of}
use Rattle.hpe_base.specs.Rounds.{Verdict, verdict_of}
use Rattle.hpe_recv.specs.Settled.{verdicts_on}
use Rattle.hpe_recv.specs.Streaming.{HasWord, begun}
use Rattle.hpe_recv.proofs.Groups.{begun_more, begun_none, groups_more}
use Rattle.hpe_base.proofs.Groups.{within, last, groups_same}

-- the sums of lists of rows
abbrev pub sums_of : List (List ℕ) → List ℕ
sums_of rows = flat_map (λ sums. sums) rows

-- the sums of one row more
sums_push : (rows : List (List ℕ)) (row : List ℕ) → sums_of rows ++ row ≡ sums_of (rows ++ row ∷ [])
sums_push rows row =
    sym (flat_map-append (λ (sums : List ℕ). sums) rows (row ∷ []) ∙ ap (λ (l : List ℕ). sums_of rows ++ l) (append-nil row))

-- the verdicts on words
abbrev verdicts : Parameters → List (List (List ℕ)) → List Verdict
verdicts p words = map (λ word. verdict_of p (sums_of word)) words

-- a row with which no word is whole gives no verdict
pub verdicts_begun : (p : Parameters) (rows : List (List ℕ)) (row : List ℕ) → length rows % codeword_symbols p.order + 1 < codeword_symbols p.order
    → verdicts_on p (rows ++ row ∷ []) ≡ verdicts_on p rows
unfolding verdicts_on
verdicts_begun p rows row h = ap (verdicts p) (groups_same (codeword_symbols p.order) rows row h)

-- the row with which a word is whole gives its verdict
pub verdicts_word : (p : Parameters) (rows : List (List ℕ)) (row : List ℕ) → length rows % codeword_symbols p.order + 1 ≡ codeword_symbols p.order
    → verdicts_on p (rows ++ row ∷ []) ≡ verdicts_on p rows ++ verdict_of p (sums_of (begun (codeword_symbols p.order) rows) ++ row) ∷ []
unfolding verdicts_on
verdicts_word p rows row h =
    let n = codeword_symbols p.order in
    let groups = groups_of n rows in
    let word = begun n rows ++ row ∷ [] in
    ap (verdicts p) (groups_more n rows row h)
    ∙ map_push (λ (w : List (List ℕ)). verdict_of p (sums_of w)) groups word
    ∙ ap (λ (s : List ℕ). verdicts p groups ++ verdict_of p s ∷ []) (sym (sums_push (begun n rows) row))

-- no row is in the place of a word
pub take_none : (m : ℕ) (sums : List ℕ) → take (0 * m) sums ≡ []
take_none m sums = let z : 0 * m ≡ 0 = omega arith in ap (λ (k : ℕ). take k sums) z

-- a row more in the word that is begun
pub word_more : (p : Parameters) (rows : List (List ℕ)) (row sums sums' : List ℕ) (filled : ℕ) → HasWord p rows filled sums → filled + 1 < codeword_symbols p.order
    → take ((filled + 1) * positions p.order) sums' ≡ take (filled * positions p.order) sums ++ row → HasWord p (rows ++ row ∷ []) (filled + 1) sums'
word_more p rows row sums sums' filled h less put =
    let n = codeword_symbols p.order in
    let early : length rows % n + 1 < n = (let c = h.count in omega arith) in
    record {
      count = ap (λ k. k + 1) h.count ∙ sym (ap (λ k. k % n) (length_push rows row) ∙ (within n (length rows) early).rest);
      front = put ∙ ap (λ (l : List ℕ). l ++ row) h.front ∙ sums_push (begun n rows) row ∙ ap sums_of (sym (begun_more n rows row early));
    }

-- no word is begun once one is whole
pub word_whole : (p : Parameters) (rows : List (List ℕ)) (row sums sums' : List ℕ) (filled : ℕ) → HasWord p rows filled sums → filled + 1 ≡ codeword_symbols p.order
    → HasWord p (rows ++ row ∷ []) 0 sums'
word_whole p rows row sums sums' filled h ends =
    let n = codeword_symbols p.order in
    let late : length rows % n + 1 ≡ n = (let c = h.count in omega arith) in
    record {
      count = sym (ap (λ k. k % n) (length_push rows row) ∙ (last n (length rows) late).rest);
      front = take_none (positions p.order) sums' ∙ ap sums_of (sym (begun_none n rows row late));
    }

-- a row of m sums is put into a list behind those that have come: the list as it was lent, and its place
pub record IsRowPut (v : Vec ℕ Global) (now out : List ℕ) (filled m wide : ℕ) : Type 0 where
  pub items : now ≡ v.items
  pub len : length now ≡ v.len
  pub breadth : wide ≡ m
  pub row : length out ≡ m
  pub room : filled * m + m ≤ length v.items

-- the list with the row in its place
abbrev pub with_row : Vec ℕ Global → List ℕ → List ℕ → ℕ → ℕ → Vec ℕ Global
with_row v now out filled wide = with_items v (put_mid (filled * wide) (filled * wide + wide - filled * wide) now out)

items_put : (v : Vec ℕ Global) (now out : List ℕ) (filled m wide : ℕ) → IsRowPut v now out filled m wide
    → (with_row v now out filled wide).items ≡ put_mid (filled * wide) (filled * wide + wide - filled * wide) now out
items_put v now out filled m wide h =
    let at : filled * wide ≡ filled * m = ap (λ (k : ℕ). filled * k) h.breadth in
    let long : length now ≡ length v.items = ap (λ (x : List ℕ). length x) h.items in
    with_items_is v (put_mid (filled * wide) (filled * wide + wide - filled * wide) now out)
    (simp (length-append, length-take, length-drop) (omega arith))

-- the list is as long as before
pub length-row_put : (v : Vec ℕ Global) (now out : List ℕ) (filled m wide : ℕ) → IsRowPut v now out filled m wide
    → length (with_row v now out filled wide).items ≡ length v.items
length-row_put v now out filled m wide h =
    let at : filled * wide ≡ filled * m = ap (λ (k : ℕ). filled * k) h.breadth in
    let long : length now ≡ length v.items = ap (λ (x : List ℕ). length x) h.items in
    ap (λ (x : List ℕ). length x) (items_put v now out filled m wide h)
    ∙ simp (length-append, length-take, length-drop) (omega arith)

-- its sums before the row
pub row_before : (v : Vec ℕ Global) (now out : List ℕ) (filled m wide : ℕ) → IsRowPut v now out filled m wide
    → take (filled * m) (with_row v now out filled wide).items ≡ take (filled * m) v.items
row_before v now out filled m wide h =
    let at : filled * wide ≡ filled * m = ap (λ (k : ℕ). filled * k) h.breadth in
    let long : length now ≡ length v.items = ap (λ (x : List ℕ). length x) h.items in
    ap (λ (x : List ℕ). take (filled * m) x) (items_put v now out filled m wide h)
    ∙ take-put_mid_below (filled * wide) (filled * wide + wide - filled * wide) now out (filled * m) (omega arith) (omega arith)
    ∙ ap (λ (x : List ℕ). take (filled * m) x) h.items

-- and with it
pub row_put : (v : Vec ℕ Global) (now out : List ℕ) (filled m wide : ℕ) → IsRowPut v now out filled m wide
    → take ((filled + 1) * m) (with_row v now out filled wide).items ≡ take (filled * m) v.items ++ out
row_put v now out filled m wide h =
    let at : filled * wide ≡ filled * m = ap (λ (k : ℕ). filled * k) h.breadth in
    let long : length now ≡ length v.items = ap (λ (x : List ℕ). length x) h.items in
    let next : (filled + 1) * m ≡ filled * m + m = grind arith in
    ap (λ (x : List ℕ). take ((filled + 1) * m) x) (items_put v now out filled m wide h)
    ∙ take-put_mid (filled * wide) (filled * wide + wide - filled * wide) now out ((filled + 1) * m) (let r = h.row in omega arith) (let r = h.room in omega arith)
    ∙ ap (λ (k : ℕ). take k now ++ out) at ∙ ap (λ (x : List ℕ). take (filled * m) x ++ out) h.items

-- all of them, where the row is the last of the word
pub row_last : (v : Vec ℕ Global) (now out : List ℕ) (filled n m wide : ℕ) → IsRowPut v now out filled m wide → length v.items ≡ n * m → n ≤ filled + 1
    → (with_row v now out filled wide).items ≡ take (filled * m) v.items ++ out
row_last v now out filled n m wide h l le =
    let all : n * m ≤ (filled + 1) * m = mul-le n m (filled + 1) m le (omega arith) in
    let same : length (with_row v now out filled wide).items ≡ length v.items = length-row_put v now out filled m wide h in
    sym (take_all ((filled + 1) * m) (with_row v now out filled wide).items (omega arith)) ∙ row_put v now out filled m wide h

-- room for one row more in a word that isn't whole
pub room : (filled n m : ℕ) → filled < n → filled * m + m ≤ n * m
room filled n m h =
    let k : (filled + 1) * m ≤ n * m = mul-le (filled + 1) m n m (omega arith) (omega arith) in
    let s : (filled + 1) * m ≡ filled * m + m = grind arith in
    omega arith
