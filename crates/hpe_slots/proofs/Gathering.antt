-- The sums of a symbol, one sending after another.
use Rattle.std.proofs.Common.{◌≡◌, ◌≤◌, ◌<◌, ◌+◌, ◌*◌, ℕ, List, length, get_or, sum, arith, ap, ◌∙◌, sym}
use Rattle.std.specs.Prelude.{min}
use Rattle.std.specs.List.{between}
use Rattle.std.proofs.lemmas.List.Edits.{get_or-between}
use Rattle.hpe_base.specs.Lists.{tabulate}
use Rattle.hpe_base.proofs.Tabulated.{tabulate_from_places, sum-tabulate-more, sum-tabulate-none}
use Rattle.hpe_base.specs.Parameters.{Parameters, clamp, sending_slots, positions}
use Rattle.hpe_base.specs.ReceivedWords.{symbol_sums}

-- the places below n have their counts added and are cut, and the others are as before
pub record Adding (n : ℕ) (counts before now : List ℕ) : Type 0 where
  pub done : (v : ℕ) → v < n → get_or now v 0 ≡ min clamp (get_or before v 0 + get_or counts v 0)
  pub rest : (v : ℕ) → n ≤ v → get_or now v 0 ≡ get_or before v 0

-- the count of position v in sending i of `size` slots
abbrev pub count_at : ℕ → List ℕ → ℕ → ℕ → ℕ
count_at size counts v i = get_or counts (0 + i * size + v) 0

-- after n sendings, which end before `start`: each place holds the sum of its counts so far, cut
pub record Gathering (size : ℕ) (counts : List ℕ) (n start : ℕ) (sums : List ℕ) : Type 0 where
  pub next : start ≡ n * size
  pub value : (v : ℕ) → v < length sums → get_or sums v 0 ≡ min clamp (sum (tabulate n (count_at size counts v)))

-- after the first sending
pub Gathering-first : (size : ℕ) (counts sums : List ℕ) → ((v : ℕ) → v < length sums → get_or sums v 0 ≡ min clamp (get_or counts v 0)) → Gathering size counts 1 size sums
Gathering-first size counts sums cut = record {
  next = omega arith;
  value = λ v b. cut v b ∙ sym (ap (min clamp) (one v));
}
  where
    one : (v : ℕ) → sum (tabulate 1 (count_at size counts v)) ≡ get_or counts v 0
    one v = let none = sum-tabulate-none (count_at size counts v) in let more = sum-tabulate-more 0 (count_at size counts v) in let at : 0 + 0 * size + v ≡ v = omega arith in let same : count_at size counts v 0 ≡ get_or counts v 0 = ap (λ (k : ℕ). get_or counts k 0) at in omega (arith, none, more, same)

-- a sum that was cut before it grew is cut to the same
cut_twice : (a b : ℕ) → min clamp (min clamp a + b) ≡ min clamp (a + b)
cut_twice a b = omega arith

-- one more sending, of the counts from `start` to `end`
pub Gathering-more : (size : ℕ) (counts : List ℕ) (n start end : ℕ) (sums new : List ℕ) → length new ≡ length sums → start + length sums ≡ end →
    ((v : ℕ) → v < length sums → get_or new v 0 ≡ min clamp (get_or sums v 0 + get_or (between start end counts) v 0)) →
    Gathering size counts n start sums → Gathering size counts (n + 1) (start + size) new
Gathering-more size counts n start end sums new long room added g = record {
  next = grind (arith, g.next);
  value = λ v b.
      let within : v < length sums = omega arith in
      let part : get_or (between start end counts) v 0 ≡ get_or counts (start + v) 0 = get_or-between counts start end v 0 (omega arith) in
      let place : start + v ≡ 0 + n * size + v = omega (arith, g.next) in
      added v within
      ∙ (ap (λ x. min clamp (get_or sums v 0 + x)) (part ∙ ap (λ k. get_or counts k 0) place)
      ∙ (ap (λ x. min clamp (x + count_at size counts v n)) (g.value v within)
      ∙ (cut_twice (sum (tabulate n (count_at size counts v))) (count_at size counts v n)
      ∙ sym (ap (min clamp) (sum-tabulate-more n (count_at size counts v))))));
}

-- all sendings
pub Gathering-all : (p : Parameters) (counts : List ℕ) (n start : ℕ) (sums : List ℕ) → n ≡ p.repeat → length sums ≡ positions p.order →
    Gathering (sending_slots p.order) counts n start sums → sums ≡ symbol_sums p counts 0
unfolding symbol_sums
Gathering-all p counts n start sums all long g =
    tabulate_from_places (positions p.order) _ sums 0 long (λ v b. rw (← all) (g.value v (omega arith)))

-- each is cut
pub Gathering-most : (size : ℕ) (counts : List ℕ) (n start : ℕ) (sums : List ℕ) → Gathering size counts n start sums → (v : ℕ) → v < length sums → get_or sums v 0 ≤ clamp
Gathering-most size counts n start sums g v b = omega (arith, g.value v b)
