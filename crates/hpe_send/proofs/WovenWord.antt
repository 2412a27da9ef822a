-- A word on its way through the weaver.
use Rattle.std.proofs.Common.{◌≡◌, ◌<◌, ◌+◌, ◌++◌, ℕ, List, [], ◌∷◌, length, get_or, take, drop, set, ap, sym, ◌∙◌, refl, arith, append_assoc, append-nil}
use Rattle.std.proofs.lemmas.List.{take_more, take_more_set, drop-set-lt, get_or-drop, drop-drop, length-set}
use Rattle.hpe_base.specs.Parameters.{Parameters}
use Rattle.hpe_base.specs.ChannelInterleaver.{interleaved_channel}
use Rattle.hpe_weave.specs.Weaving.{Weaving, HasWoven}

drop_next : (xs : List ℕ) (n : ℕ) → drop (n + 1) xs ≡ drop 1 (drop n xs)
drop_next xs n = sym (drop-drop 1 n xs)

-- the first n symbols of before went through the weaver and the answers stand in now
pub record IsWeavingWord (w0 w : Weaving) (before now : List ℕ) (n : ℕ) : Type 0 where
  pub profile : w.parameters ≡ w0.parameters
  pub stands : (pushed : List ℕ) → HasWoven w0 pushed → HasWoven w (pushed ++ take n before)
  pub answers : (pushed : List ℕ) → HasWoven w0 pushed → interleaved_channel w0.parameters (pushed ++ take n before) ≡ interleaved_channel w0.parameters pushed ++ take n now
  pub rest : drop n now ≡ drop n before
  pub size : length now ≡ length before

pub word_none : (w : Weaving) (before : List ℕ) → IsWeavingWord w w before before 0
word_none w before = record {
  profile = refl;
  stands = λ s h. rw (append-nil s) h;
  answers = λ s h. ap (interleaved_channel w.parameters) (append-nil s) ∙ sym (append-nil (interleaved_channel w.parameters s));
  rest = refl;
  size = refl;
}

pub word_more : (w0 w after : Weaving) (before now : List ℕ) (n y : ℕ) → n < length before → IsWeavingWord w0 w before now n → after.parameters ≡ w.parameters
    → ((s : List ℕ) → HasWoven w s → HasWoven after (s ++ get_or now n 0 ∷ []))
    → ((s : List ℕ) → HasWoven w s → interleaved_channel w.parameters (s ++ get_or now n 0 ∷ []) ≡ interleaved_channel w.parameters s ++ y ∷ [])
    → IsWeavingWord w0 after before (set now n y) (n + 1)
word_more w0 w after before now n y h i p stands answers =
    let size : length now ≡ length before = i.size in
    let z : n + 0 ≡ n = omega arith in
    let here : get_or now n 0 ≡ get_or before n 0 =
    ap (λ (k : ℕ). get_or now k 0) (sym z) ∙ sym (get_or-drop n now 0 0) ∙ ap (λ (l : List ℕ). get_or l 0 0) i.rest ∙ get_or-drop n before 0 0 ∙ ap (λ (k : ℕ). get_or before k 0) z in
    let more : take (n + 1) before ≡ take n before ++ get_or now n 0 ∷ [] = take_more before n 0 h ∙ ap (λ (v : ℕ). take n before ++ v ∷ []) (sym here) in
    let list = λ (s : List ℕ). ap (λ (l : List ℕ). s ++ l) more ∙ sym (append_assoc s (take n before) (get_or now n 0 ∷ [])) in
    record {
      profile = p ∙ i.profile;
      stands = λ s hs. rw (list s) (stands (s ++ take n before) (i.stands s hs));
      answers = λ s hs.
          ap (interleaved_channel w0.parameters) (list s)
          ∙ ap (λ (q : Parameters). interleaved_channel q ((s ++ take n before) ++ get_or now n 0 ∷ [])) (sym i.profile)
          ∙ answers (s ++ take n before) (i.stands s hs)
          ∙ ap (λ (q : Parameters). interleaved_channel q (s ++ take n before) ++ y ∷ []) i.profile
          ∙ ap (λ (l : List ℕ). l ++ y ∷ []) (i.answers s hs)
          ∙ append_assoc (interleaved_channel w0.parameters s) (take n now) (y ∷ [])
          ∙ ap (λ (l : List ℕ). interleaved_channel w0.parameters s ++ l) (sym (take_more_set now n y (omega arith)));
      rest = drop-set-lt (n + 1) now n y (omega arith) ∙ drop_next now n ∙ ap (λ (l : List ℕ). drop 1 l) i.rest ∙ sym (drop_next before n);
      size = length-set now n y ∙ i.size;
    }
