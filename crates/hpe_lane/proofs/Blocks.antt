-- A part of a list, written over.
use Rattle.std.proofs.Common.{◌≡◌, ℕ, ◌+◌, ◌-◌, ◌<◌, ◌≤◌, ⊎_elim, sym, ◌∙◌, ap, subst, arith, ℤ, pos, List, ◌++◌, length, take, ◌+ℤ◌}
use Rattle.std.proofs.lemmas.Bool.{cases_lt}
use Rattle.std.proofs.lemmas.List.{get_or-append-add, get_or-take, length-take}
use Rattle.std.proofs.Math.ListN.{get_or-append}
use borrow.Rule.Slice.PartMut.{put_mid, post_of}
use Rattle.hpe_base.specs.Sizes.{number_at}

front_long : (w : ℕ) (xs : List ℤ) → w ≤ length xs → length (take w xs) ≡ w
front_long w xs h = simp length-take (omega arith)

put_below : (w k : ℕ) (xs ys : List ℤ) (j : ℕ) → w ≤ length xs → j < w → number_at (put_mid w k xs ys) j ≡ number_at xs j
put_below w k xs ys j room h =
    get_or-append (take w xs) (ys ++ post_of w k xs) (pos 0) j (subst (λ (n : ℕ). j < n) (sym (front_long w xs room)) h) ∙ get_or-take w xs j (pos 0) h

put_within : (w k : ℕ) (xs ys : List ℤ) (i : ℕ) → w ≤ length xs → i < length ys → number_at (put_mid w k xs ys) (w + i) ≡ number_at ys i
put_within w k xs ys i room h =
    ap (λ (n : ℕ). number_at (put_mid w k xs ys) (n + i)) (sym (front_long w xs room))
    ∙ get_or-append-add (take w xs) (ys ++ post_of w k xs) i (pos 0) ∙ get_or-append ys (post_of w k xs) (pos 0) i h

-- what holds of the places before the part, and of those of the part, holds of both
pub put_more : (w k n : ℕ) (xs ys : List ℤ) (f : ℕ → ℤ) → w ≤ length xs → n ≤ w + length ys
    → ((j : ℕ) → j < w → number_at xs j ≡ f j) → ((i : ℕ) → i < length ys → number_at ys i ≡ f (w + i))
    → (j : ℕ) → j < n → number_at (put_mid w k xs ys) j ≡ f j
put_more w k n xs ys f room all before here j h =
    ⊎_elim
    (λ (p : j < w). put_below w k xs ys j room p ∙ before j p)
    (λ (p : w ≤ j).
    let i : ℕ = j - w in
    let e : j ≡ w + i = omega arith in
    let q : i < length ys = omega arith in
    ap (number_at (put_mid w k xs ys)) e ∙ put_within w k xs ys i room q ∙ here i q ∙ ap f (sym e))
    (cases_lt j w)

pub take_long : (m : ℕ) (xs : List ℤ) → m ≤ length xs → length (take m xs) ≡ m
take_long m xs h = simp length-take (omega arith)

rest_place : (n w i : ℕ) → w ≤ n → i < n - w → n - w - 1 - i < n - w
rest_place n w i room h = omega arith

same_rest_place : (n w i : ℕ) → n - w - 1 - i ≡ n - 1 - (w + i)
same_rest_place n w i = omega arith

-- a list and a number added, turned: the whole blocks, and the rest
pub mirrored_whole : (low high rest : List ℤ) (n w k : ℕ) (x : ℤ) → length low ≡ n → w ≤ n → length high ≡ n → length rest ≡ n - w
    → ((j : ℕ) → j < w → number_at high j ≡ x +ℤ number_at low (n - 1 - j))
    → ((i : ℕ) → i < n - w → number_at rest i ≡ x +ℤ number_at (take (n - w) low) (n - w - 1 - i))
    → (j : ℕ) → j < n → number_at (put_mid w k high rest) j ≡ x +ℤ number_at low (n - 1 - j)
mirrored_whole low high rest n w k x ll room lh lr before here =
    put_more w k n high rest (λ (j : ℕ). x +ℤ number_at low (n - 1 - j)) (omega arith) (omega arith) before
    (λ i h. let p : i < n - w = omega arith in
    here i p ∙ ap (λ (z : ℤ). x +ℤ z) (get_or-take (n - w) low (n - w - 1 - i) (pos 0) (rest_place n w i room p) ∙ ap (number_at low) (same_rest_place n w i)))
