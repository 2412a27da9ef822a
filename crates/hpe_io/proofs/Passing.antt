-- What a writer took of a piece, write by write.
use Rattle.std.proofs.Common.{◌≡◌, ◌≤◌, ◌+◌, ◌-◌, ◌++◌, ◌∙◌, ℕ, List, length, take, drop, ap, subst, arith, length-drop}
use Rattle.std.proofs.lemmas.List.{take-take, drop-take, take-append-drop}
use Rattle.std.proofs.KnownBytes.{Appends-trans}
use Rattle.std.specs.declared.option.Option.{Option}
use Rattle.std.specs.Io.KnownBytes.{Appends}

-- the first octets of a piece were written
pub record WrittenSoFar (start now : Option (List ℕ)) (piece : List ℕ) (at : ℕ) : Type 0 where
  pub fits : at ≤ length piece
  pub grown : Appends start now (take at piece)

-- a front in two parts
take_in_two : (m n : ℕ) (xs : List ℕ) → take m xs ++ take n (drop m xs) ≡ take (m + n) xs
take_in_two m n xs =
    let whole = take-append-drop m (take (m + n) xs) in
    let front = take-take m (m + n) xs (omega arith) in
    let back = drop-take m n xs in
    cc

-- a write took n octets of the rest
pub written_more : (start mid now : Option (List ℕ)) (piece rest : List ℕ) (at n : ℕ) → WrittenSoFar start mid piece at
    → rest ≡ drop at piece → n ≤ length rest → Appends mid now (take n rest) → WrittenSoFar start now piece (at + n)
written_more start mid now piece rest at n before is_rest fits grown =
    let earlier : at ≤ length piece = before.fits in
    let count : length rest ≡ length piece - at = ap length is_rest ∙ length-drop at piece in
    let two : take at piece ++ take n rest ≡ take (at + n) piece =
    ap (λ (l : List ℕ). take at piece ++ take n l) is_rest ∙ take_in_two at n piece in
    record {
      fits = omega arith;
      grown = subst (Appends start now) two (Appends-trans start mid now (take at piece) (take n rest) before.grown grown);
    }
