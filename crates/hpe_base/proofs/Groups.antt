-- Whole groups of a list that grows.
use Rattle.std.proofs.Common.{◌≡◌, ◌≤◌, ◌<◌, ◌+◌, ◌-◌, ◌*◌, ◌/◌, ◌%◌, ◌++◌, ◌∷◌, [], ℕ, List, length, take, drop, ap, sym, ◌∙◌, arith, slice_range}
use Rattle.std.proofs.lemmas.Nat.{mul-le, div-add-mod', div-mul-add, mod-mul-add}
use Rattle.std.proofs.lemmas.List.{length-drop, length_push, drop-append-le, take-append-le}
use Rattle.hpe_base.specs.Lists.{tabulate}
use Rattle.hpe_base.specs.ReceivedWords.{groups_of}
use Rattle.hpe_base.proofs.Tabulated.{tabulate-same}

-- one value more in a group that isn't whole with it: the places of both lists
pub record IsWithin (n len : ℕ) : Type 0 where
  pub groups : (len + 1) / n ≡ len / n
  pub rest : (len + 1) % n ≡ len % n + 1

pub within : (n len : ℕ) → len % n + 1 < n → IsWithin n len
within n len h =
    let e : len / n * n + len % n ≡ len = div-add-mod' len n in
    let s : len / n * n + (len % n + 1) ≡ len + 1 = omega arith in
    record {
      groups = ap (λ (k : ℕ). k / n) (sym s) ∙ div-mul-add (len / n) n (len % n + 1) h;
      rest = ap (λ (k : ℕ). k % n) (sym s) ∙ mod-mul-add (len / n) n (len % n + 1) h;
    }

-- one value more with which a group is whole
pub record IsLast (n len : ℕ) : Type 0 where
  pub groups : (len + 1) / n ≡ len / n + 1
  pub rest : (len + 1) % n ≡ 0

pub last : (n len : ℕ) → len % n + 1 ≡ n → IsLast n len
last n len h =
    let e : len / n * n + len % n ≡ len = div-add-mod' len n in
    let q = len / n in
    let m : (q + 1) * n ≡ q * n + n = grind arith in
    let s : (q + 1) * n + 0 ≡ len + 1 = omega arith in
    record {
      groups = ap (λ (k : ℕ). k / n) (sym s) ∙ div-mul-add (q + 1) n 0 (omega arith);
      rest = ap (λ (k : ℕ). k % n) (sym s) ∙ mod-mul-add (q + 1) n 0 (omega arith);
    }

-- what stands behind a range plays no part in it
range-front : {V : Type 0} (xs ys : List V) (i j : ℕ) → i ≤ j → j ≤ length xs → slice_range (xs ++ ys) i j ≡ slice_range xs i j
range-front {V = V} xs ys i j h b =
    ap (λ (l : List V). take (j - i) l) (drop-append-le i xs ys (omega arith))
    ∙ take-append-le (j - i) (drop i xs) ys (omega (arith, length-drop i xs))

-- the groups that were whole stay
pub groups_front : {V : Type 0} (n : ℕ) (xs ys : List V)
    → tabulate (length xs / n) (λ w. slice_range (xs ++ ys) (w * n) (w * n + n)) ≡ groups_of n xs
groups_front n xs ys =
    tabulate-same (length xs / n) (λ w. slice_range (xs ++ ys) (w * n) (w * n + n)) (λ w. slice_range xs (w * n) (w * n + n)) (λ k b.
    let e : length xs / n * n + length xs % n ≡ length xs = div-add-mod' (length xs) n in
    let m : (k + 1) * n ≤ length xs / n * n = mul-le (k + 1) n (length xs / n) n (omega arith) (omega arith) in
    let s : (k + 1) * n ≡ k * n + n = grind arith in
    range-front xs ys (k * n) (k * n + n) (omega arith) (omega arith))

pub groups_same : {V : Type 0} (n : ℕ) (xs : List V) (x : V) → length xs % n + 1 < n → groups_of n (xs ++ x ∷ []) ≡ groups_of n xs
groups_same n xs x h =
    let w : IsWithin n (length xs) = within n (length xs) h in
    let q : length (xs ++ x ∷ []) / n ≡ length xs / n = ap (λ (k : ℕ). k / n) (length_push xs x) ∙ w.groups in
    ap (λ (k : ℕ). tabulate k (λ w. slice_range (xs ++ x ∷ []) (w * n) (w * n + n))) q ∙ groups_front n xs (x ∷ [])
