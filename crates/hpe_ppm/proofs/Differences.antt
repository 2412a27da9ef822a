-- The inverse of the accumulator.
use Rattle.std.proofs.Common.{◌≡◌, ◌+◌, ◌%◌, ◌<◌, ◌≤◌, ℕ, List, ◌∷◌, length, get_or, take, sum, sym, ◌∙◌, ap, arith, zero, suc, add-one}
use Rattle.std.proofs.lemmas.List.Sums.{sum_by_more}
use Rattle.std.proofs.lemmas.List.Elements.{All-get_or, All-from_get_or}
use Rattle.hpe_base.specs.Lists.{tabulate}
use Rattle.hpe_base.specs.Bits.{AreBits, xor}
use Rattle.hpe_base.specs.Accumulator.{accumulated}
use Rattle.hpe_base.proofs.Tabulated.{length-tabulate, get_or-tabulate, tabulate_from_places}
use Rattle.hpe_base.proofs.Shapes.{length-accumulated, get_or-accumulated}

-- each bit added to the bit before it, modulo 2
abbrev pub differences : List ℕ → List ℕ
differences bits = tabulate (length bits) (λ j. xor (get_or (0 ∷ bits) j 0) (get_or bits j 0))

pub length-differences : (bits : List ℕ) → length (differences bits) ≡ length bits
length-differences bits = length-tabulate (length bits) (λ j. xor (get_or (0 ∷ bits) j 0) (get_or bits j 0))

get_or-differences : (bits : List ℕ) (j : ℕ) → j < length bits → get_or (differences bits) j 0 ≡ xor (get_or (0 ∷ bits) j 0) (get_or bits j 0)
get_or-differences bits j h = get_or-tabulate (length bits) (λ j. xor (get_or (0 ∷ bits) j 0) (get_or bits j 0)) j 0 h

pub are_bits-differences : (bits : List ℕ) → AreBits (differences bits)
are_bits-differences bits =
    All-from_get_or (λ b. b < 2) (differences bits) 0
    (λ k b. rw (get_or-differences bits k (omega (arith, length-differences bits))) (omega arith))

sum_more : (xs : List ℕ) (i : ℕ) → i < length xs → sum (take (i + 1) xs) ≡ sum (take i xs) + get_or xs i 0
sum_more xs i h = sum_by_more (λ x. x) xs i 0 h

-- the sum before place j stands one place before it
before_place : (bits : List ℕ) (j : ℕ) → j < length bits → get_or (0 ∷ accumulated bits) j 0 ≡ sum (take j bits) % 2
before_place bits zero h = omega arith
before_place bits (suc j) h = let next : j + 1 ≡ suc j = omega arith in get_or-accumulated bits j (omega arith) ∙ ap (λ n. sum (take n bits) % 2) next

pub differences-accumulated : (bits : List ℕ) → AreBits bits → differences (accumulated bits) ≡ bits
differences-accumulated bits h =
    sym (tabulate_from_places (length (accumulated bits)) _ bits 0 (sym (length-accumulated bits)) (λ k b. place k (omega (arith, length-accumulated bits))))
  where
    place : (k : ℕ) → k < length bits → get_or bits k 0 ≡ xor (get_or (0 ∷ accumulated bits) k 0) (get_or (accumulated bits) k 0)
    place k b =
        let bit : get_or bits k 0 < 2 = All-get_or (λ b. b < 2) bits k 0 b h in
        omega (arith, before_place bits k b, get_or-accumulated bits k b, sum_more bits k b)

-- the sums of the differences so far
sums_of_differences : (bits : List ℕ) → AreBits bits → (k : ℕ) → k ≤ length bits → sum (take k (differences bits)) % 2 ≡ get_or (0 ∷ bits) k 0
sums_of_differences bits h zero b = omega arith
sums_of_differences bits h (suc k) b =
    let next : sum (take (suc k) (differences bits)) ≡ sum (take k (differences bits)) + get_or (differences bits) k 0 =
    ap (λ n. sum (take n (differences bits))) (sym (add-one k)) ∙ sum_more (differences bits) k (omega (arith, length-differences bits)) in
    let bit : get_or bits k 0 < 2 = All-get_or (λ b. b < 2) bits k 0 b h in
    omega (arith, sums_of_differences bits h k (omega arith), get_or-differences bits k b)

pub accumulated-differences : (bits : List ℕ) → AreBits bits → accumulated (differences bits) ≡ bits
accumulated-differences bits h =
    sym (tabulate_from_places (length (differences bits)) _ bits 0 (sym (length-differences bits)) (λ k b.
    sym (ap (λ n. sum (take n (differences bits)) % 2) (add-one k) ∙ sums_of_differences bits h (suc k) (omega (arith, length-differences bits)))))
