-- What the halves of a round give, from what their calls left.
use Rattle.std.proofs.Common.{◌≡◌, ◌<◌, ◌≤◌, ℕ, ℤ, pos, ◌-ℤ◌, List, ◌++◌, length, get_or, take, ◌∙◌, ap, arith}
use Rattle.std.proofs.Math.Seq.{take-length}
use Rattle.std.proofs.lemmas.List.{take-append-le}
use Rattle.hpe_base.specs.Sizes.{number_at, AllWithin}
use Rattle.hpe_base.specs.Parameters.{Parameters, clamp, codeword_bits}
use Rattle.hpe_base.specs.CodeInterleaver.{pi, pi_inverse, IsInterleaved}
use Rattle.hpe_base.specs.SoftValues.{clamped, scaled, inner_soft_value, code_soft_value, information_soft_value, inner_extrinsic, code_extrinsic}
use Rattle.hpe_base.specs.Parameters.{information_bits}
use Rattle.hpe_base.specs.Rounds.{outer_numbers, next_numbers, hard_bits, hard_bit}
use Rattle.hpe_base.proofs.Tabulated.{tabulate_from_places}
use Rattle.hpe_base.proofs.Permutation.{pi-lt, pi_inverse-lt}
use Rattle.hpe_base.proofs.Scaling.{scaled_places}

-- the whole of a list that was lent
pub whole_taken : {X : Type 0} (n : ℕ) (xs ys : List X) → n ≡ length xs → take n (xs ++ ys) ≡ xs
whole_taken n xs ys e = rw (e, take-append-le (length xs) xs ys (omega arith)) (take-length xs)

-- the inner extrinsic values, deinterleaved
pub outer_numbers-is : (p : Parameters) (counts : List ℕ) (l soft e moved : List ℤ) → length e ≡ codeword_bits → length moved ≡ codeword_bits
    → ((j : ℕ) → j < codeword_bits → number_at soft j ≡ inner_soft_value p.order counts l j)
    → ((j : ℕ) → j < length e → number_at e j ≡ scaled p.scale (clamped (number_at soft j -ℤ number_at l j)))
    → ((i : ℕ) → i < codeword_bits → number_at moved i ≡ number_at e (pi_inverse i)) → moved ≡ outer_numbers p counts l
unfolding outer_numbers inner_extrinsic
outer_numbers-is p counts l soft e moved le lm s x m =
    tabulate_from_places codeword_bits (λ i. scaled p.scale (clamped (inner_soft_value p.order counts l (pi_inverse i) -ℤ number_at l (pi_inverse i)))) moved (pos 0) lm
    (λ i h.
    let j : ℕ = pi_inverse i in
    let low : j < codeword_bits = pi_inverse-lt i in
    m i h ∙ x j (omega arith)
    ∙ ap (λ (z : ℤ). scaled p.scale (clamped (z -ℤ number_at l j))) (s j low))

-- the outer extrinsic values, interleaved
pub next_numbers-is : (p : Parameters) (lo soft e moved : List ℤ) → length e ≡ codeword_bits → length moved ≡ codeword_bits
    → ((i : ℕ) → i < codeword_bits → number_at soft i ≡ code_soft_value p.columns lo (information_bits p.rate) i)
    → ((j : ℕ) → j < length e → number_at e j ≡ scaled p.scale (clamped (number_at soft j -ℤ number_at lo j)))
    → IsInterleaved e moved → moved ≡ next_numbers p lo
unfolding next_numbers code_extrinsic
next_numbers-is p lo soft e moved le lm s x m =
    tabulate_from_places codeword_bits (λ j. scaled p.scale (clamped (code_soft_value p.columns lo (information_bits p.rate) (pi j) -ℤ number_at lo (pi j)))) moved (pos 0) lm
    (λ j h.
    let low : pi j < codeword_bits = pi-lt j in
    m j (pos 0) h ∙ x (pi j) (omega arith) ∙ ap (λ (z : ℤ). scaled p.scale (clamped (z -ℤ number_at lo (pi j)))) (s (pi j) low))

-- what is decided from the soft values of the information bits
pub hard_bits-is : (p : Parameters) (lo information : List ℤ) (hard : List ℕ) → length hard ≡ information_bits p.rate
    → ((j : ℕ) → j < information_bits p.rate → number_at information j ≡ information_soft_value p.columns lo (information_bits p.rate) j)
    → ((j : ℕ) → j < length hard → get_or hard j 0 ≡ hard_bit (number_at information j))
    → hard ≡ hard_bits p lo
unfolding hard_bits
hard_bits-is p lo information hard lh s h =
    tabulate_from_places (information_bits p.rate) (λ j. hard_bit (information_soft_value p.columns lo (information_bits p.rate) j)) hard 0 lh
    (λ j b. h j (omega arith) ∙ ap hard_bit (s j b))

-- both lists of numbers are within the clamp
pub outer_numbers-within : (p : Parameters) (counts : List ℕ) (l : List ℤ) → p.scale ≤ 8 → AllWithin clamp (outer_numbers p counts l)
unfolding outer_numbers inner_extrinsic
outer_numbers-within p counts l h = scaled_places p.scale codeword_bits (λ i. inner_soft_value p.order counts l (pi_inverse i) -ℤ number_at l (pi_inverse i)) h

pub next_numbers-within : (p : Parameters) (lo : List ℤ) → p.scale ≤ 8 → AllWithin clamp (next_numbers p lo)
unfolding next_numbers code_extrinsic
next_numbers-within p lo h = scaled_places p.scale codeword_bits (λ j. code_soft_value p.columns lo (information_bits p.rate) (pi j) -ℤ number_at lo (pi j)) h
