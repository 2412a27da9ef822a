-- The long division, bit by bit over a register of 32 bits.
use Rattle.std.proofs.Common.{◌≡◌, ◌++◌, ◌+◌, ◌-◌, ◌*◌, ◌/◌, ◌%◌, ◌^◌, ◌<◌, ℕ, List, [], ◌∷◌, refl, length, get_or, take, sym, ◌∙◌, ap, arith, zero, suc, map, subst, bit_xor, inl, inr}
use Rattle.std.proofs.lemmas.Bool.{cases_eq}
use Rattle.std.proofs.lemmas.Nat.{xor_comm, xor_lt}
use Rattle.std.specs.Int.{bit_at}
use Rattle.std.specs.Int.Bits.{xor_self, xor_zero_r}
use Rattle.std.proofs.Math.Nat.{mod-eq_of_lt}
use Rattle.std.proofs.lemmas.List.{length-map, take_more}
use Rattle.hpe_base.specs.Bits.{bits_of, number_of, xor, zeros, AreBits}
use Rattle.hpe_base.specs.Check.{divide, add_front, check_bits}
use Rattle.hpe_base.proofs.BitLists.{bits_of-xor, bits_of-mod, bits_of-double, add_front-twice, length-bits_of, are_bits-bits_of, are_bits-tail, add_front-zeros, number_of-bits_of}
use Rattle.hpe_block.specs.Division.{divided, divided_by}

-- a register that is shifted up by one
bits_of-shifted : (r : ℕ) → bits_of 32 (r * 2 % 2 ^ 32) ≡ bits_of 31 r ++ 0 ∷ []
bits_of-shifted r = bits_of-mod 32 32 (r * 2) (omega arith) ∙ bits_of-double 31 r

-- a register is its first bit and the others
bits_of-split : (r : ℕ) → bits_of 32 r ≡ bit_at r 31 ∷ bits_of 31 r
unfolding bits_of
bits_of-split r = refl

-- a generator times 1 is the generator
by_one : (xs : List ℕ) → map (λ g. 1 * g) xs ≡ xs
by_one [] = refl
by_one (x ∷ xs) = let first : 1 * x ≡ x = omega arith in let rest : map (λ g. 1 * g) xs ≡ xs = by_one xs in cc

-- a generator times 0 adds nothing
add_by_zero : (xs ys : List ℕ) → AreBits ys → add_front (map (λ g. 0 * g) xs) ys ≡ ys
add_by_zero [] ys h = refl
add_by_zero (x ∷ xs) [] h = refl
add_by_zero (x ∷ xs) (y ∷ ys) h =
    let bit : y < 2 = h 0 0 (omega arith) in
    let first : xor (0 * x) y ≡ y = omega arith in
    let rest : add_front (map (λ g. 0 * g) xs) ys ≡ ys = add_by_zero xs ys (λ k d b. h (suc k) d (omega arith)) in
    cc

-- one step, over a register that is added to the front
divide-more : (m top b : ℕ) (generator low rest : List ℕ) → length generator ≡ suc (length low) →
    divide (suc m) generator (add_front (top ∷ low) (b ∷ rest)) ≡ divide m generator (add_front (add_front (map (λ g. xor top b * g) generator) (low ++ 0 ∷ [])) rest)
divide-more m top b generator low rest h =
    let scaled : List ℕ = map (λ g. xor top b * g) generator in
    let long : length scaled ≡ suc (length low) = length-map generator (λ g. xor top b * g) ∙ h in
    ap (divide m generator) (add_front-twice scaled low rest long)

-- a step adds nothing where the register's first bit is the bit
pub divided_same : (check r b : ℕ) → r / 2 ^ 31 ≡ b → divided check r b ≡ r * 2 % 2 ^ 32
divided_same check r b e =
    let none : bit_xor b b * check ≡ 0 = ap (λ x. x * check) (xor_self b) ∙ omega arith in
    ap (λ x. bit_xor (r * 2 % 2 ^ 32) (bit_xor x b * check)) e ∙ (ap (bit_xor (r * 2 % 2 ^ 32)) none ∙ xor_zero_r (r * 2 % 2 ^ 32))

-- two bits that differ add to 1
xor_apart : (a b : ℕ) → a < 2 → b < 2 → (a ≡ b → ⊥) → bit_xor a b ≡ 1
xor_apart zero zero h k e = absurd (e refl)
xor_apart zero (suc zero) h k e = refl
xor_apart (suc zero) zero h k e = refl
xor_apart (suc zero) (suc zero) h k e = absurd (e refl)
xor_apart (suc (suc a)) b h k e = absurd (omega arith)
xor_apart zero (suc (suc b)) h k e = absurd (omega arith)
xor_apart (suc zero) (suc (suc b)) h k e = absurd (omega arith)

-- and the generator where it isn't
pub divided_other : (check r b : ℕ) → r < 2 ^ 32 → b < 2 → (r / 2 ^ 31 ≡ b → ⊥) → divided check r b ≡ bit_xor (r * 2 % 2 ^ 32) check
divided_other check r b h k e =
    let one : bit_xor (r / 2 ^ 31) b * check ≡ check = ap (λ x. x * check) (xor_apart (r / 2 ^ 31) b (omega arith) k e) ∙ omega arith in
    ap (bit_xor (r * 2 % 2 ^ 32)) one

-- a step gives a register
pub divided-lt : (check r b : ℕ) → check < 2 ^ 32 → r < 2 ^ 32 → b < 2 → divided check r b < 2 ^ 32
divided-lt check r b c h k = elim (cases_eq (r / 2 ^ 31) b) [
  | inl e ↦ rw (divided_same check r b e) (omega arith)
  | inr e ↦ rw (divided_other check r b h k e) (xor_lt 32 (r * 2 % 2 ^ 32) check (omega arith) c)
]

-- the bits of the register after a step
divided_bits : (check r b : ℕ) → r < 2 ^ 32 → b < 2 →
    bits_of 32 (divided check r b) ≡ add_front (map (λ g. xor (bit_at r 31) b * g) (bits_of 32 check)) (bits_of 31 r ++ 0 ∷ [])
divided_bits check r b h k = elim (cases_eq (r / 2 ^ 31) b) [
  | inl e ↦
      let zero_is : xor (bit_at r 31) b ≡ 0 = omega arith in
      let bits : AreBits (bits_of 31 r ++ 0 ∷ []) = subst AreBits (bits_of-double 31 r) (are_bits-bits_of 32 (r * 2)) in
      ap (bits_of 32) (divided_same check r b e) ∙ (bits_of-shifted r ∙ (sym (add_by_zero (bits_of 32 check) (bits_of 31 r ++ 0 ∷ []) bits)
      ∙ ap (λ x. add_front (map (λ g. x * g) (bits_of 32 check)) (bits_of 31 r ++ 0 ∷ [])) (sym zero_is)))
  | inr e ↦
      let one_is : xor (bit_at r 31) b ≡ 1 = omega arith in
      ap (bits_of 32) (divided_other check r b h k e ∙ xor_comm (r * 2 % 2 ^ 32) check) ∙ (bits_of-xor 32 check (r * 2 % 2 ^ 32)
      ∙ (ap (add_front (bits_of 32 check)) (bits_of-shifted r)
      ∙ (ap (λ w. add_front w (bits_of 31 r ++ 0 ∷ [])) (sym (by_one (bits_of 32 check)))
      ∙ ap (λ x. add_front (map (λ g. x * g) (bits_of 32 check)) (bits_of 31 r ++ 0 ∷ [])) (sym one_is))))
]

-- the register after all bits is what the division of the list leaves
divided_by_bits : (check r : ℕ) (bits : List ℕ) → check < 2 ^ 32 → r < 2 ^ 32 → AreBits bits →
    divide (length bits) (bits_of 32 check) (add_front (bits_of 32 r) (bits ++ zeros 32)) ≡ bits_of 32 (divided_by check r bits)
unfolding divided_by
divided_by_bits check r [] c h bits = add_front-zeros 32 r
divided_by_bits check r (b ∷ rest) c h bits =
    let generator : List ℕ = bits_of 32 check in
    let first : b < 2 = bits 0 0 (omega arith) in
    let long : length generator ≡ suc (length (bits_of 31 r)) = length-bits_of 32 check ∙ ap suc (sym (length-bits_of 31 r)) in
    ap (λ w. divide (suc (length rest)) generator (add_front w (b ∷ (rest ++ zeros 32)))) (bits_of-split r)
    ∙ (divide-more (length rest) (bit_at r 31) b generator (bits_of 31 r) (rest ++ zeros 32) long
    ∙ (ap (λ w. divide (length rest) generator (add_front w (rest ++ zeros 32))) (sym (divided_bits check r b h first))
    ∙ divided_by_bits check (divided check r b) rest c (divided-lt check r b c h first) (are_bits-tail b rest bits)))

-- from a register of ones that is the check
pub divided_by_check : (check : ℕ) (bits : List ℕ) → check < 2 ^ 32 → AreBits bits → bits_of 32 (divided_by check (2 ^ 32 - 1) bits) ≡ check_bits check bits
unfolding check_bits bits_of
divided_by_check check bits c h = sym (divided_by_bits check (2 ^ 32 - 1) bits c (omega arith) h)

-- and its number
pub divided_by_number : (check r : ℕ) (bits : List ℕ) → r < 2 ^ 32 → bits_of 32 r ≡ check_bits check bits → r ≡ number_of (check_bits check bits)
divided_by_number check r bits h e =
    let small : r % 2 ^ 32 ≡ r = mod-eq_of_lt h in
    sym small ∙ (sym (number_of-bits_of 32 r) ∙ ap number_of e)

-- some bits and then others
pub divided_by-append : (check r : ℕ) (xs ys : List ℕ) → divided_by check r (xs ++ ys) ≡ divided_by check (divided_by check r xs) ys
unfolding divided_by
divided_by-append check r [] ys = refl
divided_by-append check r (x ∷ xs) ys = divided_by-append check (divided check r x) xs ys

-- a bit more behind
pub divided_by-push : (check r : ℕ) (xs : List ℕ) (b : ℕ) → divided_by check r (xs ++ b ∷ []) ≡ divided check (divided_by check r xs) b
unfolding divided_by
divided_by-push check r xs b = divided_by-append check r xs (b ∷ [])

-- no bits
pub divided_by-none : (check r : ℕ) (bits : List ℕ) → divided_by check r (take 0 bits) ≡ r
unfolding divided_by
divided_by-none check r bits = refl

-- the next bit of a list
pub divided_by-more : (check r : ℕ) (bits : List ℕ) (n : ℕ) → n < length bits → divided_by check r (take (n + 1) bits) ≡ divided check (divided_by check r (take n bits)) (get_or bits n 0)
divided_by-more check r bits n h = ap (divided_by check r) (take_more bits n 0 h) ∙ divided_by-push check r (take n bits) (get_or bits n 0)
