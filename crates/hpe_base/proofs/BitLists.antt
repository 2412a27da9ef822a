-- Lemmas on numbers as lists of bits.
use Rattle.std.proofs.Common.{◌≡◌, ◌++◌, ◌+◌, ◌-◌, ◌*◌, ◌/◌, ◌%◌, ◌^◌, ◌<◌, ◌≤◌, ℕ, List, [], ◌∷◌, refl, length, length-append, get_or, sym, ◌∙◌, ap, arith, zero, suc, bit_xor, bit_and, inl, inr}
use Rattle.std.specs.Int.{bit_at}
use Rattle.std.proofs.lemmas.Nat.{mod-pow-add, div-add-mod', xor_lt}
use Rattle.std.proofs.lemmas.Nat.Bits.{bit_at_xor, bit_at_cat_low, bit_at-suc, bit_at-lt, bit_at_lowest, shr_and_one}
use Rattle.std.proofs.lemmas.Bool.{cases_lt}
use Rattle.std.proofs.lemmas.List.{length-replicate, get_or-replicate, get_or_past, replicate-append-replicate}
use Rattle.std.proofs.lemmas.List.Elements.{All-append}
use Rattle.hpe_base.specs.Lists.{joined}
use Rattle.hpe_base.specs.Bits.{bits_of, octet_bits, number_of, xor, AreBits, zeros}
use Rattle.hpe_base.specs.Check.{add_front}

-- a number is written in as many bits as are asked for
pub length-bits_of : (w n : ℕ) → length (bits_of w n) ≡ w
unfolding bits_of
length-bits_of zero n = refl
length-bits_of (suc w) n = ap suc (length-bits_of w n)

-- place i of them is bit w - 1 - i of the number
pub get_or-bits_of : (w n i d : ℕ) → i < w → get_or (bits_of w n) i d ≡ bit_at n (w - 1 - i)
unfolding bits_of
get_or-bits_of zero n i d h = absurd (omega arith)
get_or-bits_of (suc w) n zero d h = let e : w ≡ suc w - 1 - zero = omega arith in ap (bit_at n) e
get_or-bits_of (suc w) n (suc i) d h =
    let e : w - 1 - i ≡ suc w - 1 - suc i = omega arith in get_or-bits_of w n i d (omega arith) ∙ ap (bit_at n) e

-- a bit of a number, as it is shifted out
pub number_bit : (n w i : ℕ) → i < w → bit_and (n / 2 ^ (w - 1 - i)) 1 ≡ get_or (bits_of w n) i 0
number_bit n w i h = shr_and_one n (w - 1 - i) ∙ sym (get_or-bits_of w n i 0 h)

-- a list that has these bits at its places is the number's
pub bits_of_from_places : (w n : ℕ) (bits : List ℕ) → length bits ≡ w → ((k : ℕ) → k < w → get_or bits k 0 ≡ bit_at n (w - 1 - k)) → bits ≡ bits_of w n
unfolding bits_of
bits_of_from_places zero n [] l h = refl
bits_of_from_places zero n (b ∷ bits) l h = absurd (omega arith)
bits_of_from_places (suc w) n [] l h = absurd (omega arith)
bits_of_from_places (suc w) n (b ∷ bits) l h =
    let first : suc w - 1 - 0 ≡ w = omega arith in
    let head : b ≡ bit_at n w = h 0 (omega arith) ∙ ap (bit_at n) first in
    let tail : bits ≡ bits_of w n = bits_of_from_places w n bits (omega arith)
    (λ k below. let e : suc w - 1 - suc k ≡ w - 1 - k = omega arith in h (suc k) (omega arith) ∙ ap (bit_at n) e) in
    cc

-- they are bits
pub are_bits-bits_of : (w n : ℕ) → AreBits (bits_of w n)
are_bits-bits_of w n = λ k d h.
    let below : k < w = omega (arith, length-bits_of w n) in
    rw (get_or-bits_of w n k d below) (bit_at-lt n (w - 1 - k))

-- the bits of an exclusive or are those of both numbers, added modulo 2
pub bits_of-xor : (w a b : ℕ) → bits_of w (bit_xor a b) ≡ add_front (bits_of w a) (bits_of w b)
unfolding bits_of
bits_of-xor zero a b = refl
bits_of-xor (suc w) a b = rw (bit_at_xor a b w, bits_of-xor w a b) refl

-- twice the number has a 0 behind its bits
pub bits_of-double : (w n : ℕ) → bits_of (suc w) (n * 2) ≡ bits_of w n ++ 0 ∷ []
unfolding bits_of
bits_of-double zero n = let e : bit_at (n * 2) 0 ≡ 0 = bit_at_lowest (n * 2) ∙ omega arith in ap (λ b. b ∷ []) e
bits_of-double (suc w) n =
    let half : n * 2 / 2 ≡ n = omega arith in
    let e : bit_at (n * 2) (suc w) ≡ bit_at n w = bit_at-suc (n * 2) w ∙ ap (λ k. bit_at k w) half in
    let rest : bits_of (suc w) (n * 2) ≡ bits_of w n ++ 0 ∷ [] = bits_of-double w n in
    cc

-- a remainder by a power of 2 keeps the low bits
pub bit_at-mod : (n v i : ℕ) → i < v → bit_at (n % 2 ^ v) i ≡ bit_at n i
bit_at-mod n v i h =
    let e : n / 2 ^ v * 2 ^ v + n % 2 ^ v ≡ n = div-add-mod' n (2 ^ v) in
    sym (bit_at_cat_low (n / 2 ^ v) v (n % 2 ^ v) i h) ∙ ap (λ k. bit_at k i) e

-- so it is written in the same bits, as far as it keeps them
pub bits_of-mod : (w v n : ℕ) → w ≤ v → bits_of w (n % 2 ^ v) ≡ bits_of w n
unfolding bits_of
bits_of-mod zero v n h = refl
bits_of-mod (suc w) v n h = rw (bit_at-mod n v w (omega arith), bits_of-mod w v n (omega arith)) refl

-- the number that w bits of n write
pub number_of-bits_of : (w n : ℕ) → number_of (bits_of w n) ≡ n % 2 ^ w
unfolding bits_of
number_of-bits_of zero n = omega arith
number_of-bits_of (suc w) n =
    let e : 1 + w ≡ suc w = omega arith in
    rw (length-bits_of w n, number_of-bits_of w n) (sym (mod-pow-add n 1 w) ∙ ap (λ k. n % 2 ^ k) e)

-- to add to zeros changes nothing
pub add_front-zeros : (w n : ℕ) → add_front (bits_of w n) (zeros w) ≡ bits_of w n
unfolding bits_of zeros
add_front-zeros zero n = refl
add_front-zeros (suc w) n =
    let first : xor (bit_at n w) 0 ≡ bit_at n w = omega (arith, bit_at-lt n w) in
    let rest : add_front (bits_of w n) (zeros w) ≡ bits_of w n = add_front-zeros w n in
    cc

-- the order of additions modulo 2 is all one
pub xor_assoc : (x y z : ℕ) → xor x (xor y z) ≡ xor (xor x y) z
xor_assoc x y z = omega arith

-- the exclusive or of two bits
pub xor_of_bits : (a b : ℕ) → a < 2 → b < 2 → bit_xor a b ≡ xor a b
xor_of_bits a b h k =
    omega (arith, xor_lt 1 a b h k, bit_at_lowest (bit_xor a b), bit_at_xor a b 0, bit_at_lowest a, bit_at_lowest b)

-- to add ys and then xs, which is one longer, is to add their sum
pub add_front-twice : (xs ys zs : List ℕ) → length xs ≡ suc (length ys) → add_front xs (add_front ys zs) ≡ add_front (add_front xs (ys ++ 0 ∷ [])) zs
add_front-twice [] ys zs h = absurd (omega arith)
add_front-twice (x ∷ x' ∷ xs) [] zs h = absurd (omega arith)
add_front-twice (x ∷ []) [] [] h = refl
add_front-twice (x ∷ []) [] (z ∷ zs) h =
    let first : xor x z ≡ xor (xor x 0) z = omega arith in
    cc
add_front-twice (x ∷ xs) (y ∷ ys) [] h = refl
add_front-twice (x ∷ xs) (y ∷ ys) (z ∷ zs) h =
    let first : xor x (xor y z) ≡ xor (xor x y) z = xor_assoc x y z in
    let rest : add_front xs (add_front ys zs) ≡ add_front (add_front xs (ys ++ 0 ∷ [])) zs = add_front-twice xs ys zs (omega arith) in
    cc

-- no bit is bits
pub are_bits-none : AreBits []
are_bits-none k d h = absurd (omega arith)

-- a bit in front of bits
pub are_bits-cons : (b : ℕ) (bits : List ℕ) → b < 2 → AreBits bits → AreBits (b ∷ bits)
are_bits-cons b bits h k zero d l = h
are_bits-cons b bits h k (suc i) d l = k i d (omega arith)

-- bits without their first
pub are_bits-tail : (b : ℕ) (bits : List ℕ) → AreBits (b ∷ bits) → AreBits bits
are_bits-tail b bits h i d l = h (suc i) d (omega arith)

-- lists of bits, one after another
pub are_bits-joined : (n : ℕ) (f : ℕ → List ℕ) → ((k : ℕ) → AreBits (f k)) → AreBits (joined n f)
unfolding joined
are_bits-joined zero f h = are_bits-none
are_bits-joined (suc n) f h = All-append (λ b. b < 2) (joined n f) (f n) (are_bits-joined n f h) (h n)

-- the bits of octets are bits
pub are_bits-octet_bits : (octets : List ℕ) → AreBits (octet_bits octets)
are_bits-octet_bits [] k d h = absurd (omega arith)
are_bits-octet_bits (o ∷ octets) k d h =
    All-append (λ b. b < 2) (bits_of 8 o) (octet_bits octets) (are_bits-bits_of 8 o) (λ i e l. are_bits-octet_bits octets i e l) k d h

-- an octet has eight of them
pub length-octet_bits : (octets : List ℕ) → length (octet_bits octets) ≡ 8 * length octets
length-octet_bits [] = refl
length-octet_bits (o ∷ octets) =
    omega (arith, length-octet_bits octets, length-bits_of 8 o, length-append (bits_of 8 o) (octet_bits octets))

-- n zeros are n
pub length-zeros : (n : ℕ) → length (zeros n) ≡ n
unfolding zeros
length-zeros n = length-replicate n 0

-- each place of zeros is 0, also past their end
pub get_or-zeros : (n k : ℕ) → get_or (zeros n) k 0 ≡ 0
unfolding zeros
get_or-zeros n k =
    elim (cases_lt k n) [
      | inl h ↦ get_or-replicate n k 0 0 h
      | inr h ↦ get_or_past (zeros n) k 0 (omega (arith, length-zeros n))
    ]

-- zeros and zeros are zeros
pub zeros-append : (a b : ℕ) → zeros a ++ zeros b ≡ zeros (a + b)
unfolding zeros
zeros-append a b = replicate-append-replicate a b 0
