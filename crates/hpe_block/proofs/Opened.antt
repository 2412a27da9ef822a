-- A closed block, taken apart again.
use Rattle.std.proofs.Common.{◌≡◌, ◌+◌, ◌-◌, ◌^◌, ◌++◌, ℕ, List, [], ◌∷◌, length, take, drop, sym, ◌∙◌, ap, arith, length-append, replicate, ◌%◌, true}
use Rattle.std.proofs.lemmas.List.{take_at, drop_at}
use Rattle.std.proofs.lemmas.Slice.Eq.{bytes_eq-Decides}
use Rattle.std.specs.Str.{bytes_eq}
use Rattle.hpe_base.specs.Bits.{AreBits, zeros}
use Rattle.hpe_base.specs.Check.{divide, add_front, check_bits}
use Rattle.hpe_base.specs.Randomiser.{randomised}
use Rattle.hpe_base.specs.Termination.{closed_block}
use Rattle.hpe_base.specs.Parameters.{Parameters, block_bits}
use Rattle.hpe_base.specs.Parameters.{information_bits}
use Rattle.hpe_base.specs.Rounds.{is_right}
use Rattle.hpe_base.proofs.BitLists.{length-bits_of, bits_of-mod}
use Rattle.hpe_base.proofs.ParameterLemmas.{code_steps-ge}
use Rattle.hpe_base.proofs.Shapes.{length-randomised, are_bits-randomised}
use Rattle.hpe_block.specs.Division.{divided_by}
use Rattle.hpe_block.proofs.Division.{divided_by_check}

-- the check has 32 bits
length-check_bits : (check : ℕ) (bits : List ℕ) → AreBits bits → length (check_bits check bits) ≡ 32
unfolding check_bits
length-check_bits check bits are =
    let low : ℕ = check % 2 ^ 32 in
    let same : check_bits low bits ≡ check_bits check bits =
    ap (λ generator. divide (length bits) generator (add_front (replicate 32 1) (bits ++ zeros 32))) (bits_of-mod 32 32 check (omega arith)) in
    ap (λ (l : List ℕ). length l) (sym (divided_by_check low bits (omega arith) are ∙ same)) ∙ length-bits_of 32 (divided_by low (2 ^ 32 - 1) bits)

module _ (mixed check word : List ℕ) (k : ℕ) (long : length mixed ≡ k) (size : length check ≡ 32) (is : word ≡ take (k + 32) (mixed ++ check ++ 0 ∷ 0 ∷ [])) where
  -- the parts of the word, without the termination
  parts : word ≡ mixed ++ check
  parts = is ∙ take_at (mixed ++ check) (0 ∷ 0 ∷ []) (k + 32) (omega (arith, length-append mixed check))

  front_part : take k word ≡ mixed
  front_part = ap (take k) parts ∙ take_at mixed check k long

  back_part : drop k word ≡ check
  back_part = ap (drop k) parts ∙ drop_at mixed check k long

-- the word of a closed block has the randomised block in front and is right
pub record IsOpened (p : Parameters) (block word : List ℕ) : Type 0 where
  pub front : take (block_bits p.rate) word ≡ randomised p block
  pub right : is_right p word ≡ true

pub opened : (p : Parameters) (block word : List ℕ) → length block ≡ block_bits p.rate →
    word ≡ take (information_bits p.rate) (closed_block p block) → IsOpened p block word
unfolding is_right
opened p block word long is =
    let k : ℕ = block_bits p.rate in
    let mixed : List ℕ = randomised p block in
    let check : List ℕ = check_bits p.check mixed in
    let same : length mixed ≡ k = length-randomised p block ∙ long in
    let size : length check ≡ 32 = length-check_bits p.check mixed (are_bits-randomised p block) in
    let all : information_bits p.rate ≡ k + 32 = omega (arith, code_steps-ge p.rate) in
    let word_is : word ≡ take (k + 32) (mixed ++ check ++ 0 ∷ 0 ∷ []) = is ∙ ap (λ n. take n (closed_block p block)) all in
    let front : take k word ≡ mixed = front_part mixed check word k same size word_is in
    let back : drop k word ≡ check = back_part mixed check word k same size word_is in
    record { front = front; right = (bytes_eq-Decides (drop k word) (check_bits p.check (take k word))).1 (back ∙ ap (check_bits p.check) (sym front)) }

-- the test of the check is that of the word
pub tested : (p : Parameters) (word information back right : List ℕ) →
    information ≡ take (block_bits p.rate) word → back ≡ drop (block_bits p.rate) word → right ≡ check_bits p.check information →
    bytes_eq back right ≡ is_right p word
unfolding is_right
tested p word information back right i b r =
    ap (λ l. bytes_eq l right) b ∙ ap (λ l. bytes_eq (drop (block_bits p.rate) word) l) (r ∙ ap (check_bits p.check) i)
