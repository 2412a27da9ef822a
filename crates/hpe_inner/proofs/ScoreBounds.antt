-- How large the scores of words are.
use Rattle.std.proofs.Common.{◌≡◌, ℕ, zero, suc, ◌+◌, ◌*◌, ◌/◌, ◌%◌, ◌≤◌, lit≤, sym, ap, ◌∙◌, subst, arith, ℤ, pos, ◌+ℤ◌, ◌-ℤ◌, ◌<ℤ◌, List, length, get_or, sum, take}
use Rattle.std.proofs.Math.Nat.{div-add-mod}
use Rattle.std.proofs.lemmas.Int.{ints}
use Rattle.hpe_base.specs.Lists.{tabulate}
use Rattle.hpe_base.specs.Parameters.{symbol_bits, codeword_symbols, positions}
use Rattle.hpe_base.specs.Accumulator.{accumulated}
use Rattle.hpe_base.specs.Mapper.{symbols_of}
use Rattle.hpe_base.specs.PathScores.{chosen_sum, pulse_sum}
use Rattle.hpe_base.specs.Sizes.{Within}
use Rattle.hpe_base.specs.declared.profile.Order.{Order}
use Rattle.hpe_base.specs.declared.profile.Order.TheVariants.{P4, P8, P16, P32, P64, P128, P256}
use Rattle.hpe_base.proofs.Tabulated.{length-tabulate, sum-tabulate-none, sum-tabulate-suc}
use Rattle.hpe_base.proofs.ParameterLemmas.{codeword_symbols-le}
use Rattle.hpe_lane.proofs.ChosenSums.{chosen-within}
use Rattle.hpe_inner.specs.Sweeps.{inner_start}
use Rattle.hpe_inner.specs.Laws.{AreOfCodeword, IsWord, InnerScoresAreBounded}
use Rattle.hpe_inner.proofs.Orders.{each_count}

-- a sum of n values is at most n times the most that each is
sum-most : (n most : ℕ) (f : ℕ → ℕ) → ((i : ℕ) → f i ≤ most) → sum (tabulate n f) ≤ n * most
sum-most zero most f h = let e = sum-tabulate-none f in omega arith
sum-most (suc n) most f h =
    let e = sum-tabulate-suc n f in
    let k = sum-most n most f h in
    let last = h n in
    omega arith

codeword_whole : (o : Order) → symbol_bits o * codeword_symbols o ≤ 15120
codeword_whole P4 = lit≤ tt
codeword_whole P8 = lit≤ tt
codeword_whole P16 = lit≤ tt
codeword_whole P32 = lit≤ tt
codeword_whole P64 = lit≤ tt
codeword_whole P128 = lit≤ tt
codeword_whole P256 = lit≤ tt

-- whole symbols that are no more than so many have no more bits than these
few_bits : (bits m most limit : ℕ) → bits % m ≡ 0 → bits / m ≤ most → m * most ≤ limit → bits ≤ limit
few_bits bits m most limit whole fits all =
    let e = div-add-mod bits m in
    let k : m * (bits / m) ≤ m * most = grind arith in
    omega arith

-- the counts at the pulses of a word
pulses-most : (o : Order) (counts : List ℕ) (x : List ℕ) → ((i : ℕ) → get_or counts i 0 ≤ 16383) → pulse_sum o counts (symbols_of o (accumulated x)) ≤ length x / symbol_bits o * 16383
pulses-most o counts x most =
    let symbols : List ℕ = symbols_of o (accumulated x) in
    let e : length symbols ≡ length x / symbol_bits o =
    length-tabulate (length (accumulated x) / symbol_bits o) _
    ∙ ap (λ (k : ℕ). k / symbol_bits o) (length-tabulate (length x) (λ j. sum (take (j + 1) x) % 2)) in
    subst (λ (n : ℕ). pulse_sum o counts symbols ≤ n * 16383) e
    (sum-most (length symbols) 16383 (λ s. get_or counts (s * positions o + get_or symbols s 0) 0) (λ s. most (s * positions o + get_or symbols s 0)))

-- a count sum and a sum of numbers, as a codeword has them
whole_size : (p : ℕ) (c : ℤ) → p ≤ 123855480 → Within 247710960 c → Within 371566440 (pos p +ℤ c)
whole_size p c h k = (let a = k.0 in omega (arith, ints), let a = k.1 in omega (arith, ints))

two_apart : (p q : ℕ) (c d : ℤ) → p ≤ 123855480 → q ≤ 123855480 → Within 247710960 c → Within 247710960 d → Within 619277400 ((pos p +ℤ c) -ℤ (pos q +ℤ d))
two_apart p q c d h i k j = (let a = k.0 in let b = j.1 in omega (arith, ints), let a = k.1 in let b = j.0 in omega (arith, ints))

start_below : (p : ℕ) (c : ℤ) → Within 247710960 c → (inner_start 1 +ℤ pos 619277400) <ℤ (pos p +ℤ c)
start_below p c k = let a = k.1 in omega (arith, ints)

numbers_size : (n : ℕ) (c : ℤ) → n ≤ 15120 → Within (n * 16383) c → Within 247710960 c
numbers_size n c h k = (let a = k.0 in omega (arith, ints), let a = k.1 in omega (arith, ints))

module _ (o : Order) (counts : List ℕ) (l : List ℤ) (given : AreOfCodeword o counts l) where
  pulses_few : (x : List ℕ) → IsWord l x → pulse_sum o counts (symbols_of o (accumulated x)) ≤ 123855480
  pulses_few x word =
      let a : length x / symbol_bits o ≤ codeword_symbols o = subst (λ (k : ℕ). k / symbol_bits o ≤ codeword_symbols o) (sym word.long) given.fits in
      let b = codeword_symbols-le o in
      let c = pulses-most o counts x (each_count counts given.most) in
      omega arith

  numbers_few : (x : List ℕ) → IsWord l x → Within 247710960 (chosen_sum l x)
  numbers_few x word =
      let n : length l ≤ 15120 = few_bits (length l) (symbol_bits o) (codeword_symbols o) 15120 given.whole given.fits (codeword_whole o) in
      let k : length x ≤ 15120 = subst (λ (k : ℕ). k ≤ 15120) (sym word.long) n in
      numbers_size (length x) (chosen_sum l x) k (chosen-within l x given.within)

-- the law
pub inner_scores_are_bounded : InnerScoresAreBounded
inner_scores_are_bounded o counts l given = record {
  size = λ x word. whole_size (pulse_sum o counts (symbols_of o (accumulated x))) (chosen_sum l x) (pulses_few o counts l given x word) (numbers_few o counts l given x word);
  apart = λ x y word other.
      two_apart (pulse_sum o counts (symbols_of o (accumulated x))) (pulse_sum o counts (symbols_of o (accumulated y))) (chosen_sum l x) (chosen_sum l y)
      (pulses_few o counts l given x word) (pulses_few o counts l given y other) (numbers_few o counts l given x word) (numbers_few o counts l given y other);
  reachable = λ x word. start_below (pulse_sum o counts (symbols_of o (accumulated x))) (chosen_sum l x) (numbers_few o counts l given x word);
}
