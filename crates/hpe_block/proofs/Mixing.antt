-- The state of a run that adds the pseudo-random sequence to bits.
use Rattle.std.proofs.Common.{◌≡◌, ◌<◌, ◌≤◌, ◌+◌, ◌%◌, ◌*◌, ℕ, sum, get_or, length, List, arith, sym, ◌∙◌, ap, refl, below_more, get_or-set_same, bit_and, bit_xor}
use Rattle.std.proofs.Math.ListN.{set}
use Rattle.std.specs.Int.{bit_at, reverse_bits_onto}
use Rattle.std.proofs.lemmas.Grind.{common_steps}
use Rattle.std.proofs.lemmas.List.Elements.{All-from_get_or, All-get_or}
use Rattle.std.proofs.lemmas.Nat.{mod_below, and_mask}
use Rattle.std.proofs.lemmas.Nat.Bits.{bit_at_lowest, bit_at-lt}
use Rattle.hpe_base.specs.Lists.{tabulate}
use Rattle.hpe_base.specs.Bits.{xor, AreBits}
use Rattle.hpe_base.specs.Randomiser.{pseudo_random, randomised}
use Rattle.hpe_base.specs.Parameters.{Parameters}
use Rattle.hpe_base.proofs.Tabulated.{tabulate_from_places, length-tabulate, get_or-tabulate}
use Rattle.hpe_base.proofs.BitLists.{xor_of_bits}
use Rattle.hpe_block.proofs.Sequence.{HoldsFrom, holds_seed, holds_more, lowest_is}

-- the places below n hold the sum, the others are as before, and the register holds the sequence from place n on
pub record Mixing (taps seed n : ℕ) (before now : List ℕ) (register : ℕ) : Type 0 where
  pub done : (k : ℕ) → k < n → get_or now k 0 ≡ xor (get_or before k 0) (get_or (pseudo_random taps seed (length before)) k 0)
  pub rest : (k : ℕ) → n ≤ k → get_or now k 0 ≡ get_or before k 0
  pub holds : HoldsFrom taps seed n register

-- the exclusive or of a bit and the register's lowest
xor_lowest : (a register : ℕ) → a < 2 → bit_xor a (bit_and register 1) ≡ xor a (bit_at register 0)
xor_lowest a register h =
    let lowest : bit_and register 1 ≡ bit_at register 0 = and_mask register 1 ∙ sym (bit_at_lowest register) in
    ap (bit_xor a) lowest ∙ xor_of_bits a (bit_at register 0) h (bit_at-lt register 0)

-- it holds at the start
pub Mixing-none : (taps seed : ℕ) (before : List ℕ) → Mixing taps seed 0 before before (reverse_bits_onto 8 seed 0)
Mixing-none taps seed before = record { done = λ k b. absurd (omega arith); rest = λ k b. refl; holds = holds_seed taps seed }

-- it holds after one more bit
pub Mixing-more : (taps seed n : ℕ) (before now : List ℕ) (register next : ℕ) →
    n < length before → length now ≡ length before → AreBits before →
    ((i : ℕ) → i < 7 → bit_at next i ≡ bit_at register (i + 1)) → bit_at next 7 ≡ sum (tabulate 8 (λ i. bit_at taps i * bit_at register i)) % 2 →
    Mixing taps seed n before now register →
    Mixing taps seed (n + 1) before (set now n (bit_xor (get_or now n 0) (bit_and register 1))) next
Mixing-more taps seed n before now register next h l bits moved entered m = record {
  done =
      let bit : get_or now n 0 < 2 = rw (m.rest n (omega arith)) (All-get_or (λ b. b < 2) before n 0 h bits) in
      let here : get_or (set now n (bit_xor (get_or now n 0) (bit_and register 1))) n 0 ≡ xor (get_or before n 0) (get_or (pseudo_random taps seed (length before)) n 0) =
      get_or-set_same now n _ 0 (omega arith) ∙ (xor_lowest (get_or now n 0) register bit
      ∙ (ap (λ v. xor v (bit_at register 0)) (m.rest n (omega arith)) ∙ ap (xor (get_or before n 0)) (lowest_is taps seed n (length before) register (omega arith) m.holds))) in
      below_more (λ k. get_or (set now n (bit_xor (get_or now n 0) (bit_and register 1))) k 0 ≡ xor (get_or before k 0) (get_or (pseudo_random taps seed (length before)) k 0)) n
      (λ k b. grind (arith, common_steps, m.done k)) here;
  rest = λ k b. grind (arith, common_steps, m.rest k);
  holds = holds_more taps seed n register next moved entered m.holds;
}

-- at the end the bits are the sums
pub Mixing-all : (taps seed n : ℕ) (before now : List ℕ) (register : ℕ) → length now ≡ length before → length before ≤ n → Mixing taps seed n before now register →
    now ≡ tabulate (length before) (λ k. xor (get_or before k 0) (get_or (pseudo_random taps seed (length before)) k 0))
Mixing-all taps seed n before now register l h m =
    tabulate_from_places (length before) _ now 0 l (λ k b. m.done k (omega arith))

-- at the end they are bits
pub Mixing-bits : (taps seed n : ℕ) (before now : List ℕ) (register : ℕ) → length now ≡ length before → length before ≤ n → Mixing taps seed n before now register → AreBits now
Mixing-bits taps seed n before now register l h m =
    All-from_get_or (λ b. b < 2) now 0 (λ k b. rw (m.done k (omega arith)) (mod_below _ 2 (omega arith)))

-- to randomise again gives the bits as they were
pub randomised_twice : (p : Parameters) (bits : List ℕ) → AreBits bits → randomised p (randomised p bits) ≡ bits
randomised_twice p bits h =
    let sequence : ℕ → List ℕ = pseudo_random p.taps p.seed in
    let len : length (randomised p bits) ≡ length bits = length-tabulate (length bits) _ in
    sym (tabulate_from_places (length (randomised p bits)) _ bits 0 (sym len) (λ k b.
    let within : k < length bits = omega arith in
    let once : get_or (randomised p bits) k 0 ≡ xor (get_or bits k 0) (get_or (sequence (length bits)) k 0) = get_or-tabulate (length bits) _ k 0 within in
    let same : get_or (sequence (length (randomised p bits))) k 0 ≡ get_or (sequence (length bits)) k 0 = ap (λ n. get_or (sequence n) k 0) len in
    let bit : get_or bits k 0 < 2 = All-get_or (λ b. b < 2) bits k 0 within h in
    omega arith))
