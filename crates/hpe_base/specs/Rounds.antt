-- Rounds between the inner and the outer code, and the verdict on a word.
use Rattle.std.specs.Prelude.{if◌then◌else◌, ℕ, zero, suc, ◌+◌, ℤ, pos, negsuc, Bool, List, take, drop, replicate}
use Rattle.std.specs.Str.{bytes_eq}
use Rattle.hpe_base.specs.Lists.{tabulate}
use Rattle.hpe_base.specs.Parameters.{Parameters, codeword_bits, information_bits, block_bits}
use Rattle.hpe_base.specs.Randomiser.{randomised}
use Rattle.hpe_base.specs.Check.{check_bits}
use Rattle.hpe_base.specs.CodeInterleaver.{pi, pi_inverse}
use Rattle.hpe_base.specs.SoftValues.{inner_extrinsic, information_soft_value, code_extrinsic}

-- 1 exactly where a soft value is above 0
abbrev pub hard_bit : ℤ → ℕ
hard_bit (pos zero) = 0
hard_bit (pos (suc n)) = 1
hard_bit (negsuc n) = 0

-- the a-priori numbers of the outer code: the inner extrinsic values, the code interleaver undone
unfoldable pub outer_numbers : Parameters → List ℕ → List ℤ → List ℤ
outer_numbers p counts l = tabulate codeword_bits (λ i. inner_extrinsic p counts l (pi_inverse i))

-- the hard bits that the outer code decides from its a-priori numbers
unfoldable pub hard_bits : Parameters → List ℤ → List ℕ
hard_bits p lo =
    tabulate (information_bits p.rate) (λ j. hard_bit (information_soft_value p.columns lo (information_bits p.rate) j))

-- the a-priori numbers of the next round: the outer extrinsic values in the interleaver's order
unfoldable pub next_numbers : Parameters → List ℤ → List ℤ
next_numbers p lo = tabulate codeword_bits (λ j. code_extrinsic p lo (pi j))

-- what a round gives: the hard bits, and the a-priori numbers of the next
pub record Round : Type 0 where
  pub hard : List ℕ
  pub next : List ℤ

-- a round over the sums of a word and the a-priori numbers of the inner code
abbrev pub round : Parameters → List ℕ → List ℤ → Round
round p counts l = let lo = outer_numbers p counts l in record { hard = hard_bits p lo; next = next_numbers p lo }

-- the last 32 hard bits are the check of the others
unfoldable pub is_right : Parameters → List ℕ → Bool
is_right p hard = bytes_eq (drop (block_bits p.rate) hard) (check_bits p.check (take (block_bits p.rate) hard))

-- a word is kept in a round with its block, or lost
pub data Verdict : Type 0 where
  Kept : ℕ → List ℕ → Verdict
  Lost : Verdict

-- of `left` rounds, the first of which is number r and has these a-priori numbers, the first that is right
unfoldable pub verdict_from : Parameters → List ℕ → ℕ → ℕ → List ℤ → Verdict
verdict_from p counts zero r l = Lost
verdict_from p counts (suc left) r l =
    let this = round p counts l in
    if is_right p this.hard
    then Kept r (randomised p (take (block_bits p.rate) this.hard))
    else verdict_from p counts left (r + 1) this.next

-- the verdict on the sums of a word: rounds from 1 on, of which the first begins with zeros
unfoldable pub verdict_of : Parameters → List ℕ → Verdict
verdict_of p counts = verdict_from p counts p.rounds 1 (replicate codeword_bits (pos 0))
