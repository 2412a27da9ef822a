-- Path scores: how well a word agrees with the received counts and with a-priori numbers.
use Rattle.std.specs.Prelude.{if◌then◌else◌, ◌==◌, ℕ, ◌+◌, ◌*◌, ℤ, pos, ◌+ℤ◌, List, [], ◌∷◌, length, slice_index, sum, Bool}
use Rattle.hpe_base.specs.Lists.{tabulate}
use Rattle.hpe_base.specs.Parameters.{positions}
use Rattle.hpe_base.specs.Termination.{terminated}
use Rattle.hpe_base.specs.ConvolutionalCode.{code_bits}
use Rattle.hpe_base.specs.Accumulator.{accumulated}
use Rattle.hpe_base.specs.Mapper.{symbols_of}
use Rattle.hpe_base.specs.declared.profile.Order.{Order}

-- the sum of the numbers whose bit is 1
abbrev pub chosen_sum : List ℤ → List ℕ → ℤ
chosen_sum [] bits = pos 0
chosen_sum (z ∷ l) [] = pos 0
chosen_sum (z ∷ l) (b ∷ bits) = (if b == 1 then z else pos 0) +ℤ chosen_sum l bits

-- the sum of the counts at the pulses of symbols, the counts of each symbol being those of its pulse positions
abbrev pub pulse_sum : Order → List ℕ → List ℕ → ℕ
pulse_sum o counts symbols = sum (tabulate (length symbols) (λ s. slice_index counts (s * positions o + slice_index symbols s)))

-- the inner score of a bit word: the counts at the pulses that the accumulator and the mapper make of it, and the
-- a-priori numbers of its ones
abbrev pub inner_score : Order → List ℕ → List ℤ → List ℕ → ℤ
inner_score o counts l x = pos (pulse_sum o counts (symbols_of o (accumulated x))) +ℤ chosen_sum l x

-- the outer score of information bits: the a-priori numbers of the ones among the code bits that they give
abbrev pub outer_score : List (List Bool) → List ℤ → List ℕ → ℤ
outer_score columns l u = chosen_sum l (code_bits columns (terminated u))
