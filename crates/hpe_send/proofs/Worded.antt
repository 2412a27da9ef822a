-- The codewords of more and more bits.
use Rattle.std.proofs.Common.{◌≡◌, ◌≤◌, ◌<◌, ◌+◌, ◌*◌, ◌-◌, ◌++◌, ℕ, List, length, ap, ◌∙◌, arith, length-append}
use Rattle.std.proofs.lemmas.Nat.{div-add-mod'}
use Rattle.hpe_base.specs.Lists.{joined}
use Rattle.hpe_base.specs.Parameters.{Parameters, block_bits}
use Rattle.hpe_base.specs.Codeword.{word_symbols}
use Rattle.hpe_base.proofs.ParameterLemmas.{block_bits-pos}
use Rattle.hpe_base.proofs.Shapes.{length-joined-word_symbols}
use Rattle.hpe_send.specs.Streaming.{word_count, words_of, bit_slots}
use Rattle.hpe_io.proofs.Fronts.{IsFront}
use Rattle.hpe_send.proofs.Slotted.{slots_front}
use Rattle.hpe_base.proofs.SentFrames.{count-le, words-front, words-split}

-- the slots of fewer bits stand at the front
pub bit_slots-front : (p : Parameters) (bits more : List ℕ) → 0 < p.repeat → IsFront (bit_slots p bits) (bit_slots p (bits ++ more))
unfolding words_of
bit_slots-front p bits more repeat =
    let k = block_bits p.rate in
    let n = word_count p bits in
    let m = word_count p (bits ++ more) in
    let le : n ≤ m = count-le (length bits) (length (bits ++ more)) k (block_bits-pos p.rate) (omega (arith, length-append bits more)) in
    let fits : n * k ≤ length bits = omega (arith, div-add-mod' (length bits) k) in
    let rest = joined (m - n) (λ i. word_symbols p (bits ++ more) (n + i)) in
    let all : joined m (word_symbols p (bits ++ more)) ≡ joined n (word_symbols p bits) ++ rest =
    words-split p (bits ++ more) n m le ∙ ap (λ (l : List ℕ). l ++ rest) (words-front p bits more n fits) in
    rw all (slots_front p (joined n (word_symbols p bits)) rest n m repeat (length-joined-word_symbols p bits n) le)
