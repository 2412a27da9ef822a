-- Where each symbol's sums are its pulses, the codeword that was sent stands out, and the first round keeps its block.
use Rattle.std.proofs.Common.{◌≡◌, ◌≢◌, ◌+◌, ◌*◌, ◌<◌, ◌≤◌, ℕ, List, [], length, get_or, map, take, sym, ◌∙◌, ap, arith}
use Rattle.std.specs.Prelude.{if◌then◌else◌, ◌==◌}
use Rattle.std.specs.List.{flat_map}
use Rattle.std.proofs.lemmas.Bool.Decides.{nat_tests}
use Rattle.std.proofs.lemmas.List.{length-take-le}
use Rattle.std.proofs.lemmas.List.Concat.{get_or-flat_map}
use Rattle.std.proofs.lemmas.List.Folds.{flat_map-map}
use Rattle.hpe_base.specs.Lists.{tabulate}
use Rattle.hpe_base.specs.Parameters.{Parameters, IsValid, positions, block_bits, period_slots}
use Rattle.hpe_base.specs.Frames.{bit_stream}
use Rattle.hpe_base.specs.Slicer.{block_count, block_from}
use Rattle.hpe_base.specs.Codeword.{codeword, word_symbols}
use Rattle.hpe_base.specs.Rounds.{Verdict, Kept, Lost, verdict_of}
use Rattle.hpe_base.specs.Decoded.{verdicts_of}
use Rattle.hpe_base.proofs.Pieces.{length-flat_map-each}
use Rattle.hpe_base.proofs.Tabulated.{length-tabulate, get_or-tabulate}
use Rattle.hpe_base.proofs.Shapes.{codeword-lt, are_bits-bit_stream, are_bits-block_from, length-block_from}
use Rattle.hpe_turn.specs.Dominance.{Dominates}
use Rattle.hpe_turn.proofs.Sent.{sent_is_kept}
use Rattle.hpe_clear.specs.Laws.{clear_counts}
use Rattle.hpe_clear.proofs.SeenSymbols.{pulse_sums, map_from_places}
use Rattle.hpe_clear.proofs.SeenWords.{word_sums, words_clear}

-- position v of symbol s
pulse_at : (p : Parameters) (symbols : List ℕ) (s v : ℕ) → s < length symbols → v < positions p.order →
    get_or (flat_map (pulse_sums p) symbols) (s * positions p.order + v) 0 ≡ (if v == get_or symbols s 0 then p.repeat else 0)
pulse_at p symbols s v hs hv =
    let m : ℕ = positions p.order in
    let each : (x : ℕ) → length (pulse_sums p x) ≡ m = λ x. length-tabulate m _ in
    let before : length (flat_map (pulse_sums p) (take s symbols)) ≡ s * m =
    length-flat_map-each (pulse_sums p) m each (take s symbols) ∙ ap (λ n. n * m) (length-take-le s symbols (omega arith)) in
    ap (λ n. get_or (flat_map (pulse_sums p) symbols) (n + v) 0) (sym before)
    ∙ (get_or-flat_map (pulse_sums p) symbols s v 0 0 hs (omega (arith, each (get_or symbols s 0)))
    ∙ get_or-tabulate m (λ u. if u == get_or symbols s 0 then p.repeat else 0) v 0 hv)

other_less : (q v x : ℕ) → 1 ≤ q → v ≢ x → (if v == x then q else 0) < (if x == x then q else 0)
other_less q v x h ne = grind (arith, nat_tests)

-- the codeword that was sent stands out
stands_out : (p : Parameters) (block : List ℕ) → 1 ≤ p.repeat → Dominates (positions p.order) (flat_map (pulse_sums p) (codeword p block)) (codeword p block)
stands_out p block low s v hs hv ne =
    let symbols : List ℕ = codeword p block in
    rw (pulse_at p symbols s v hs hv, pulse_at p symbols s (get_or symbols s 0) hs (codeword-lt p block s hs))
    (other_less p.repeat v (get_or symbols s 0) low ne)

-- block w of a stream
abbrev pub block_sent : Parameters → List ℕ → ℕ → List ℕ
block_sent p octets w = block_from (bit_stream p octets) (block_bits p.rate) w

-- the verdict on a word
abbrev verdict_on : Parameters → List (List ℕ) → Verdict
verdict_on p word = verdict_of p (flat_map (λ sums. sums) word)

verdict_clear : (p : Parameters) (octets : List ℕ) (w : ℕ) → IsValid p → verdict_on p (word_sums p octets w) ≡ Kept 1 (block_sent p octets w)
verdict_clear p octets w v =
    let block : List ℕ = block_sent p octets w in
    ap (verdict_of p) (flat_map-map (λ sums. sums) (pulse_sums p) (word_symbols p (bit_stream p octets) w))
    ∙ sent_is_kept p v block (flat_map (pulse_sums p) (codeword p block))
    (are_bits-block_from (bit_stream p octets) (block_bits p.rate) w (are_bits-bit_stream p octets))
    (length-block_from (bit_stream p octets) (block_bits p.rate) w) (stands_out p block v.range.repeat_low)

-- the verdicts of a clear channel
pub verdicts_clear : (p : Parameters) (octets : List ℕ) (d : ℕ) → IsValid p → d < period_slots p →
    verdicts_of p (clear_counts p octets d) ≡ tabulate (block_count p octets) (λ w. Kept 1 (block_sent p octets w))
unfolding verdicts_of
verdicts_clear p octets d v h =
    let n : ℕ = block_count p octets in
    ap (map (verdict_on p)) (words_clear p octets d v h)
    ∙ sym (map_from_places (verdict_on p) (tabulate n (word_sums p octets)) [] Lost n (λ w. Kept 1 (block_sent p octets w)) (length-tabulate n (word_sums p octets))
    (λ w b. sym (ap (verdict_on p) (get_or-tabulate n (word_sums p octets) w [] b) ∙ verdict_clear p octets w v)))
