-- Behind dark slots, the sums of each symbol are its pulses, and the channel interleaver is undone for them as for the
-- symbols.
use Rattle.std.proofs.Common.{◌≡◌, ◌+◌, ◌-◌, ◌*◌, ◌/◌, ◌%◌, ◌<◌, ◌≤◌, ℕ, List, [], length, get_or, map, sym, ◌∙◌, ap, arith}
use Rattle.std.specs.Prelude.{if◌then◌else◌, ◌==◌, nat_lt, min}
use Rattle.std.proofs.lemmas.Nat.{div-mul-add, div_below, div-add-mod'}
use Rattle.std.proofs.lemmas.Bool.Decides.{nat_tests}
use Rattle.std.proofs.lemmas.List.{length-map, get_or-map}
use Rattle.hpe_base.specs.Lists.{tabulate}
use Rattle.hpe_base.specs.Parameters.{Parameters, clamp, positions, sending_slots, symbol_slots, period_slots, codeword_symbols, interleaver_depth}
use Rattle.hpe_base.specs.ChannelInterleaver.{delay_at, deinterleaved_channel}
use Rattle.hpe_base.specs.ReceivedWords.{symbol_sums, received_sums, channel_sums}
use Rattle.hpe_base.proofs.ParameterLemmas.{positions-lt, codeword_symbols-ge, delay_at-le}
use Rattle.hpe_base.proofs.Tabulated.{length-tabulate, get_or-tabulate, tabulate_from_places, tabulate-same, sum-tabulate-each}
use Rattle.hpe_clear.proofs.SeenSlots.{seen, length-seen, seen_at}

-- the sums of a symbol that was sent: each sending is counted at its position, and nothing at the others
abbrev pub pulse_sums : Parameters → ℕ → List ℕ
pulse_sums p symbol = tabulate (positions p.order) (λ v. if v == symbol then p.repeat else 0)

-- a list of values that f makes of the elements
pub map_from_places : {X Y : Type 0} (f : X → Y) (xs : List X) (d : X) (e : Y) (n : ℕ) (g : ℕ → Y) → length xs ≡ n → ((k : ℕ) → k < n → g k ≡ f (get_or xs k d)) → tabulate n g ≡ map f xs
map_from_places f xs d e n g l h =
    sym (tabulate_from_places n g (map f xs) e (length-map xs f ∙ l) (λ k b. get_or-map f xs k d e (omega arith) ∙ sym (h k b)))

repeated : (q v x : ℕ) → q * (if v == x then 1 else 0) ≡ (if v == x then q else 0)
repeated q v x = grind (arith, nat_tests)

data_symbol : (k r gs m : ℕ) (symbols : List ℕ) → (if nat_lt (k + r) k then m else get_or symbols (gs + (k + r) - k) 0) ≡ get_or symbols (gs + r) 0
data_symbol k r gs m symbols =
    let e : gs + (k + r) - k ≡ gs + r = omega arith in
    grind (arith, nat_tests)

sum_eq : (d g r i v : ℕ) → d + g + r + i + v ≡ d + (g + (r + (i + v)))
sum_eq d g r i v = omega arith

-- few sendings of single counts aren't cut
cut_pulse : (q v x : ℕ) → q ≤ 32 → min clamp (if v == x then q else 0) ≡ (if v == x then q else 0)
cut_pulse q v x few = grind (arith, nat_tests)

-- the sums of symbol r of period g
symbol_seen : (p : Parameters) (symbols : List ℕ) (n d g r : ℕ) → p.repeat ≤ 32 → g < n → r < codeword_symbols p.order →
    symbol_sums p (seen p symbols n d) (d + g * period_slots p + (length p.marker + r) * symbol_slots p) ≡ pulse_sums p (get_or symbols (g * codeword_symbols p.order + r) 0)
unfolding symbol_sums
symbol_seen p symbols n d g r few hg hr =
    tabulate-same (positions p.order) _ _ (λ v hv.
    ap (min clamp) (sum-tabulate-each p.repeat (if v == get_or symbols (g * codeword_symbols p.order + r) 0 then 1 else 0) _ (λ i hi.
    ap (λ k. get_or (seen p symbols n d) k 0) (sum_eq d (g * period_slots p) ((length p.marker + r) * symbol_slots p) (i * sending_slots p.order) v)
    ∙ (seen_at p symbols n d g (length p.marker + r) i v hg (omega arith) hi (omega (arith, positions-lt p.order))
    ∙ ap (λ x. if v == x then 1 else 0) (data_symbol (length p.marker) r (g * codeword_symbols p.order) _ symbols)))
    ∙ repeated p.repeat v _)
    ∙ cut_pulse p.repeat v _ few)

-- the sums of all symbols, markers left out
pub symbols_seen : (p : Parameters) (symbols : List ℕ) (n d : ℕ) → p.repeat ≤ 32 → 0 < period_slots p → length symbols ≡ n * codeword_symbols p.order →
    channel_sums p (seen p symbols n d) d ≡ map (pulse_sums p) symbols
unfolding channel_sums
symbols_seen p symbols n d few pos l =
    let s : ℕ = codeword_symbols p.order in
    let some : 0 < s = omega (arith, codeword_symbols-ge p.order) in
    let rest : length (seen p symbols n d) - d ≡ n * period_slots p + 0 = omega (arith, length-seen p symbols n d) in
    let periods : (length (seen p symbols n d) - d) / period_slots p ≡ n = ap (λ k. k / period_slots p) rest ∙ div-mul-add n (period_slots p) 0 pos in
    ap (λ k. tabulate (k * s) (received_sums p (seen p symbols n d) d)) periods
    ∙ map_from_places (pulse_sums p) symbols 0 [] (n * s) _ l (λ t ht.
    symbol_seen p symbols n d (t / s) (t % s) few (div_below t s n some ht) (omega arith)
    ∙ ap (λ k. pulse_sums p (get_or symbols k 0)) (div-add-mod' t s))

-- the inverse of the channel interleaver moves values and leaves them as they are
pub deinterleaved-map : {X Y : Type 0} (p : Parameters) (f : X → Y) (xs : List X) (d : X) (e : Y) → 0 < p.rows →
    deinterleaved_channel p e (map f xs) ≡ map f (deinterleaved_channel p d xs)
unfolding deinterleaved_channel
deinterleaved-map p f xs d e pos =
    let n : ℕ = length xs - interleaver_depth p in
    let at = λ (v : ℕ). get_or xs (v + delay_at p v) d in
    ap (λ k. tabulate (k - interleaver_depth p) (λ v. get_or (map f xs) (v + delay_at p v) e)) (length-map xs f)
    ∙ map_from_places f (tabulate n at) d e n _ (length-tabulate n at) (λ k b.
    get_or-map f xs (k + delay_at p k) d e (omega (arith, delay_at-le p k pos))
    ∙ ap f (sym (get_or-tabulate n at k d b)))
