-- The inverse undoes the interleaver, and the flush is enough and not too much.
use Rattle.std.proofs.Common.{◌≡◌, ◌<◌, ◌≤◌, ◌+◌, ◌-◌, ◌*◌, ◌/◌, ◌%◌, ℕ, List, ◌++◌, length, get_or, ap, sym, ◌∙◌, arith, if◌then◌else◌, length-append, take, nat_le, true, inl, inr}
use Rattle.std.proofs.lemmas.Bool.{le-leb, cases_eq}
use Rattle.std.proofs.lemmas.Nat.{mod_below, div-add-mod'}
use Rattle.std.proofs.lemmas.List.{get_or-take, length-take, take_all, take-append-le, take-take}
use Rattle.hpe_base.specs.Lists.{tabulate}
use Rattle.hpe_base.specs.Bits.{zeros}
use Rattle.hpe_base.specs.Parameters.{Parameters, interleaver_depth, codeword_symbols}
use Rattle.hpe_base.specs.ChannelInterleaver.{delay_at, channel_at, interleaved_channel, deinterleaved_channel}
use Rattle.std.specs.Int.{div_ceil}
use Rattle.hpe_base.specs.Slots.{flush_words}
use Rattle.hpe_base.proofs.Tabulated.{tabulate_from_places, get_or-tabulate}
use Rattle.hpe_base.proofs.Channels.{length-interleaved_channel}
use Rattle.hpe_base.proofs.ParameterLemmas.{codeword_symbols-ge, delay_at-le}
use Rattle.hpe_weave.specs.Laws.{returned, ComesBack, ChannelInterleaverIsUndone}
use Rattle.hpe_weave.proofs.TurnLemmas.{next-row}
use Rattle.hpe_weave.proofs.UnweaverLemmas.{same-row}
use Rattle.hpe_base.proofs.BitLists.{length-zeros}

-- a delay in whole turns
delay-turns : (r rows delay : ℕ) → r * rows * delay ≡ r * delay * rows
delay-turns r rows delay = omega arith

-- the place from which a symbol is taken back has the delay of its own place
delay-same : (p : Parameters) (v : ℕ) → 0 < p.rows → delay_at p (v + delay_at p v) ≡ delay_at p v
delay-same p v pos =
    ap (λ (r : ℕ). r * p.rows * p.delay) (sym (same-row p.rows (v % p.rows * p.delay) v (v + delay_at p v) pos (ap (λ (k : ℕ). v + k) (sym (delay-turns (v % p.rows) p.rows p.delay)))))

-- the interleaver sends the symbol of a place where the inverse looks for it
undo : (p : Parameters) (s : List ℕ) (v : ℕ) → 0 < p.rows → channel_at p s (v + delay_at p v) ≡ get_or s v 0
undo p s v pos =
    let d : delay_at p (v + delay_at p v) ≡ delay_at p v = delay-same p v pos in
    let le : nat_le (delay_at p v) (v + delay_at p v) ≡ true = le-leb (delay_at p v) (v + delay_at p v) (omega arith) in
    let back : v + delay_at p v - delay_at p v ≡ v = omega arith in
    ap (λ (k : ℕ). if nat_le k (v + delay_at p v) then get_or s (v + delay_at p v - k) 0 else 0) d
    ∙ (λ i. if le i then get_or s (back i) 0 else 0)

-- the inverse gives the symbols that were pushed, but for the last ones
pub restored-channel : (p : Parameters) (d : ℕ) (t : List ℕ) → 0 < p.rows → deinterleaved_channel p d (interleaved_channel p t) ≡ take (length t - interleaver_depth p) t
unfolding interleaved_channel deinterleaved_channel
restored-channel p d t pos =
    let n = length t - interleaver_depth p in
    let at = λ (v : ℕ). get_or (interleaved_channel p t) (v + delay_at p v) d in
    let len : length (interleaved_channel p t) ≡ length t = length-interleaved_channel p t in
    ap (λ (k : ℕ). tabulate (k - interleaver_depth p) at) len
    ∙ sym (tabulate_from_places n at (take n t) 0 (let z = length-take n t in omega arith) (λ v b.
    get_or-take n t v 0 b
    ∙ sym (get_or-tabulate (length t) (channel_at p t) (v + delay_at p v) d (let e = delay_at-le p v pos in omega arith) ∙ undo p t v pos)))

-- the flush reaches the depth, by less than a codeword
record IsFlush (depth size n : ℕ) : Type 0 where
  pub enough : depth ≤ n * size
  pub close : n * size < depth + size

-- the flush of a profile does both
is_flush : (depth size : ℕ) → 0 < size → IsFlush depth size (div_ceil depth size)
is_flush depth size pos =
    let e : depth / size * size + depth % size ≡ depth = div-add-mod' depth size in
    let r : depth % size < size = mod_below depth size pos in
    elim (cases_eq (depth % size) 0) [
      | inl none ↦ (let z : div_ceil depth size ≡ depth / size = omega arith in rw z (record { enough = omega arith; close = omega arith }))
      | inr some ↦ (let z : div_ceil depth size ≡ depth / size + 1 = omega arith in
          let step : (depth / size + 1) * size ≡ depth / size * size + size = next-row (depth / size) size in
          rw z (record { enough = omega arith; close = omega arith }))
    ]

-- the symbols come back, and fewer than a codeword more
comes_back : (p : Parameters) (d : ℕ) (s : List ℕ) → 0 < p.rows → 0 < codeword_symbols p.order → ComesBack p d s
comes_back p d s pos some =
    let z = zeros (flush_words p * codeword_symbols p.order) in
    let f : IsFlush (interleaver_depth p) (codeword_symbols p.order) (flush_words p) = is_flush (interleaver_depth p) (codeword_symbols p.order) some in
    let e = f.enough in
    let c = f.close in
    let lz : length z ≡ flush_words p * codeword_symbols p.order = length-zeros (flush_words p * codeword_symbols p.order) in
    let l : length (s ++ z) ≡ length s + length z = length-append s z in
    let n = length (s ++ z) - interleaver_depth p in
    let r : returned p d s ≡ take n (s ++ z) = restored-channel p d (s ++ z) pos in
    let long : length (take n (s ++ z)) ≡ n = (let k = length-take n (s ++ z) in omega arith) in
    record {
      front = ap (take (length s)) r ∙ take-take (length s) n (s ++ z) (omega arith) ∙ take-append-le (length s) s z (omega arith) ∙ take_all (length s) s (omega arith);
      few = rw (r, long) (omega arith);
    }

-- the law
pub channel_interleaver_is_undone : ChannelInterleaverIsUndone
channel_interleaver_is_undone p d s valid = comes_back p d s valid.range.rows_low (omega (arith, codeword_symbols-ge p.order))
