-- What is sent of the first octets or bits stays as more come.
use Rattle.std.proofs.Common.{◌≡◌, ◌≤◌, ◌<◌, ◌+◌, ◌*◌, ◌/◌, ◌%◌, ◌-◌, ◌++◌, ℕ, List, length, get_or, take, drop, ap, sym, ◌∙◌, refl, arith, length-append, inl, inr}
use Rattle.std.proofs.lemmas.Nat.{mul-le, div-add-mod', le-div}
use Rattle.std.proofs.lemmas.Bool.{cases_lt}
use Rattle.std.proofs.lemmas.List.{take-append-le, drop-append-le, length-drop, get_or_append_left, get_or-append_right, get_or_past}
use Rattle.hpe_base.specs.Lists.{joined}
use Rattle.hpe_base.specs.Bits.{zeros, bits_of, octet_bits}
use Rattle.hpe_base.specs.Parameters.{Parameters, block_bits}
use Rattle.hpe_base.specs.Frames.{bit_stream, frame_count, frame, frame_bits}
use Rattle.hpe_base.specs.Slicer.{block_from}
use Rattle.hpe_base.specs.Codeword.{codeword, word_symbols}
use Rattle.hpe_base.proofs.Tabulated.{tabulate-same, joined-same, joined-append}
use Rattle.hpe_base.proofs.BitLists.{get_or-zeros}

-- no more whole sizes in fewer
pub count-le : (a b size : ℕ) → 0 < size → a ≤ b → a / size ≤ b / size
count-le a b size pos h =
    let e : a / size * size + a % size ≡ a = div-add-mod' a size in
    le-div (a / size) b size pos (omega arith)

-- a frame whose octets came already stays
frame-front : (p : Parameters) (octets more : List ℕ) (f : ℕ) → (f + 1) * p.frame_octets ≤ length octets → frame p (octets ++ more) f ≡ frame p octets f
frame-front p octets more f h =
    let size = p.frame_octets in
    let e : (f + 1) * size ≡ f * size + size = grind arith in
    ap (take (f * size + size - f * size)) (drop-append-le (f * size) octets more (omega arith))
    ∙ take-append-le (f * size + size - f * size) (drop (f * size) octets) more (omega (arith, length-drop (f * size) octets))

-- the frames of the first octets stay as more come
pub frames-front : (p : Parameters) (octets more : List ℕ) (n : ℕ) → n * p.frame_octets ≤ length octets
    → joined n (frame_bits p (octets ++ more)) ≡ joined n (frame_bits p octets)
frames-front p octets more n h =
    joined-same n (frame_bits p (octets ++ more)) (frame_bits p octets) (λ f b.
    let fits : (f + 1) * p.frame_octets ≤ n * p.frame_octets = grind arith in
    ap (λ (o : List ℕ). bits_of 32 p.frame_marker ++ octet_bits o) (frame-front p octets more f (omega arith)))

-- the stream of more octets goes on
pub stream-front : (p : Parameters) (octets more : List ℕ) → 0 < p.frame_octets
    → bit_stream p (octets ++ more) ≡ bit_stream p octets ++ joined (frame_count p (octets ++ more) - frame_count p octets) (λ i. frame_bits p (octets ++ more) (frame_count p octets + i))
unfolding bit_stream
stream-front p octets more pos =
    let n = frame_count p octets in
    let m = frame_count p (octets ++ more) in
    let le : n ≤ m = count-le (length octets) (length (octets ++ more)) p.frame_octets pos (omega (arith, length-append octets more)) in
    let split : n + (m - n) ≡ m = omega arith in
    let rest = joined (m - n) (λ i. frame_bits p (octets ++ more) (n + i)) in
    ap (λ (j : ℕ). joined j (frame_bits p (octets ++ more))) (sym split)
    ∙ (joined-append n (m - n) (frame_bits p (octets ++ more))
    ∙ ap (λ (l : List ℕ). l ++ rest) (frames-front p octets more n (omega (arith, div-add-mod' (length octets) p.frame_octets))))

-- a block whose bits came already stays
block-front : (bits more : List ℕ) (size w : ℕ) → (w + 1) * size ≤ length bits → block_from (bits ++ more) size w ≡ block_from bits size w
unfolding block_from
block-front bits more size w h =
    let e : (w + 1) * size ≡ w * size + size = grind arith in
    tabulate-same size (λ i. get_or (bits ++ more) (w * size + i) 0) (λ i. get_or bits (w * size + i) 0)
    (λ k b. get_or_append_left bits more 0 (w * size + k) (omega arith))

-- zeros past the end change no block
block-filled : (bits : List ℕ) (m size w : ℕ) → block_from (bits ++ zeros m) size w ≡ block_from bits size w
unfolding block_from
block-filled bits m size w =
    tabulate-same size (λ i. get_or (bits ++ zeros m) (w * size + i) 0) (λ i. get_or bits (w * size + i) 0) (λ k b.
    elim (cases_lt (w * size + k) (length bits)) [
      | inl h ↦ get_or_append_left bits (zeros m) 0 (w * size + k) h
      | inr h ↦ get_or-append_right bits (zeros m) (length bits) (w * size + k) 0 refl h
          ∙ (get_or-zeros m (w * size + k - length bits) ∙ sym (get_or_past bits (w * size + k) 0 h))
    ])

-- the codewords of the whole blocks stay as more bits come
pub words-front : (p : Parameters) (bits more : List ℕ) (n : ℕ) → n * block_bits p.rate ≤ length bits
    → joined n (word_symbols p (bits ++ more)) ≡ joined n (word_symbols p bits)
words-front p bits more n h =
    joined-same n (word_symbols p (bits ++ more)) (word_symbols p bits) (λ w b.
    let m : (w + 1) * block_bits p.rate ≤ n * block_bits p.rate = mul-le (w + 1) (block_bits p.rate) n (block_bits p.rate) (omega arith) (omega arith) in
    ap (codeword p) (block-front bits more (block_bits p.rate) w (omega arith)))

-- and as zeros fill the last one
pub words-filled : (p : Parameters) (bits : List ℕ) (n m : ℕ) → joined n (word_symbols p (bits ++ zeros m)) ≡ joined n (word_symbols p bits)
words-filled p bits n m =
    joined-same n (word_symbols p (bits ++ zeros m)) (word_symbols p bits) (λ w b. ap (codeword p) (block-filled bits m (block_bits p.rate) w))

-- the codewords of n blocks, and of those after them
pub words-split : (p : Parameters) (bits : List ℕ) (n m : ℕ) → n ≤ m
    → joined m (word_symbols p bits) ≡ joined n (word_symbols p bits) ++ joined (m - n) (λ i. word_symbols p bits (n + i))
words-split p bits n m h =
    let split : n + (m - n) ≡ m = omega arith in
    ap (λ (j : ℕ). joined j (word_symbols p bits)) (sym split) ∙ joined-append n (m - n) (word_symbols p bits)
