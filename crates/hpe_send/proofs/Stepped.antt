-- One bit more of a stream, and one octet more.
use Rattle.std.proofs.Common.{◌≡◌, ◌≢◌, ◌≤◌, ◌<◌, ◌+◌, ◌*◌, ◌/◌, ◌%◌, ◌-◌, ◌++◌, ℕ, List, [], ◌∷◌, length, get_or, take, drop, ap, sym, ◌∙◌, arith, length-append, append_assoc, inl, inr}
use Rattle.std.specs.Int.{div_ceil}
use Rattle.std.specs.declared.option.Option.{Option}
use Rattle.std.proofs.lemmas.Nat.{div-add-mod', mod_below, div-mul-add, mod-mul-add}
use Rattle.std.proofs.lemmas.Bool.{cases_eq}
use Rattle.std.proofs.lemmas.List.{length_push, take_more, take-append-drop}
use Rattle.hpe_base.specs.Bits.{zeros, bits_of, octet_bits}
use Rattle.hpe_base.specs.Lists.{joined}
use Rattle.hpe_base.specs.Parameters.{Parameters, block_bits}
use Rattle.hpe_base.specs.Frames.{bit_stream, frame_bits}
use Rattle.hpe_base.specs.Slicer.{block_from}
use Rattle.hpe_base.specs.Codeword.{codeword, word_symbols}
use Rattle.hpe_base.proofs.Tabulated.{joined-more}
use Rattle.hpe_base.proofs.BitLists.{length-zeros, length-bits_of, length-octet_bits}
use Rattle.hpe_base.proofs.ParameterLemmas.{block_bits-pos}
use Rattle.hpe_frame.specs.Feeding.{Feeding, marked}
use Rattle.hpe_io.specs.Devices.{GrowsByFront}
use Rattle.hpe_send.specs.Streaming.{word_count, words_of, bit_slots}
use Rattle.hpe_io.proofs.Fronts.{IsFront, grows-front}
use Rattle.hpe_send.proofs.Worded.{bit_slots-front}
use Rattle.hpe_base.proofs.SentFrames.{frames-front, words-front, words-filled}

-- a last block that is begun counts as one
ceil-begun : (n k : ℕ) → 0 < k → 0 < n % k → div_ceil n k ≡ n / k + 1
ceil-begun n k h some = omega (arith, div-add-mod' n k, mod_below n k h)

-- and a whole one too
ceil-whole : (n k : ℕ) → 0 < k → n % k ≡ 0 → div_ceil n k ≡ n / k
ceil-whole n k h none = omega (arith, div-add-mod' n k)

-- the whole units of k in n + 1 values, where the last one ends none, and where it ends one
count-same : (n k : ℕ) → 0 < k → (n + 1) % k ≢ 0 → (n + 1) / k ≡ n / k
count-same n k pos h =
    let e : n / k * k + n % k ≡ n = div-add-mod' n k in
    let r : n % k < k = mod_below n k pos in
    elim (cases_eq (n % k + 1) k) [
      | inl last ↦ absurd (
          let next : (n / k + 1) * k ≡ n / k * k + k = grind arith in
          let s : n + 1 ≡ (n / k + 1) * k + 0 = omega arith in
          h (ap (λ (m : ℕ). m % k) s ∙ mod-mul-add (n / k + 1) k 0 pos))
      | inr more ↦
          let s : n + 1 ≡ n / k * k + (n % k + 1) = omega arith in
          ap (λ (m : ℕ). m / k) s ∙ div-mul-add (n / k) k (n % k + 1) (omega arith)
    ]

count-more : (n k : ℕ) → 0 < k → (n + 1) % k ≡ 0 → (n + 1) / k ≡ n / k + 1
count-more n k pos h =
    let e : n / k * k + n % k ≡ n = div-add-mod' n k in
    let r : n % k < k = mod_below n k pos in
    elim (cases_eq (n % k + 1) k) [
      | inl last ↦
          let next : (n / k + 1) * k ≡ n / k * k + k = grind arith in
          let s : n + 1 ≡ (n / k + 1) * k + 0 = omega arith in
          ap (λ (m : ℕ). m / k) s ∙ div-mul-add (n / k + 1) k 0 pos
      | inr more ↦ absurd (
          let s : n + 1 ≡ n / k * k + (n % k + 1) = omega arith in
          let z : (n + 1) % k ≡ n % k + 1 = ap (λ (m : ℕ). m % k) s ∙ mod-mul-add (n / k) k (n % k + 1) (omega arith) in
          omega arith)
    ]

fits : (len k : ℕ) → len / k * k ≤ len
fits len k = omega (arith, div-add-mod' len k)

-- what a list and its next value make
pub next-front : (xs ys : List ℕ) (i : ℕ) → i < length ys → (xs ++ take i ys) ++ get_or ys i 0 ∷ [] ≡ xs ++ take (i + 1) ys
next-front xs ys i h = append_assoc xs (take i ys) (get_or ys i 0 ∷ []) ∙ ap (λ (l : List ℕ). xs ++ l) (sym (take_more ys i 0 h))

module _ (p : Parameters) (bits : List ℕ) (x : ℕ) where
  -- a bit that completes no block changes no count and no codeword
  pub count_same : (length bits + 1) % block_bits p.rate ≢ 0 → word_count p bits ≡ word_count p (bits ++ x ∷ [])
  count_same h = sym (ap (λ (n : ℕ). n / block_bits p.rate) (length_push bits x) ∙ count-same (length bits) (block_bits p.rate) (block_bits-pos p.rate) h)

  pub words_same : (length bits + 1) % block_bits p.rate ≢ 0 → words_of p bits ≡ words_of p (bits ++ x ∷ [])
  unfolding words_of
  words_same h =
      sym (ap (λ (n : ℕ). joined n (word_symbols p (bits ++ x ∷ []))) (sym (count_same h))
      ∙ words-front p bits (x ∷ []) (length bits / block_bits p.rate) (fits (length bits) (block_bits p.rate)))

  -- a bit that completes a block adds its codeword
  pub count_more : (length bits + 1) % block_bits p.rate ≡ 0 → word_count p bits + 1 ≡ word_count p (bits ++ x ∷ [])
  count_more h = sym (ap (λ (n : ℕ). n / block_bits p.rate) (length_push bits x) ∙ count-more (length bits) (block_bits p.rate) (block_bits-pos p.rate) h)

  pub words_more : (block : List ℕ) → (length bits + 1) % block_bits p.rate ≡ 0
      → block ≡ block_from (bits ++ x ∷ []) (block_bits p.rate) (length (bits ++ x ∷ []) / block_bits p.rate - 1)
      → words_of p bits ++ codeword p block ≡ words_of p (bits ++ x ∷ [])
  unfolding words_of
  words_more block h e =
      let w : ℕ = length bits / block_bits p.rate in
      let c : w + 1 ≡ length (bits ++ x ∷ []) / block_bits p.rate = count_more h in
      let last : length (bits ++ x ∷ []) / block_bits p.rate - 1 ≡ w = omega arith in
      let here : codeword p block ≡ word_symbols p (bits ++ x ∷ []) w = ap (codeword p) e ∙ ap (word_symbols p (bits ++ x ∷ [])) last in
      sym (ap (λ (n : ℕ). joined n (word_symbols p (bits ++ x ∷ []))) (sym c) ∙ (joined-more w (word_symbols p (bits ++ x ∷ []))
      ∙ (ap (λ (l : List ℕ). l ++ word_symbols p (bits ++ x ∷ []) w) (words-front p bits (x ∷ []) w (fits (length bits) (block_bits p.rate)))
      ∙ ap (λ (l : List ℕ). joined w (word_symbols p bits) ++ l) (sym here))))

module _ (p : Parameters) (bits : List ℕ) where
  -- the codewords of a stream that ends with a whole block
  pub words_whole : length bits % block_bits p.rate ≡ 0 → words_of p bits ≡ joined (div_ceil (length bits) (block_bits p.rate)) (word_symbols p bits)
  unfolding words_of
  words_whole h = ap (λ (n : ℕ). joined n (word_symbols p bits)) (sym (ceil-whole (length bits) (block_bits p.rate) (block_bits-pos p.rate) h))

  pub count_whole : length bits % block_bits p.rate ≡ 0 → word_count p bits ≡ div_ceil (length bits) (block_bits p.rate)
  count_whole h = sym (ceil-whole (length bits) (block_bits p.rate) (block_bits-pos p.rate) h)

  -- and of one that ends with a block that zeros fill
  pub count_begun : 0 < length bits % block_bits p.rate → word_count p bits + 1 ≡ div_ceil (length bits) (block_bits p.rate)
  count_begun h = sym (ceil-begun (length bits) (block_bits p.rate) (block_bits-pos p.rate) h)

  pub words_begun : (block : List ℕ) (m : ℕ) → 0 < length bits % block_bits p.rate → m ≡ block_bits p.rate - length bits % block_bits p.rate
      → block ≡ block_from (bits ++ zeros m) (block_bits p.rate) (length (bits ++ zeros m) / block_bits p.rate - 1)
      → words_of p bits ++ codeword p block ≡ joined (div_ceil (length bits) (block_bits p.rate)) (word_symbols p bits)
  unfolding words_of
  words_begun block m h z e =
      let k : ℕ = block_bits p.rate in
      let w : ℕ = length bits / k in
      let some : 0 < k = block_bits-pos p.rate in
      let size : length (bits ++ zeros m) ≡ (w + 1) * k + 0 =
      (let next : (w + 1) * k ≡ w * k + k = grind arith in
      omega (arith, length-append bits (zeros m), length-zeros m, div-add-mod' (length bits) k, mod_below (length bits) k some)) in
      let count : length (bits ++ zeros m) / k ≡ w + 1 = ap (λ (n : ℕ). n / k) size ∙ div-mul-add (w + 1) k 0 some in
      let last : length (bits ++ zeros m) / k - 1 ≡ w = omega arith in
      let here : codeword p block ≡ word_symbols p (bits ++ zeros m) w = ap (codeword p) e ∙ ap (word_symbols p (bits ++ zeros m)) last in
      let all : joined (w + 1) (word_symbols p (bits ++ zeros m)) ≡ joined w (word_symbols p (bits ++ zeros m)) ++ word_symbols p (bits ++ zeros m) w =
      joined-more w (word_symbols p (bits ++ zeros m)) in
      ap (λ (l : List ℕ). joined w (word_symbols p bits) ++ l) here
      ∙ (ap (λ (l : List ℕ). l ++ word_symbols p (bits ++ zeros m) w) (sym (words-filled p bits w m))
      ∙ (sym all ∙ (words-filled p bits (w + 1) m ∙ ap (λ (n : ℕ). joined n (word_symbols p bits)) (count_begun h))))

-- bits of a list that are cut off at one of them
pub bits_cut : (p : Parameters) (bits more : List ℕ) (i : ℕ) (start new : Option (List ℕ)) → 0 < p.repeat → i < length more
    → GrowsByFront start new (bit_slots p ((bits ++ take i more) ++ get_or more i 0 ∷ [])) → GrowsByFront start new (bit_slots p (bits ++ more))
bits_cut p bits more i start new repeat h cut =
    let all : (bits ++ take (i + 1) more) ++ drop (i + 1) more ≡ bits ++ more =
    append_assoc bits (take (i + 1) more) (drop (i + 1) more) ∙ ap (λ (l : List ℕ). bits ++ l) (take-append-drop (i + 1) more) in
    let front : IsFront (bit_slots p (bits ++ take (i + 1) more)) (bit_slots p (bits ++ more)) =
    rw all at (bit_slots-front p (bits ++ take (i + 1) more) (drop (i + 1) more) repeat) in
    grows-front start new (bit_slots p (bits ++ take (i + 1) more)) (bit_slots p (bits ++ more)) front (rw (next-front bits more i h) at cut)

module _ (p : Parameters) (octets : List ℕ) (x : ℕ) (some : 0 < p.frame_octets) where
  -- an octet that completes no frame changes no bit
  pub stream_same : (length octets + 1) % p.frame_octets ≢ 0 → bit_stream p octets ≡ bit_stream p (octets ++ x ∷ [])
  unfolding bit_stream
  stream_same h =
      let count : length (octets ++ x ∷ []) / p.frame_octets ≡ length octets / p.frame_octets =
      ap (λ (n : ℕ). n / p.frame_octets) (length_push octets x) ∙ count-same (length octets) p.frame_octets some h in
      sym (ap (λ (n : ℕ). joined n (frame_bits p (octets ++ x ∷ []))) count
      ∙ frames-front p octets (x ∷ []) (length octets / p.frame_octets) (fits (length octets) p.frame_octets))

  -- an octet that completes a frame adds its bits
  pub stream_more : (length octets + 1) % p.frame_octets ≡ 0
      → bit_stream p octets ++ frame_bits p (octets ++ x ∷ []) (length (octets ++ x ∷ []) / p.frame_octets - 1) ≡ bit_stream p (octets ++ x ∷ [])
  unfolding bit_stream
  stream_more h =
      let f : ℕ = length octets / p.frame_octets in
      let count : length (octets ++ x ∷ []) / p.frame_octets ≡ f + 1 =
      ap (λ (n : ℕ). n / p.frame_octets) (length_push octets x) ∙ count-more (length octets) p.frame_octets some h in
      let last : length (octets ++ x ∷ []) / p.frame_octets - 1 ≡ f = omega arith in
      sym (ap (λ (n : ℕ). joined n (frame_bits p (octets ++ x ∷ []))) count ∙ (joined-more f (frame_bits p (octets ++ x ∷ []))
      ∙ (ap (λ (l : List ℕ). l ++ frame_bits p (octets ++ x ∷ []) f) (frames-front p octets (x ∷ []) f (fits (length octets) p.frame_octets))
      ∙ ap (λ (n : ℕ). joined f (frame_bits p octets) ++ frame_bits p (octets ++ x ∷ []) n) (sym last))))

-- the bits of a frame with its marker
pub length-marked : (f : Feeding) → length f.held ≡ f.parameters.frame_octets → length (marked f) ≡ 32 + 8 * f.parameters.frame_octets
length-marked f whole =
    omega (arith, length-append (bits_of 32 f.parameters.frame_marker) (octet_bits f.held), length-bits_of 32 f.parameters.frame_marker, length-octet_bits f.held)

pub frame_end : (f f' : Feeding) (p q : Parameters) (n : ℕ) → f ≡ f' → f.parameters ≡ p → q ≡ p → n ≡ 32 + 8 * q.frame_octets
    → length f'.held ≡ f'.parameters.frame_octets → n ≡ length (marked f')
frame_end f f' p q n same of_f of_q e whole =
    let here : f'.parameters.frame_octets ≡ q.frame_octets = ap (λ (x : Parameters). x.frame_octets) (ap (λ (x : Feeding). x.parameters) (sym same) ∙ (of_f ∙ sym of_q)) in
    omega (arith, length-marked f' whole)
