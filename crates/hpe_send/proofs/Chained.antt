-- Bits and octets that went through the stages of the sender, and the end of a stream.
use Rattle.std.proofs.Common.{◌≡◌, ◌≢◌, ◌<◌, ◌+◌, ◌*◌, ◌/◌, ◌++◌, ◌↔◌, ◌==◌, ℕ, Bool, true, false, List, [], Result, Ok, Err, OnOk, ap, sym, ◌∙◌, refl, subst, arith, inl, inr, if◌then◌else◌}
use Rattle.std.specs.Prelude.{IsTrue}
use Rattle.std.specs.declared.option.Option.{Option}
use Rattle.std.proofs.lemmas.Nat.{div-mul-add}
use Rattle.std.proofs.lemmas.Bool.{cases_eq, eq-eqb, ne_eqb}
use Rattle.hpe_base.specs.Bits.{zeros}
use Rattle.hpe_base.specs.Lists.{joined}
use Rattle.hpe_base.specs.Parameters.{Parameters, block_bits, codeword_symbols}
use Rattle.hpe_base.specs.Frames.{bit_stream, frame_bits}
use Rattle.hpe_base.specs.Slicer.{block_count}
use Rattle.hpe_base.specs.Codeword.{word_symbols}
use Rattle.hpe_base.specs.Slots.{octets_to, slots_of, sent_symbols, period_count, flush_words}
use Rattle.hpe_base.proofs.Shapes.{length-joined-word_symbols}
use Rattle.hpe_base.proofs.ParameterLemmas.{block_bits-pos}
use Rattle.hpe_block.specs.Slicing.{HasSliced}
use Rattle.hpe_frame.specs.Feeding.{HasFed}
use Rattle.hpe_send.specs.Chaining.{Chaining, HasPushed, HasTaken}
use Rattle.hpe_send.specs.Coding.{Coding, HasCoded}
use Rattle.hpe_send.specs.Streaming.{word_count, words_of}
use Rattle.hpe_send.proofs.Coded.{coded_same, slots-none}
use Rattle.hpe_io.proofs.Fronts.{IsFront}
use Rattle.hpe_send.proofs.Slotted.{slots_front}

-- what an answer of false says
pub refuted : (b : Bool) (m : ℕ) → b ≡ false → (IsTrue b ↔ (m ≡ 0)) → m ≢ 0
refuted b m f e z = let t : b ≡ true = e.1 z in cc

pub none_begun : (b : Bool) (m : ℕ) → b ≡ false → (IsTrue b ↔ (0 < m)) → m ≡ 0
none_begun b m f e =
    elim (cases_eq m 0) [
      | inl z ↦ z
      | inr some ↦ (let t : b ≡ true = e.1 (omega arith) in absurd cc)
    ]

pub slots_same : (p : Parameters) (n n' : ℕ) (symbols symbols' : List ℕ) → n ≡ n' → symbols ≡ symbols' → octets_to p n symbols ≡ octets_to p n' symbols'
slots_same p n n' symbols symbols' count list = ap (λ k. octets_to p k symbols) count ∙ ap (octets_to p n') list

pub coded_ok_same : {T E : Type 0} (result : Result T E) (c : Coding) (n n' : ℕ) (symbols symbols' : List ℕ) (start now : Option (List ℕ)) → n ≡ n' → symbols ≡ symbols'
    → OnOk result (HasCoded c n symbols start now) → OnOk result (HasCoded c n' symbols' start now)
coded_ok_same (Ok v) c n n' symbols symbols' start now count list h = coded_same c n n' symbols symbols' start now count list h
coded_ok_same (Err v) c n n' symbols symbols' start now count list h = h

-- codewords that are those of the bits
pub pushed_more : (c : Chaining) (p : Parameters) (n : ℕ) (symbols bits : List ℕ) (start now : Option (List ℕ)) → c.coder.parameters ≡ p → n ≡ word_count p bits
    → symbols ≡ words_of p bits → HasSliced c.slicer bits → HasCoded c.coder n symbols start now → HasPushed c bits start now
pushed_more c p n symbols bits start now same count list sliced coded =
    record {
      sliced = sliced;
      coded = coded_same c.coder n (word_count c.coder.parameters bits) symbols (words_of c.coder.parameters bits) start now
          (count ∙ ap (λ q. word_count q bits) (sym same)) (list ∙ ap (λ q. words_of q bits) (sym same)) coded;
    }

pub pushed_ok : {T E : Type 0} (result : Result T E) (c : Chaining) (p : Parameters) (n : ℕ) (symbols bits : List ℕ) (start now : Option (List ℕ)) → c.coder.parameters ≡ p
    → n ≡ word_count p bits → symbols ≡ words_of p bits → HasSliced c.slicer bits
    → OnOk result (HasCoded c.coder n symbols start now) → OnOk result (HasPushed c bits start now)
pushed_ok (Ok v) c p n symbols bits start now same count list sliced coded = pushed_more c p n symbols bits start now same count list sliced coded
pushed_ok (Err v) c p n symbols bits start now same count list sliced coded = coded

-- bits that are those of the octets
pub taken_more : (c : Chaining) (p : Parameters) (bits octets : List ℕ) (start now : Option (List ℕ)) → c.coder.parameters ≡ p → bits ≡ bit_stream p octets
    → HasFed c.feed octets → HasPushed c bits start now → HasTaken c octets start now
taken_more c p bits octets start now same stream fed pushed =
    record { fed = fed; pushed = subst (λ b. HasPushed c b start now) (stream ∙ ap (λ q. bit_stream q octets) (sym same)) pushed }

pub taken_ok : {T E : Type 0} (result : Result T E) (c : Chaining) (p : Parameters) (bits octets : List ℕ) (start now : Option (List ℕ)) → c.coder.parameters ≡ p
    → bits ≡ bit_stream p octets → HasFed c.feed octets → OnOk result (HasPushed c bits start now) → OnOk result (HasTaken c octets start now)
taken_ok (Ok v) c p bits octets start now same stream fed pushed = taken_more c p bits octets start now same stream fed pushed
taken_ok (Err v) c p bits octets start now same stream fed pushed = pushed

-- the stages before the first octet
nothing : (k : ℕ) → 0 < k → 0 / k ≡ 0
nothing k some = let none : 0 ≡ 0 * k + 0 = omega arith in ap (λ n. n / k) none ∙ div-mul-add 0 k 0 some

stream-none : (p : Parameters) → 0 < p.frame_octets → [] ≡ bit_stream p []
unfolding bit_stream joined
stream-none p some = ap (λ n. joined n (frame_bits p [])) (sym (nothing p.frame_octets some))

words-none : (p : Parameters) → [] ≡ words_of p []
unfolding words_of joined
words-none p = ap (λ n. joined n (word_symbols p [])) (sym (nothing (block_bits p.rate) (block_bits-pos p.rate)))

pub taken_none : (c : Chaining) (start : Option (List ℕ)) → HasFed c.feed [] → HasSliced c.slicer [] → HasCoded c.coder 0 [] start start → HasTaken c [] start start
taken_none c start fed sliced coded =
    let p = c.coder.parameters in
    taken_more c p [] [] start start refl (stream-none p coded.valid.range.frame_low) fed
    (pushed_more c p 0 [] [] start start refl (sym (nothing (block_bits p.rate) (block_bits-pos p.rate))) (words-none p) sliced coded)

-- the end of a stream of whole frames, where count periods flush the channel interleaver
module _ (p : Parameters) (octets : List ℕ) (count words : ℕ) (flush : count ≡ (if words == 0 then 0 else flush_words p)) (all : words ≡ block_count p octets) where
  pub slots_all : octets_to p (block_count p octets + count) (joined (block_count p octets) (word_symbols p (bit_stream p octets)) ++ zeros (count * codeword_symbols p.order))
      ≡ slots_of p octets
  unfolding slots_of
  slots_all =
      let m : ℕ = block_count p octets in
      let symbols : List ℕ = joined m (word_symbols p (bit_stream p octets)) in
      elim (cases_eq m 0) [
        | inl none ↦
            let w : words ≡ 0 = omega arith in
            let t : (words == 0) ≡ true = eq-eqb words 0 w in
            let u : (m == 0) ≡ true = eq-eqb m 0 none in
            let no : count ≡ 0 = flush ∙ ap (λ (b : Bool). if b then 0 else flush_words p) t in
            let here : m + count ≡ 0 = omega arith in
            let there : period_count p octets ≡ 0 = ap (λ (b : Bool). if b then 0 else m + flush_words p) u in
            ap (λ k. octets_to p k (symbols ++ zeros (count * codeword_symbols p.order))) here
            ∙ (slots-none p _ ∙ (sym (slots-none p (sent_symbols p octets)) ∙ ap (λ k. octets_to p k (sent_symbols p octets)) (sym there)))
        | inr some ↦
            let w : words ≢ 0 = λ z. some (sym all ∙ z) in
            let t : (words == 0) ≡ false = ne_eqb words 0 w in
            let u : (m == 0) ≡ false = ne_eqb m 0 some in
            let full : count ≡ flush_words p = flush ∙ ap (λ (b : Bool). if b then 0 else flush_words p) t in
            let there : period_count p octets ≡ m + flush_words p = ap (λ (b : Bool). if b then 0 else m + flush_words p) u in
            slots_same p _ _ _ _ (ap (λ k. m + k) full ∙ sym there) (ap (λ k. symbols ++ zeros (k * codeword_symbols p.order)) full)
      ]

  pub flush_end : (q r : Parameters) → q ≡ p → r ≡ p
      → octets_to q (block_count p octets + count) (joined (block_count p octets) (word_symbols p (bit_stream p octets)) ++ zeros (count * codeword_symbols r.order)) ≡ slots_of p octets
  flush_end q r same same' = rw (same, same') slots_all

  -- the slots before the flush stand at the front
  pub slots_all-front : 0 < p.repeat → IsFront (octets_to p (block_count p octets) (joined (block_count p octets) (word_symbols p (bit_stream p octets)))) (slots_of p octets)
  slots_all-front repeat =
      let m : ℕ = block_count p octets in
      let symbols : List ℕ = joined m (word_symbols p (bit_stream p octets)) in
      rw slots_all at (slots_front p symbols (zeros (count * codeword_symbols p.order)) m (m + count) repeat (length-joined-word_symbols p (bit_stream p octets) m) (omega arith))
