-- Codewords that go out one after another.
use Rattle.std.proofs.Common.{◌≡◌, ◌<◌, ◌+◌, ◌*◌, ◌-◌, ◌++◌, ℕ, List, [], length, Result, Ok, Err, OnOk, OnErr, ap, sym, ◌∙◌, refl, arith, length-append, append_assoc, append-nil, take, drop}
use Rattle.std.specs.List.{flat_map}
use Rattle.std.specs.declared.option.Option.{Option}
use Rattle.std.proofs.lemmas.List.{take_at}
use Rattle.hpe_base.specs.Bits.{zeros}
use Rattle.hpe_base.specs.Parameters.{Parameters, IsValid, codeword_symbols, period_slots}
use Rattle.hpe_base.specs.ChannelInterleaver.{interleaved_channel}
use Rattle.hpe_base.specs.Slots.{octets_to, octet_at, symbol_octets}
use Rattle.hpe_base.proofs.BitLists.{length-zeros, zeros-append}
use Rattle.hpe_base.proofs.Channels.{length-interleaved_channel}
use Rattle.hpe_base.proofs.Periods.{octets_to-more}
use Rattle.hpe_base.proofs.Tabulated.{tabulate-none}
use Rattle.hpe_base.specs.Lists.{tabulate}
use Rattle.hpe_io.specs.Devices.{GrowsByFront}
use Rattle.hpe_weave.specs.Weaving.{HasWoven}
use Rattle.hpe_send.specs.Coding.{Coding, HasCoded}
use Rattle.hpe_send.specs.Outgoing.{IsPending}
use Rattle.hpe_io.proofs.Fronts.{IsFront, grows-front}
use Rattle.hpe_send.proofs.Pending.{pending_none, pending_same, grows_err, grows_same}
use Rattle.hpe_send.proofs.Slotted.{slots_front}

-- no period has no slots
pub slots-none : (p : Parameters) (symbols : List ℕ) → octets_to p 0 symbols ≡ []
unfolding octets_to
slots-none p symbols =
    let none : p.count_octets * (0 * period_slots p) ≡ 0 = grind arith in
    ap (λ n. tabulate n (octet_at p (interleaved_channel p symbols))) none ∙ tabulate-none (octet_at p (interleaved_channel p symbols))

-- a coder before its first codeword
pub coded_none : (c : Coding) (start : Option (List ℕ)) → IsValid c.parameters → HasWoven c.weaver [] → c.held ≡ [] → HasCoded c 0 [] start start
coded_none c start valid woven held = record {
  valid = valid;
  size = omega arith;
  woven = woven;
  pending = pending_same start start c.held [] (octets_to c.parameters 0 []) (sym (slots-none c.parameters [])) (pending_none start c.held held);
}

module _ (c : Coding) (n : ℕ) (symbols word woven : List ℕ) (start now : Option (List ℕ)) (was : HasCoded c n symbols start now)
    (size : length word ≡ codeword_symbols c.parameters.order)
    (answers : interleaved_channel c.parameters (symbols ++ word) ≡ interleaved_channel c.parameters symbols ++ woven) where
  -- the slots of one codeword more
  slots_word : octets_to c.parameters n symbols ++ flat_map (symbol_octets c.parameters) (c.parameters.marker ++ woven) ≡ octets_to c.parameters (n + 1) (symbols ++ word)
  slots_word =
      let p = c.parameters in
      let long : length symbols ≡ n * codeword_symbols c.parameters.order = was.size in
      let all : length (interleaved_channel p (symbols ++ word)) ≡ length (interleaved_channel p symbols ++ woven) = ap (λ (l : List ℕ). length l) answers in
      let came : length woven ≡ codeword_symbols c.parameters.order =
      omega (arith, length-append (interleaved_channel p symbols) woven, length-append symbols word, length-interleaved_channel p (symbols ++ word), length-interleaved_channel p symbols) in
      sym (octets_to-more p symbols word woven n was.valid.range.repeat_low was.valid.range.count_octets_low long came answers)

  coded_more : (c' : Coding) (now' : Option (List ℕ)) → c'.parameters ≡ c.parameters → HasWoven c'.weaver (symbols ++ word)
      → IsPending start now' c'.held (octets_to c.parameters n symbols ++ flat_map (symbol_octets c.parameters) (c.parameters.marker ++ woven))
      → HasCoded c' (n + 1) (symbols ++ word) start now'
  coded_more c' now' same into pending =
      let long : length symbols ≡ n * codeword_symbols c.parameters.order = was.size in
      let more : (n + 1) * codeword_symbols c.parameters.order ≡ n * codeword_symbols c.parameters.order + codeword_symbols c.parameters.order = grind arith in
      record {
        valid = rw same was.valid;
        size = rw same (omega (arith, length-append symbols word));
        woven = into;
        pending = rw same (pending_same start now' c'.held _ _ slots_word pending);
      }

  -- after the period of the codeword was sent, or was cut off
  pub coded_ok : {T E : Type 0} (result : Result T E) (c' : Coding) (now' : Option (List ℕ)) → c'.parameters ≡ c.parameters → HasWoven c'.weaver (symbols ++ word)
      → OnOk result (IsPending start now' c'.held (octets_to c.parameters n symbols ++ flat_map (symbol_octets c.parameters) (c.parameters.marker ++ woven)))
      → OnOk result (HasCoded c' (n + 1) (symbols ++ word) start now')
  coded_ok (Ok v) c' now' same into pending = coded_more c' now' same into pending
  coded_ok (Err v) c' now' same into pending = pending

  pub coded_err : {T E : Type 0} (result : Result T E) (now' : Option (List ℕ))
      → OnErr result (GrowsByFront start now' (octets_to c.parameters n symbols ++ flat_map (symbol_octets c.parameters) (c.parameters.marker ++ woven)))
      → OnErr result (GrowsByFront start now' (octets_to c.parameters (n + 1) (symbols ++ word)))
  coded_err result now' cut = grows_err result start now' _ _ slots_word cut

-- the room for a codeword plays no part
pub coded_word : (c c' : Coding) (n : ℕ) (symbols : List ℕ) (start now : Option (List ℕ)) → c' ≡ record c { word = c'.word } → HasCoded c n symbols start now → HasCoded c' n symbols start now
coded_word c c' n symbols start now same was = rw same (record { valid = was.valid; size = was.size; woven = was.woven; pending = was.pending })

pub coded_same : (c : Coding) (n n' : ℕ) (symbols symbols' : List ℕ) (start now : Option (List ℕ)) → n ≡ n' → symbols ≡ symbols' → HasCoded c n symbols start now
    → HasCoded c n' symbols' start now
coded_same c n n' symbols symbols' start now count list was = rw (← count, ← list) was

-- periods of symbols 0
pub zeros-more : (symbols : List ℕ) (i s : ℕ) → (symbols ++ zeros (i * s)) ++ zeros s ≡ symbols ++ zeros ((i + 1) * s)
zeros-more symbols i s =
    let more : i * s + s ≡ (i + 1) * s = grind arith in
    append_assoc symbols (zeros (i * s)) (zeros s) ∙ ap (λ l. symbols ++ l) (zeros-append (i * s) s ∙ ap zeros more)

-- a flush that is cut off in its period i
pub flush_cut : (c : Coding) (n i count : ℕ) (symbols : List ℕ) (start now now' : Option (List ℕ)) → HasCoded c n symbols start now → i < count
    → GrowsByFront start now' (octets_to c.parameters (n + i + 1) ((symbols ++ zeros (i * codeword_symbols c.parameters.order)) ++ zeros (codeword_symbols c.parameters.order)))
    → GrowsByFront start now' (octets_to c.parameters (n + count) (symbols ++ zeros (count * codeword_symbols c.parameters.order)))
flush_cut c n i count symbols start now now' was h cut =
    let p = c.parameters in
    let s = codeword_symbols c.parameters.order in
    let xs : List ℕ = symbols ++ zeros ((i + 1) * s) in
    let k : ℕ = count - (i + 1) in
    let split : i + 1 + k ≡ count = omega arith in
    let sum : (i + 1) * s + k * s ≡ (i + 1 + k) * s = grind arith in
    let rest : (i + 1) * s + (count - (i + 1)) * s ≡ count * s = sum ∙ ap (λ m. m * s) split in
    let long : length xs ≡ (n + i + 1) * s =
    (let e : (n + i + 1) * s ≡ n * s + (i + 1) * s = grind arith in
    omega (arith, was.size, length-append symbols (zeros ((i + 1) * s)), length-zeros ((i + 1) * s))) in
    let all : xs ++ zeros ((count - (i + 1)) * s) ≡ symbols ++ zeros (count * s) =
    append_assoc symbols (zeros ((i + 1) * s)) (zeros ((count - (i + 1)) * s))
    ∙ ap (λ l. symbols ++ l) (zeros-append ((i + 1) * s) ((count - (i + 1)) * s) ∙ ap zeros rest) in
    let front : IsFront (octets_to p (n + i + 1) xs) (octets_to p (n + count) (xs ++ zeros ((count - (i + 1)) * s))) =
    slots_front p xs (zeros ((count - (i + 1)) * s)) (n + i + 1) (n + count) was.valid.range.repeat_low long (omega arith) in
    grows-front start now' (octets_to p (n + i + 1) xs) (octets_to p (n + count) (symbols ++ zeros (count * s))) (rw all at front)
    (grows_same start now' _ _ (ap (octets_to p (n + i + 1)) (zeros-more symbols i s)) cut)

-- the slots once all periods of symbols 0 went in
pub flushed : (p q : Parameters) (n i count : ℕ) (symbols : List ℕ) → q ≡ p → i ≡ count
    → octets_to q (n + i) (symbols ++ zeros (i * codeword_symbols p.order)) ≡ octets_to p (n + count) (symbols ++ zeros (count * codeword_symbols p.order))
flushed p q n i count symbols same end = rw (same, end) refl

-- no period of symbols 0 yet
pub zeros-none : (symbols : List ℕ) (s : ℕ) → symbols ≡ symbols ++ zeros (0 * s)
unfolding zeros
zeros-none symbols s =
    let none : 0 * s ≡ 0 = omega arith in
    sym (append-nil symbols) ∙ ap (λ n. symbols ++ zeros n) (sym none)

-- a list that was written whole over one of its length
pub put_back : (items new : List ℕ) (len : ℕ) → length new ≡ len → take len (new ++ drop (length new) items) ≡ new
put_back items new len e = take_at new (drop (length new) items) len e
