-- Octets that are taken from a source piece by piece.
use Rattle.std.proofs.Common.{◌≡◌, ◌≤◌, ◌+◌, ◌++◌, ◌∙◌, ◌↔◌, IfSome, ℕ, List, [], length, take, drop, ap, sym, refl, arith, length-append, Some, None, Result, Ok, Err}
use Rattle.std.proofs.lemmas.List.{take-take, take-append-le, drop-append-le, take-append-drop, take_at, take_all, length-take}
use Rattle.std.specs.declared.option.Option.{Option}
use Rattle.std.specs.Io.KnownBytes.{prepend_known, IsAtEnd}
use Rattle.hpe_io.specs.Devices.{Hands, Takes, ReadsAll, TakesAtMost, TakesCount}
use Rattle.hpe_io.specs.Intake.{IntakeState, HasCome, HasStopped}
use Rattle.hpe_io.proofs.Known.{prepend_twice, prepend_nothing}

-- ---- one take

-- a take into the front of a buffer
hands_front : (left left' : Option (List ℕ)) (n asked : ℕ) (buffer after : List ℕ) → asked ≤ length buffer → length after ≡ length (take asked buffer)
    → Hands left left' n (take asked buffer) after → Hands left left' n buffer (after ++ drop asked buffer)
hands_front None left' n asked buffer after fits size h =
    let rest : List ℕ = drop asked buffer in
    let low : n ≤ length after = h.fits in
    record {
      fits = omega (arith, length-append after rest);
      lost = rw (take-append-le n after rest h.fits) h.lost;
      rest = tt;
      ends = tt;
    }
hands_front (Some xs) left' n asked buffer after fits size h =
    let rest : List ℕ = drop asked buffer in
    let low : n ≤ length after = h.fits in
    let few : n ≤ asked = omega (arith, length-take asked buffer) in
    record {
      fits = omega (arith, length-append after rest);
      lost = rw (take-append-le n after rest h.fits) h.lost;
      rest = drop-append-le n after rest h.fits
          ∙ (ap (λ (l : List ℕ). l ++ rest) h.rest
          ∙ (sym (drop-append-le n (take asked buffer) rest (omega (arith, length-take asked buffer)))
          ∙ ap (drop n) (take-append-drop asked buffer)));
      ends = h.ends;
    }

-- the same of a take that may have failed
pub takes_front : {E : Type 0} (left left' : Option (List ℕ)) (result : Result ℕ E) (asked : ℕ) (buffer after : List ℕ) → asked ≤ length buffer
    → length after ≡ length (take asked buffer) → Takes left left' result (take asked buffer) after → Takes left left' result buffer (after ++ drop asked buffer)
takes_front left left' (Ok n) asked buffer after fits size h = hands_front left left' n asked buffer after fits size h
takes_front left left' (Err e) asked buffer after fits size h = h

-- what one take more makes of the octets that came
come_next : (s s' : IntakeState) (start left left' : Option (List ℕ)) (octets : List ℕ) (n : ℕ) (before after : List ℕ)
    → HasCome s start left octets → Hands left left' n before after → s'.taken ≡ s.taken + n → HasCome s' start left' (octets ++ take n after)
come_next s s' start left left' octets n before after h hands e =
    let fits : n ≤ length after = hands.fits in
    let count : length octets ≡ s.taken = h.count in
    record {
      lost = h.lost ∙ (ap (prepend_known octets) hands.lost ∙ prepend_twice octets (take n after) left');
      count = omega (arith, length-append octets (take n after), length-take n after);
    }

-- the same, where the piece is read out of the room that it lies in
pub come_more : (s s' : IntakeState) (start left left' : Option (List ℕ)) (octets : List ℕ) (n room : ℕ) (before after rest : List ℕ)
    → HasCome s start left octets → Hands left left' n before after → s'.taken ≡ s.taken + n → n ≤ room
    → HasCome s' start left' (octets ++ take n (take room (after ++ rest)))
come_more s s' start left left' octets n room before after rest h hands e fits =
    rw (take-take n room (after ++ rest) fits, take-append-le n after rest hands.fits) (come_next s s' start left left' octets n before after h hands e)

-- the end of the input
ends_at : (left left' : Option (List ℕ)) (n : ℕ) → left ≡ left' → n ≡ 0 → IfSome left (λ xs. (n ≡ 0) ↔ (xs ≡ [])) → IsAtEnd left'
ends_at None left' n same z ends = rw (← same) tt
ends_at (Some xs) left' n same z ends = rw (← same) (ends.0 z)

-- no octet came, and that at the end of the input alone
pub come_end : (s s' : IntakeState) (start left left' : Option (List ℕ)) (octets : List ℕ) (n : ℕ) (before after : List ℕ)
    → HasCome s start left octets → Hands left left' n before after → s'.taken ≡ s.taken + n → n ≡ 0 → HasCome s' start left' octets × IsAtEnd left'
come_end s s' start left left' octets n before after h hands e z =
    let count : length octets ≡ s.taken = h.count in
    let same : left ≡ left' = hands.lost ∙ (ap (λ (k : ℕ). prepend_known (take k after) left') z ∙ prepend_nothing left') in
    (record { lost = h.lost ∙ ap (prepend_known octets) same; count = omega arith }, ends_at left left' n same z hands.ends)

-- the octet past the limit
pub stopped_past : (s s' : IntakeState) (start left left' : Option (List ℕ)) (octets : List ℕ) (n : ℕ) (before after : List ℕ)
    → HasCome s start left octets → Hands left left' n before after → s'.taken ≡ s.taken + n → s'.limit ≡ s.taken → HasStopped s' start left' octets
stopped_past s s' start left left' octets n before after h hands e limit = record {
  all = octets ++ take n after;
  come = come_next s s' start left left' octets n before after h hands e;
  within = ap (λ (k : ℕ). take k (octets ++ take n after)) (limit ∙ sym h.count) ∙ take_at octets (take n after) (length octets) refl;
}

-- nothing came from past the limit
pub stopped_within : (s : IntakeState) (start left : Option (List ℕ)) (octets : List ℕ) → HasCome s start left octets → s.taken ≤ s.limit → HasStopped s start left octets
stopped_within s start left octets h fits =
    let count : length octets ≡ s.taken = h.count in record { all = octets; come = h; within = take_all s.limit octets (omega arith) }

-- ---- all takes

-- all octets were read
pub come_all : (s : IntakeState) (start left : Option (List ℕ)) (octets : List ℕ) → HasCome s start left octets → IsAtEnd left → ReadsAll start left octets
come_all s start left octets h ended = record { lost = h.lost; ended = ended }

-- so many octets were taken
pub come_count : (s : IntakeState) (start left : Option (List ℕ)) (octets : List ℕ) (n : ℕ) → HasCome s start left octets → s.taken ≡ n → TakesCount start left n
come_count s start left octets n h e = record { octets = octets; count = h.count ∙ e; lost = h.lost }

-- at most so many octets were taken
pub come_most : (s : IntakeState) (start left : Option (List ℕ)) (octets : List ℕ) (n : ℕ) → HasCome s start left octets → s.taken ≤ n → TakesAtMost start left n
come_most s start left octets n h le = let count : length octets ≡ s.taken = h.count in record { octets = octets; count = omega arith; lost = h.lost }

-- ---- octets behind those that are kept
