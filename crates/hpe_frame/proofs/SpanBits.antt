-- What a look at a span tells.
use Rattle.std.specs.Prelude.{◌==◌}
use Rattle.std.proofs.Common.{◌≡◌, ◌≤◌, ◌<◌, ◌+◌, ◌*◌, ◌/◌, ◌^◌, ℕ, List, [], ◌∷◌, length, get_or, take, ap, sym, ◌∙◌, refl, arith, true, false, Bool, inl, inr, IsTrue, ◌↔◌}
use Rattle.std.specs.List.{slice_range}
use Rattle.std.proofs.lemmas.Bool.{lt-ltb, le-ltb, cases_lt}
use Rattle.std.proofs.lemmas.Bool.Decides.{nat_tests}
use Rattle.std.proofs.lemmas.List.{length-take-le}
use Rattle.std.proofs.lemmas.List.Elements.{All-take}
use Rattle.hpe_base.specs.Bits.{AreBits, bits_of, number_of}
use Rattle.hpe_base.specs.Parameters.{Parameters}
use Rattle.hpe_base.specs.FrameScan.{all_known, has_marker, octets_of, scan_by, Standing}
use Rattle.hpe_base.proofs.BitLists.{number_of-bits_of, are_bits-none, are_bits-cons}
use Rattle.hpe_base.proofs.Numbers.{bits_of-number_of}
use Rattle.hpe_base.proofs.Tabulated.{tabulate_from_places}
use Rattle.hpe_frame.specs.declared.span.Look.TheVariants.{Other}
use Rattle.hpe_frame.specs.Looking.{look_of, by_look}

-- a bit more in front
pub known_more : (x : ℕ) (xs : List ℕ) → x < 2 → all_known (x ∷ xs) ≡ all_known xs
known_more x xs h = rw (lt-ltb x 2 h) refl

-- one that isn't known
pub known_stop : (x : ℕ) (xs : List ℕ) → 2 ≤ x → all_known (x ∷ xs) ≡ false
known_stop x xs h = rw (le-ltb x 2 h) refl

-- all that is known is bits
known_bits : (bits : List ℕ) → all_known bits ≡ true → AreBits bits
known_bits [] h = are_bits-none
known_bits (x ∷ bits) h =
    elim (cases_lt x 2) [
      | inl small ↦ are_bits-cons x bits small (known_bits bits (sym (known_more x bits small) ∙ h))
      | inr big ↦ absurd (let e : true ≡ false = sym h ∙ known_stop x bits big in cc)
    ]

same_number : (a b : ℕ) → a ≡ b → (a == b) ≡ true
same_number a b h = grind (arith, nat_tests)

other_number : (a b : ℕ) → (a ≡ b → ⊥) → (a == b) ≡ false
other_number a b h = grind (arith, nat_tests)

-- whether known bits begin with the marker's is whether they begin with the marker
pub marker_known : (p : Parameters) (marker : ℕ) (bits : List ℕ) (marked : Bool) → marker ≡ p.frame_marker → marker < 2 ^ 32 → 32 ≤ length bits →
    (IsTrue marked ↔ (take 32 bits ≡ bits_of 32 marker)) → all_known bits ≡ true → has_marker p bits ≡ marked
marker_known p marker bits true e low long same known =
    same_number (number_of (take 32 bits)) p.frame_marker (ap number_of (same.0 refl) ∙ (number_of-bits_of 32 marker ∙ omega arith))
marker_known p marker bits false e low long same known =
    other_number (number_of (take 32 bits)) p.frame_marker (λ n.
    let again : take 32 bits ≡ bits_of 32 marker =
    sym (bits_of-number_of (take 32 bits) (All-take (λ b. b < 2) 32 bits (known_bits bits known)))
    ∙ (ap (λ w. bits_of w (number_of (take 32 bits))) (length-take-le 32 bits long) ∙ ap (bits_of 32) (n ∙ sym e)) in
    let f : false ≡ true = same.1 again in
    absurd (cc))

-- a search without a marker, whether the span is known or not
pub look_search : (known marked : Bool) → (known ≡ true → marked ≡ false) → look_of false known marked ≡ Other
look_search true true h = absurd (let e : true ≡ false = h refl in cc)
look_search true false h = refl
look_search false marked h = refl

-- a step goes by what the look says
pub step_by_look : (span : ℕ) (grid known marked : Bool) (frame : List ℕ) (s : Standing) →
    scan_by span grid known marked frame s ≡ by_look span (look_of grid known marked) frame s
step_by_look span grid true true frame s = refl
step_by_look span grid true false frame s = refl
step_by_look span true false marked frame s = refl
step_by_look span false false marked frame s = refl

-- octet i of bits
abbrev pub octet_at : List ℕ → ℕ → ℕ
octet_at bits i = number_of (slice_range bits (i * 8) (i * 8 + 8))

pub octets_from_places : (bits octets : List ℕ) → length bits ≡ 8 * length octets → ((k : ℕ) → k < length octets → get_or octets k 0 ≡ octet_at bits k) → octets ≡ octets_of bits
unfolding octets_of
octets_from_places bits octets l h =
    let e : length octets ≡ length bits / 8 = omega arith in
    tabulate_from_places (length bits / 8) _ octets 0 e (λ k b. h k (omega arith))
