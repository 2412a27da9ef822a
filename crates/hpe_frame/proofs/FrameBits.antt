-- The bits of a marked frame, place by place.
use Rattle.std.proofs.Common.{◌≡◌, ◌≤◌, ◌<◌, ◌+◌, ◌-◌, ◌*◌, ◌/◌, ◌%◌, ◌++◌, ℕ, List, length, get_or, drop, ap, sym, ◌∙◌, arith}
use Rattle.std.specs.Prelude.{slice_range}
use Rattle.std.proofs.lemmas.List.{get_or-take, get_or-drop, get_or_append_left, get_or-append_right}
use Rattle.std.proofs.lemmas.Nat.{div-add-mod', mod_below}
use Rattle.hpe_base.specs.Bits.{bits_of, octet_bits}
use Rattle.hpe_base.specs.Frames.{frame_bits}
use Rattle.hpe_base.proofs.BitLists.{length-bits_of}
use Rattle.hpe_base.proofs.Pieces.{piece_at}
use Rattle.hpe_frame.specs.Feeding.{Feeding, HasFed, marked}
use Rattle.hpe_base.proofs.UnitLemmas.{unit_piece}

-- a bit of the marker, with other bits behind it
pub marker_bit : (m i : ℕ) (bits : List ℕ) → i < 32 → get_or (bits_of 32 m) i 0 ≡ get_or (bits_of 32 m ++ bits) i 0
marker_bit m i bits h = sym (get_or_append_left (bits_of 32 m) bits 0 i (omega (arith, length-bits_of 32 m)))

-- bit k of the octets
octet_bit : (octets : List ℕ) (k : ℕ) → k < 8 * length octets → get_or (bits_of 8 (get_or octets (k / 8) 0)) (k % 8) 0 ≡ get_or (octet_bits octets) k 0
octet_bit octets k h =
    let whole : k / 8 * 8 + k % 8 ≡ k = div-add-mod' k 8 in
    let size : k % 8 < k / 8 * 8 + 8 - k / 8 * 8 = omega (arith, mod_below k 8 (omega arith)) in
    let piece : slice_range (octet_bits octets) (k / 8 * 8) (k / 8 * 8 + 8) ≡ bits_of 8 (get_or octets (k / 8) 0) =
    piece_at (bits_of 8) 8 (length-bits_of 8) octets (k / 8) 0 (omega arith) in
    ap (λ (l : List ℕ). get_or l (k % 8) 0) (sym piece)
    ∙ (get_or-take (k / 8 * 8 + 8 - k / 8 * 8) (drop (k / 8 * 8) (octet_bits octets)) (k % 8) 0 size
    ∙ (get_or-drop (k / 8 * 8) (octet_bits octets) (k % 8) 0 ∙ ap (λ j. get_or (octet_bits octets) j 0) whole))

-- bit i of marker and octets, behind the marker
pub frame_bit : (m : ℕ) (octets : List ℕ) (i : ℕ) → 32 ≤ i → i - 32 < 8 * length octets
    → get_or (bits_of 8 (get_or octets ((i - 32) / 8) 0)) ((i - 32) % 8) 0 ≡ get_or (bits_of 32 m ++ octet_bits octets) i 0
frame_bit m octets i behind within =
    octet_bit octets (i - 32) within ∙ sym (get_or-append_right (bits_of 32 m) (octet_bits octets) 32 i 0 (length-bits_of 32 m) behind)

-- a whole frame that is held is the last of all that was fed
pub held_bits : (f : Feeding) (fed : List ℕ) → 0 < f.parameters.frame_octets → length f.held ≡ f.parameters.frame_octets → HasFed f fed
    → marked f ≡ frame_bits f.parameters fed (length fed / f.parameters.frame_octets - 1)
held_bits f fed low whole was =
    ap (λ l. bits_of 32 f.parameters.frame_marker ++ octet_bits l)
    (was ∙ unit_piece f.parameters.frame_octets fed low (sym (ap (λ (l : List ℕ). length l) was) ∙ whole))
