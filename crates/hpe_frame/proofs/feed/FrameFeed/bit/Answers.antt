use Rattle.std.proofs.Common.{◌≡◌, ◌<◌, ◌+◌, ◌-◌, ◌*◌, ◌/◌, ◌%◌, ◌∙◌, ap, sym, arith, ℕ, List, length, get_or, take}
use Rattle.std.proofs.lemmas.List.{length-take, take_all, get_or_default}
use Rattle.hpe_base.specs.Bits.{bits_of, octet_bits}
use Rattle.hpe_frame.specs.Feeding.{Feeding, marked}
use Rattle.hpe_frame.proofs.FrameBits.{marker_bit, frame_bit, held_bits}
use Rattle.hpe_frame.proofs.feed.FrameFeed.bit.Goals as goal

marker_value : (c : goal.After-bit_of) → c.bit_of.result ≡ get_or (marked c.args.self.now) c.args.i 0
marker_value c =
    let marker = c.frame_marker.ensures.value ∙ ap (λ (f : Feeding). f.parameters.frame_marker) c.self.view_is in
    c.bit_of.ensures.value
    ∙ (ap (λ m. get_or (bits_of 32 m) c.args.i 0) marker
    ∙ marker_bit c.args.self.now.parameters.frame_marker c.args.i (octet_bits c.args.self.now.held) (omega arith))

octet_value : (c : goal.After-bit_of-2) → c.bit_of-2.result ≡ get_or (marked c.args.self.now) c.args.i 0
octet_value c =
    let i = c.self.invariant in
    let octets : List ℕ = c.self.inside.octets.items in
    let place : ℕ = (c.args.i - 32) / 8 in
    let whole : length (take c.self.inside.used octets) ≡ c.self.inside.profile.frame_octets = rw (← c.self.view_is) at c.requires.whole in
    let within : c.args.i < 32 + 8 * c.self.inside.profile.frame_octets = rw (← c.self.view_is) at c.requires.within in
    let all : octets ≡ take c.self.inside.used octets = sym (take_all c.self.inside.used octets (omega (arith, length-take c.self.inside.used octets))) in
    let held : octets ≡ c.args.self.now.held = all ∙ ap (λ (f : Feeding). f.held) c.self.view_is in
    let read = c.index-octet.ensures ∙ (get_or_default octets place c.index-octet.result.now 0 (omega arith) ∙ ap (λ l. get_or l place 0) held) in
    c.bit_of-2.ensures.value
    ∙ (ap (λ o. get_or (bits_of 8 o) ((c.args.i - 32) % 8) 0) read
    ∙ frame_bit c.args.self.now.parameters.frame_marker c.args.self.now.held c.args.i (omega arith) (rw (← held) (omega arith)))

pub returns-then-i-lt-FRAME_MARKER_BITS-clause-value : goal.returns-then-i-lt-FRAME_MARKER_BITS-clause-value
returns-then-i-lt-FRAME_MARKER_BITS-clause-value c = marker_value c

pub returns-then-i-lt-FRAME_MARKER_BITS-clause-law : goal.returns-then-i-lt-FRAME_MARKER_BITS-clause-law
returns-then-i-lt-FRAME_MARKER_BITS-clause-law c = λ fed was.
    let low : 0 < c.args.self.now.parameters.frame_octets = rw (← c.self.view_is) c.self.invariant.low in
    marker_value c ∙ ap (λ l. get_or l c.args.i 0) (held_bits c.args.self.now fed low c.requires.whole was)

pub returns-clause-value : goal.returns-clause-value
returns-clause-value c = octet_value c

pub returns-clause-law : goal.returns-clause-law
returns-clause-law c = λ fed was.
    let low : 0 < c.args.self.now.parameters.frame_octets = rw (← c.self.view_is) c.self.invariant.low in
    octet_value c ∙ ap (λ l. get_or l c.args.i 0) (held_bits c.args.self.now fed low c.requires.whole was)
