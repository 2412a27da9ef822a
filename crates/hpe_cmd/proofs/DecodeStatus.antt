-- The status of a decoding by its tally.
use Rattle.std.proofs.Common.{◌≡◌, ◌≢◌, ◌∙◌, ℕ, List, refl, sym, ap}
use Rattle.hpe_base.specs.Parameters.{Parameters}
use Rattle.hpe_base.specs.Counts.{counts_of}
use Rattle.hpe_base.specs.MarkerSearch.{Offset, Short, Dark, At, offset_of}
use Rattle.hpe_base.specs.Decoded.{tally_of}
use Rattle.hpe_recv.specs.declared.receiver.Tally.{Tally}
use Rattle.hpe_recv.specs.Receiving.{tallied}
use Rattle.hpe_cmd.specs.declared.ending.Status.TheVariants.{NoMarker}
use Rattle.hpe_cmd.specs.DecodeRun.{decode_status, status_at, lost_status}

-- where the search isn't dark, the lost words decide
pub status_lit : (o : Offset) (lost : ℕ) → o ≢ Dark → status_at o lost ≡ lost_status lost
status_lit Short lost lit = refl
status_lit Dark lost lit = absurd (lit refl)
status_lit (At offset best) lost lit = refl

pub status_after : (p : Parameters) (octets : List ℕ) (tally : Tally) → tallied tally ≡ tally_of p octets
    → offset_of p (counts_of p octets) ≢ Dark → lost_status tally.lost ≡ decode_status p octets
status_after p octets tally told lit =
    ap (λ t. lost_status t.lost) told
    ∙ sym (status_lit (offset_of p (counts_of p octets)) (tally_of p octets).lost lit)

-- where it is dark, there is no marker
pub status_dark : (p : Parameters) (octets : List ℕ) → offset_of p (counts_of p octets) ≡ Dark
    → NoMarker ≡ decode_status p octets
status_dark p octets dark = sym (ap (λ o. status_at o (tally_of p octets).lost) dark)
