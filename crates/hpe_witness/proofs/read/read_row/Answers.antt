use Rattle.std.proofs.Common.{◌+◌, ◌∷◌, [], ℤ, ap₂, drop, ◌∙◌}
use Rattle.std.specs.Int.{w32, cast_signed}
use Rattle.byteorder.specs.Endian.{big_number}
use Rattle.hpe_lane.proofs.OuterFits.{kept_z}
use Rattle.hpe_witness.proofs.ReadBack.{kept_fits}
use Rattle.hpe_witness.proofs.read.read_row.Goals as goal

pub returns : goal.returns
returns c =
    let octets = c.args.octets.now in
    let at = c.args.at in
    ap₂ (λ (x y : ℤ). x ∷ y ∷ kept_z c.potential_at-third.result ∷ kept_z c.potential_at-fourth.result ∷ [])
    (kept_fits c.potential_at-first.result c.potential_at-first.type_inv ∙ c.potential_at-first.ensures) (kept_fits c.potential_at-second.result c.potential_at-second.type_inv ∙ c.potential_at-second.ensures)
    ∙ ap₂ (λ (x y : ℤ). cast_signed w32 (big_number 4 (drop at octets)) ∷ cast_signed w32 (big_number 4 (drop (at + 4) octets)) ∷ x ∷ y ∷ [])
    (kept_fits c.potential_at-third.result c.potential_at-third.type_inv ∙ c.potential_at-third.ensures) (kept_fits c.potential_at-fourth.result c.potential_at-fourth.type_inv ∙ c.potential_at-fourth.ensures)
