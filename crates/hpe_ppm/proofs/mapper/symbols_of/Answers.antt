use Rattle.std.proofs.Common.{◌≡◌, ◌<◌, ◌/◌, arith, ◌∙◌, sym, ap, length}
use Rattle.std.proofs.Math.Nat.{mul-div_cancel}
use Rattle.hpe_base.specs.Parameters.{symbol_bits, positions}
use Rattle.std.proofs.lemmas.List.Elements.{All-from_get_or}
use Rattle.hpe_base.proofs.ParameterLemmas.{symbol_bits-pos}
use Rattle.hpe_base.proofs.Tabulated.{tabulate_from_places}
use Rattle.hpe_ppm.proofs.mapper.symbols_of.Goals as goal

pub returns-clause-value : goal.returns-clause-value
returns-clause-value c =
    let count : length c.loop-s.out ≡ length c.args.bits.now / symbol_bits c.args.order =
    c.loop-s.auto.out ∙ sym (ap (λ n. n / symbol_bits c.args.order) c.requires.size ∙ mul-div_cancel (length c.args.out.now) (symbol_bits-pos c.args.order)) in
    tabulate_from_places (length c.args.bits.now / symbol_bits c.args.order) _ c.loop-s.out 0 count (λ k h. c.loop-s.invariant.0 k (omega arith))

pub returns-clause-below : goal.returns-clause-below
returns-clause-below c = All-from_get_or (λ s. s < positions c.args.order) c.loop-s.out 0 (λ k h. c.loop-s.invariant.1 k (omega arith))
