-- The inner code is one to one and onto.
use Rattle.std.proofs.Common.{◌≡◌, ◌*◌, List, ℕ, length, sym, ◌∙◌, ap}
use Rattle.hpe_base.specs.Bits.{AreBits}
use Rattle.hpe_base.specs.Accumulator.{accumulated}
use Rattle.hpe_base.specs.Mapper.{symbols_of}
use Rattle.hpe_base.specs.Parameters.{symbol_bits}
use Rattle.hpe_base.specs.declared.profile.Order.{Order}
use Rattle.hpe_base.proofs.Shapes.{length-accumulated, are_bits-accumulated}
use Rattle.hpe_ppm.specs.MappedBits.{mapped_bits}
use Rattle.hpe_ppm.specs.Laws.{InnerCodeIsOneToOne, InnerCodeIsOnto}
use Rattle.hpe_ppm.proofs.Mapping.{length-mapped_bits, are_bits-mapped_bits, mapped_bits-symbols_of, symbols_of-mapped_bits}
use Rattle.hpe_ppm.proofs.Differences.{differences, length-differences, are_bits-differences, differences-accumulated, accumulated-differences}

-- the bits again, from their symbols
bits_again : (order : Order) (n : ℕ) (bits : List ℕ) → AreBits bits → length bits ≡ n * symbol_bits order → differences (mapped_bits order (symbols_of order (accumulated bits))) ≡ bits
bits_again order n bits h l =
    ap differences (mapped_bits-symbols_of order n (accumulated bits) (are_bits-accumulated bits) (length-accumulated bits ∙ l))
    ∙ differences-accumulated bits h

pub inner_code_is_one_to_one : InnerCodeIsOneToOne
inner_code_is_one_to_one order n x y x_bits y_bits x_size y_size e =
    sym (bits_again order n x x_bits x_size)
    ∙ (ap (λ symbols. differences (mapped_bits order symbols)) e ∙ bits_again order n y y_bits y_size)

pub inner_code_is_onto : InnerCodeIsOnto
inner_code_is_onto order symbols h =
    let mapped : List ℕ = mapped_bits order symbols in (
      differences mapped,
      record {
        bits = are_bits-differences mapped;
        size = length-differences mapped ∙ length-mapped_bits order symbols;
        value = ap (symbols_of order) (accumulated-differences mapped (are_bits-mapped_bits order symbols)) ∙ symbols_of-mapped_bits order symbols h;
      },
    )
