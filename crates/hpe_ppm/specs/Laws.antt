-- Laws of the pulse-position mapper, and of the inner code: the accumulator with the mapper.
use Rattle.std.specs.Prelude.{ℕ, ◌≡◌, ◌<◌, ◌*◌, List, length, All}
use Rattle.hpe_base.specs.Bits.{AreBits}
use Rattle.hpe_base.specs.Parameters.{symbol_bits, positions}
use Rattle.hpe_base.specs.Accumulator.{accumulated}
use Rattle.hpe_base.specs.Mapper.{symbols_of}
use Rattle.hpe_base.specs.declared.profile.Order.{Order}
use Rattle.hpe_ppm.specs.MappedBits.{mapped_bits}

-- the mapper and its inverse undo each other, where the bits fill whole symbols and each symbol is a pulse position
pub record MapperIsInvertible : Type 0 where
  pub undone : (order : Order) (n : ℕ) (bits : List ℕ) → AreBits bits → length bits ≡ n * symbol_bits order → mapped_bits order (symbols_of order bits) ≡ bits
  pub redone : (order : Order) (symbols : List ℕ) → All (λ s. s < positions order) symbols → symbols_of order (mapped_bits order symbols) ≡ symbols

-- the list has the bits of as many symbols, and the inner code makes these symbols of it
pub record IsEncodedAs (order : Order) (list symbols : List ℕ) : Type 0 where
  pub bits : AreBits list
  pub size : length list ≡ length symbols * symbol_bits order
  pub value : symbols_of order (accumulated list) ≡ symbols

-- lists of bits of one length, in whole symbols, that the inner code makes the same symbols of are the same
abbrev pub InnerCodeIsOneToOne : Type 0
InnerCodeIsOneToOne =
    (order : Order) (n : ℕ) (x y : List ℕ) → AreBits x → AreBits y → length x ≡ n * symbol_bits order → length y ≡ n * symbol_bits order →
    symbols_of order (accumulated x) ≡ symbols_of order (accumulated y) → x ≡ y

-- the inner code makes each list of pulse positions, of some list of bits
abbrev pub InnerCodeIsOnto : Type 0
InnerCodeIsOnto =
    (order : Order) (symbols : List ℕ) → All (λ s. s < positions order) symbols → (list : List ℕ) × IsEncodedAs order list symbols
