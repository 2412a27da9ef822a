-- The pulse-position mapper and its inverse undo each other.
use Rattle.std.proofs.Common.{◌≡◌, ◌+◌, ◌*◌, ◌/◌, ◌<◌, ℕ, List, [], ◌∷◌, length, get_or, sym, ◌∙◌, ap, arith, All}
use Rattle.std.specs.Prelude.{slice_range}
use Rattle.std.proofs.Math.Nat.{mul-div_cancel, mod-eq_of_lt}
use Rattle.std.proofs.lemmas.List.Elements.{All-get_or, All-append, All-take, All-drop}
use Rattle.hpe_base.specs.Lists.{joined}
use Rattle.hpe_base.specs.Bits.{AreBits, bits_of, number_of}
use Rattle.hpe_base.specs.Mapper.{symbols_of}
use Rattle.hpe_base.specs.Parameters.{symbol_bits, positions}
use Rattle.hpe_base.specs.declared.profile.Order.{Order}
use Rattle.hpe_base.proofs.ParameterLemmas.{symbol_bits-pos}
use Rattle.hpe_base.proofs.Tabulated.{tabulate_from_places, joined-same}
use Rattle.hpe_base.proofs.BitLists.{length-bits_of, number_of-bits_of, are_bits-none, are_bits-bits_of}
use Rattle.hpe_base.proofs.Numbers.{bits_of-number_of}
use Rattle.hpe_base.proofs.Pieces.{length-flat_map-each, piece_at, length-piece, piece_within, flat_map-tabulate, pieces_joined}
use Rattle.hpe_ppm.specs.MappedBits.{mapped_bits}
use Rattle.hpe_ppm.specs.Laws.{MapperIsInvertible}

module _ (order : Order) where
  abbrev size : ℕ
  size = symbol_bits order

  abbrev group : List ℕ → ℕ → List ℕ
  group bits s = slice_range bits (s * size) (s * size + size)

  pub length-mapped_bits : (symbols : List ℕ) → length (mapped_bits order symbols) ≡ length symbols * size
  length-mapped_bits = length-flat_map-each (bits_of size) size (length-bits_of size)

  pub are_bits-mapped_bits : (symbols : List ℕ) → AreBits (mapped_bits order symbols)
  are_bits-mapped_bits [] = are_bits-none
  are_bits-mapped_bits (s ∷ symbols) =
      All-append (λ b. b < 2) (bits_of size s) (mapped_bits order symbols) (are_bits-bits_of size s) (are_bits-mapped_bits symbols)

  -- the number of symbols that whole groups of bits make
  count : (n : ℕ) (bits : List ℕ) → length bits ≡ n * size → length bits / size ≡ n
  count n bits l = ap (λ k. k / size) l ∙ mul-div_cancel n (symbol_bits-pos order)

  number_of_group : (symbols : List ℕ) → All (λ s. s < positions order) symbols → (s : ℕ) → s < length symbols → number_of (group (mapped_bits order symbols) s) ≡ get_or symbols s 0
  number_of_group symbols h s b =
      let below : get_or symbols s 0 < positions order = All-get_or (λ s. s < positions order) symbols s 0 b h in
      ap number_of (piece_at (bits_of size) size (length-bits_of size) symbols s 0 b) ∙ (number_of-bits_of size (get_or symbols s 0) ∙ mod-eq_of_lt below)

  -- the symbols of the bits of symbols
  pub symbols_of-mapped_bits : (symbols : List ℕ) → All (λ s. s < positions order) symbols → symbols_of order (mapped_bits order symbols) ≡ symbols
  symbols_of-mapped_bits symbols h =
      let whole : length (mapped_bits order symbols) / size ≡ length symbols = count (length symbols) (mapped_bits order symbols) (length-mapped_bits symbols) in
      sym (tabulate_from_places _ _ symbols 0 (sym whole) (λ s b. sym (number_of_group symbols h s (omega arith))))

  bits_of_group : (n : ℕ) (bits : List ℕ) → AreBits bits → length bits ≡ n * size → (s : ℕ) → s < n → bits_of size (number_of (group bits s)) ≡ group bits s
  bits_of_group n bits h l s b =
      let long : length (group bits s) ≡ size = length-piece bits (s * size) size (omega (arith, l, piece_within n size s b)) in
      ap (λ w. bits_of w (number_of (group bits s))) (sym long)
      ∙ bits_of-number_of (group bits s) (All-take (λ b. b < 2) _ _ (All-drop (λ b. b < 2) _ bits h))

  -- the bits of the symbols of bits
  pub mapped_bits-symbols_of : (n : ℕ) (bits : List ℕ) → AreBits bits → length bits ≡ n * size → mapped_bits order (symbols_of order bits) ≡ bits
  mapped_bits-symbols_of n bits h l =
      flat_map-tabulate (bits_of size) (length bits / size) (λ s. number_of (group bits s))
      ∙ (ap (λ k. joined k (λ s. bits_of size (number_of (group bits s)))) (count n bits l)
      ∙ (joined-same n _ (group bits) (bits_of_group n bits h l) ∙ pieces_joined n size bits l))

pub mapper_is_invertible : MapperIsInvertible
mapper_is_invertible = record { undone = mapped_bits-symbols_of; redone = symbols_of-mapped_bits }
