use Rattle.std.proofs.Common.{◌≡◌, ◌≤◌, ◌*◌, ◌+◌, ◌++◌, ℕ, length, take, get_or, arith, subst, sym, ◌∙◌, ap}
use Rattle.std.proofs.lemmas.List.{take_all}
use Rattle.std.proofs.lemmas.Slice.{take-put_mid}
use Rattle.hpe_base.specs.Bits.{AreBits, bits_of}
use Rattle.hpe_base.specs.Mapper.{symbols_of}
use Rattle.hpe_base.specs.Parameters.{symbol_bits}
use Rattle.hpe_base.proofs.Pieces.{flat_map-take_more, length-piece, piece_within}
use Rattle.hpe_ppm.specs.MappedBits.{mapped_bits}
use Rattle.hpe_ppm.proofs.Mapping.{are_bits-mapped_bits, symbols_of-mapped_bits}
use Rattle.hpe_ppm.proofs.mapper.bits_of.Goals as goal

pub loop-s-preserved : goal.loop-s-preserved
loop-s-preserved c =
    let width : ℕ = symbol_bits c.args.order in
    let start : c.loop-s.s * c.bits-size.result ≡ c.loop-s.s * width = ap (λ n. c.loop-s.s * n) c.bits-size.ensures in
    let within : c.loop-s.s * width + width ≤ length c.loop-s.out =
    omega (arith, piece_within (length c.args.symbols.now) width c.loop-s.s c.loop-s-test.true, c.loop-s.auto.out, c.requires.size) in
    let long : length c.write_bits.new.into ≡ width =
    c.write_bits.auto.into ∙ (length-piece c.loop-s.out (c.loop-s.s * c.bits-size.result) c.bits-size.result (omega (arith, start, within, c.bits-size.ensures)) ∙ c.bits-size.ensures) in
    let piece : c.write_bits.new.into ≡ bits_of width (get_or c.args.symbols.now c.loop-s.s 0) =
    c.write_bits.ensures.value ∙ ap (λ n. bits_of n (get_or c.args.symbols.now c.loop-s.s 0)) (sym c.write_bits.auto.into ∙ long) in
    let next : (c.loop-s.s + 1) * width ≡ c.loop-s.s * width + width = grind arith in
    let end : (c.loop-s.s + 1) * width ≡ c.loop-s.s * c.bits-size.result + length c.write_bits.new.into = omega (arith, start, next, long) in
    let front : take (c.loop-s.s * c.bits-size.result) c.loop-s.out ≡ mapped_bits c.args.order (take c.loop-s.s c.args.symbols.now) =
    ap (λ n. take n c.loop-s.out) start ∙ c.loop-s.invariant in
    take-put_mid _ _ c.loop-s.out c.write_bits.new.into _ end (omega (arith, start, within))
    ∙ (ap (λ bits. bits ++ c.write_bits.new.into) front
    ∙ (ap (λ bits. mapped_bits c.args.order (take c.loop-s.s c.args.symbols.now) ++ bits) piece
    ∙ sym (flat_map-take_more (bits_of width) c.args.symbols.now c.loop-s.s 0 c.loop-s-test.true)))

pub returns-clause-value : goal.returns-clause-value
returns-clause-value c =
    let done : c.loop-s.s ≡ length c.args.symbols.now = omega arith in
    let front : take (length c.args.symbols.now * symbol_bits c.args.order) c.loop-s.out ≡ mapped_bits c.args.order (take (length c.args.symbols.now) c.args.symbols.now) =
    rw (← done) c.loop-s.invariant in
    sym (take_all _ c.loop-s.out (omega (arith, c.loop-s.auto.out, c.requires.size)))
    ∙ (front ∙ ap (mapped_bits c.args.order) (take_all _ c.args.symbols.now (omega arith)))

pub returns-clause-bits : goal.returns-clause-bits
returns-clause-bits c = subst AreBits (sym (returns-clause-value c)) (are_bits-mapped_bits c.args.order c.args.symbols.now)

pub returns-clause-undoes : goal.returns-clause-undoes
returns-clause-undoes c =
    ap (symbols_of c.args.order) (returns-clause-value c) ∙ symbols_of-mapped_bits c.args.order c.args.symbols.now c.requires.below
