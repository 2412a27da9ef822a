use Rattle.std.proofs.Common.{arith, ◌≡◌, ◌+◌, ◌*◌, pos, length, drop}
use Rattle.std.specs.Int.{w16, cast_signed}
use Rattle.byteorder.specs.Endian.{big_number}
use Rattle.hpe_base.proofs.Tabulated.{tabulate_from_places}
use Rattle.hpe_base.specs.Parameters.{codeword_bits}
use Rattle.hpe_witness.proofs.read.read_numbers.Goals as goal

pub returns : goal.returns
returns c =
    let long : length c.loop-i.l ≡ codeword_bits = omega arith in
    tabulate_from_places codeword_bits (λ i. cast_signed w16 (big_number 2 (drop (8 + 2 * i) c.args.octets.now))) c.loop-i.l (pos 0) long (λ k lt. c.loop-i.invariant k (omega arith))
