use Rattle.std.proofs.Common.{arith, ◌≡◌, ◌+◌, ◌-◌, ◌/◌, ◌%◌, get_or, length}
use Rattle.std.proofs.lemmas.Nat.Bits.{bit_at-lt}
use Rattle.hpe_base.proofs.Tabulated.{tabulate_from_places}
use Rattle.hpe_witness.specs.Record.{bits_place, bit_in}
use Rattle.hpe_witness.proofs.ReadBack.{bits-by-place}
use Rattle.hpe_witness.proofs.read.read_bits.Goals as goal

pub returns-clause-bits : goal.returns-clause-bits
returns-clause-bits c =
    let long : length c.loop-i.u ≡ length c.args.u.now = omega arith in
    tabulate_from_places (length c.args.u.now) (bit_in c.args.octets.now) c.loop-i.u 0 long (λ k lt. c.loop-i.invariant k (omega arith))

pub returns-clause-are : goal.returns-clause-are
returns-clause-are c = bits-by-place (bit_in c.args.octets.now) c.loop-i.u (λ k lt. c.loop-i.invariant k (omega arith)) (λ k. bit_at-lt (get_or c.args.octets.now (bits_place + k / 8) 0) (7 - k % 8))
