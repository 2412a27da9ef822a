use Rattle.std.proofs.Common.{◌<◌, ◌/◌, ◌*◌, ◌%◌, ◌^◌, ◌∙◌, arith, ap, ℕ, bit_xor}
use Rattle.std.proofs.lemmas.Nat.{xor_lt}
use Rattle.hpe_base.specs.Bits.{bits_of}
use Rattle.hpe_block.specs.Division.{divided_by}
use Rattle.hpe_block.proofs.Linear.{divided_octet}
use Rattle.hpe_block.proofs.check.divide_octet.Goals as goal

pub returns : goal.returns
returns c = λ check small table.
    let place : ℕ = bit_xor (c.args.register / 2 ^ 24) c.number_of.result in
    let within : place < 2 ^ 8 = xor_lt 8 (c.args.register / 2 ^ 24) c.number_of.result (omega arith) (omega arith) in
    ap (bit_xor (c.args.register * 2 ^ 8 % 2 ^ 32)) (table place within ∙ ap (λ n. divided_by check 0 (bits_of 8 (bit_xor (c.args.register / 2 ^ 24) n))) c.number_of.ensures.value)
    ∙ divided_octet check c.args.register c.args.bits.now small (omega arith) c.requires (omega arith)
