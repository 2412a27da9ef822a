use Rattle.std.proofs.Common.{arith, ◌≡◌, ◌≤◌, ◌+◌, length, ap, ◌∙◌}
use Rattle.hpe_base.specs.Parameters.{code_steps}
use Rattle.hpe_base.proofs.ParameterLemmas.{code_steps-ge}
use Rattle.hpe_witness.specs.Record.{record_octets, rows_place}
use Rattle.hpe_witness.proofs.Writing.{record-is}
use Rattle.hpe_witness.proofs.write.write_record.Goals as goal

pub returns : goal.returns
returns c =
    let r = c.args.p.now.rate in
    let most : 5040 ≤ code_steps r = code_steps-ge r in
    let place : c.rows_place.result ≡ rows_place r = c.rows_place.ensures ∙ ap rows_place c.rate.ensures.value in
    let lw : length c.put_head.new.into ≡ record_octets r = omega arith in
    let lz : length c.put_rows.new.into ≡ record_octets r = omega arith in
    let lu : length c.args.u.now + 2 ≡ code_steps r = omega arith in
    let lr : length c.args.rows.now ≡ code_steps r + 1 = omega arith in
    record-is r c.args.word c.rows_place.result c.args.l.now c.args.u.now c.args.rows.now c.put_head.new.into c.put_numbers.new.into c.put_bits.new.into c.put_rows.new.into
    lw lz place c.requires.l lu lr c.put_head.ensures.mark c.put_head.ensures.word c.put_numbers.ensures.numbers c.put_numbers.ensures.below
    c.put_bits.ensures.bits c.put_bits.ensures.below c.put_rows.ensures.rows c.put_rows.ensures.below
