use Rattle.hpe_lane.proofs.OuterFits.{kept_z}
use Rattle.std.proofs.Common.{Ok, Err, rules, arith, ◌≡◌, ◌≤◌, ◌-◌, ℕ, List, length, sym, subst, ap, ◌∙◌}
use Rattle.hpe_base.specs.Parameters.{codeword_bits, code_steps}
use Rattle.hpe_base.specs.ConvolutionalCode.{code_bits}
use Rattle.hpe_base.proofs.KeptLength.{length-code_bits}
use Rattle.hpe_base.proofs.ParameterLemmas.{code_steps-ge}
use Rattle.hpe_base.specs.Sizes.{AllWithin}
use Rattle.hpe_witness.specs.Potentials.{PotentialsWithin}
use Rattle.hpe_witness.proofs.PathAnswers.{answer-same}
use Rattle.hpe_witness.specs.Record.{numbers_in, bits_in, rows_in, IsInBounds, IsPadded, IsRecordAnswer, IsAnswerInside}
use Rattle.hpe_witness.proofs.audit.check_record.Goals as goal
use Rattle.hpe_witness.proofs.audit.check_record.Goals.{in-Ok, in-Err}

pub check_path-requires-clause-l : goal.check_path-requires-clause-l
check_path-requires-clause-l c = λ v e.
    let p = c.args.p.now in
    let long : length c.deref-3.result.now ≡ codeword_bits = search rules in
    let bits : length c.deref-4.result.now ≡ code_steps p.rate - 2 = search rules in
    let most : 5040 ≤ code_steps p.rate = code_steps-ge p.rate in
    let all : length v ≡ code_steps p.rate = omega arith in
    long ∙ sym (length-code_bits p v c.columns.ensures.valid all) ∙ ap (λ columns. length (code_bits columns v)) (sym c.columns.ensures.value)

pub returns-clause-answer : goal.returns-clause-answer
returns-clause-answer c =
    let p = c.args.p.now in
    let octets : List ℕ = c.args.octets.now in
    let n : c.deref-3.result.now ≡ numbers_in octets = search rules in
    let b : c.deref-4.result.now ≡ bits_in (code_steps p.rate - 2) octets = search rules in
    let r : c.deref-5.result.now ≡ rows_in p.rate octets = search rules in
    let n2 : c.deref.result.now ≡ numbers_in octets = search rules in
    let r2 : c.deref-2.result.now ≡ rows_in p.rate octets = search rules in
    let inside : IsAnswerInside p octets c.check_path.result =
    answer-same c.columns.result.now p.columns c.deref-3.result.now (numbers_in octets) c.deref-4.result.now (bits_in (code_steps p.rate - 2) octets) c.deref-5.result.now (rows_in p.rate octets) c.check_path.result
    c.columns.ensures.value n b r c.check_path.ensures.answer in
    let mark = c.has_mark.ensures.mark c.if-not-has_mark.false in
    let both = c.are_in_bounds.ensures.within c.if-not-are_in_bounds.false in
    let bounds : IsInBounds p.rate octets = record { numbers = subst (AllWithin 16383) n2 both.0; potentials = subst (PotentialsWithin 600000000) r2 both.1 } in
    let padded : IsPadded p.rate octets = search rules in
    elim c.match-check_path.branch [
      | in-Ok w ↦
          let k : kept_z w.in-Ok.score ≡ w.in-Ok.score = search rules in
          let e : c.check_path.result ≡ Ok w.in-Ok.score = search rules in
          subst (IsRecordAnswer p octets) (sym w.result-is) (mark, bounds, padded, subst (IsAnswerInside p octets) (e ∙ ap (λ z. Ok z) (sym k)) inside, w.word_of.ensures)
      | in-Err w ↦
          let e : c.check_path.result ≡ Err w.in-Err.fault = search rules in
          subst (IsRecordAnswer p octets) (sym w.result-is) (mark, bounds, padded, subst (IsAnswerInside p octets) e inside)
    ]
