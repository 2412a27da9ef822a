use Rattle.std.proofs.Common.{rules, arith, ◌≡◌, ◌+◌, ◌*◌, ℕ, ℤ, List, length, ap, ap₂, ◌∙◌}
use Rattle.std.proofs.lemmas.List.{take-append-le, take_all}
use Rattle.hpe_base.specs.Lists.{tabulate}
use Rattle.hpe_base.specs.Parameters.{code_steps}
use Rattle.hpe_witness.specs.Record.{row_at, rows_place}
use Rattle.hpe_witness.proofs.read.RecordLists.read.Goals as goal

pub returns-clause-potentials : goal.returns-clause-potentials
returns-clause-potentials c =
    let octets : List ℕ = c.args.octets.now in
    let rows : List (List ℤ) = c.read_rows.new.rows in
    let rate = c.args.self.now.profile.rate in
    let place : c.rows_place-rows.result ≡ rows_place rate = c.rows_place-rows.ensures ∙ ap rows_place c.rate.ensures.value in
    let long : length c.deref_mut-3.result.now ≡ code_steps rate + 1 = search rules in
    let size : length rows ≡ c.args.self.now.potentials.len = search rules in
    take-append-le c.args.self.now.potentials.len rows _ (omega arith) ∙ take_all c.args.self.now.potentials.len rows (omega arith)
    ∙ c.read_rows.ensures
    ∙ ap₂ (λ (n at : ℕ). tabulate n (λ t. row_at octets (at + 16 * t))) long place
