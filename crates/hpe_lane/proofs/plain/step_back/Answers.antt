use Rattle.std.proofs.Common.{rules, ◌≡◌, ℕ, ◌+ℤ◌, ◌%◌, ◌<◌, length, sym, ◌∙◌, subst, to_z, of_z, w32}
use Rattle.hpe_base.specs.Greatest.{IsGreatest}
use Rattle.hpe_base.specs.Sizes.{number_at}
use Rattle.hpe_lane.proofs.Joint.{row_pair}
use Rattle.hpe_lane.proofs.plain.step_back.Goals as goal

pub returns-clause-row : goal.returns-clause-row
returns-clause-row g c =
    let n : ℕ = length c.args.from0.now in
    let same : length c.args.from1.now ≡ n = c.requires.edges.long1 ∙ sym c.requires.edges.long0 in
    let x : to_z w32 (of_z w32 c.best_after-first.result) ≡ c.best_after-first.result = search rules in
    let y : to_z w32 (of_z w32 c.best_after-second.result) ≡ c.best_after-second.result = search rules in
    row_pair c.args.from0.now c.args.from1.now c.args.back n _ _
    (subst (IsGreatest (λ (v : ℕ). v < n) (λ v. number_at c.args.from0.now v +ℤ number_at c.args.back (v % 2))) (sym x) c.best_after-first.ensures)
    (subst (IsGreatest (λ (v : ℕ). v < n) (λ v. number_at c.args.from1.now v +ℤ number_at c.args.back (v % 2))) (sym y)
    (subst (λ (k : ℕ). IsGreatest (λ (v : ℕ). v < k) (λ v. number_at c.args.from1.now v +ℤ number_at c.args.back (v % 2)) c.best_after-second.result) same c.best_after-second.ensures))
