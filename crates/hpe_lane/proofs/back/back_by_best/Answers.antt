use Rattle.std.proofs.Common.{rules, ◌≡◌, ℕ, ℤ, ◌%◌, ◌^◌, ◌<◌, ◌+ℤ◌, List, length, sym, ◌∙◌, subst, to_z, of_z, w32}
use Rattle.hpe_base.specs.Greatest.{IsGreatest}
use Rattle.hpe_base.specs.Sizes.{number_at}
use Rattle.hpe_lane.specs.Parts.{stage_edge}
use Rattle.hpe_lane.proofs.BestBack.{after_by_best, best_row}
use Rattle.hpe_lane.proofs.Sums.{at_pair}
use Rattle.hpe_lane.proofs.back.back_by_best.Goals as goal

pub after_best-first-requires-clause-best : goal.after_best-first-requires-clause-best
after_best-first-requires-clause-best c = best_row c.args.stage.counts.now c.args.stage.l.now c.args.best 0 c.requires.stage c.requires.best

pub after_best-second-requires-clause-best : goal.after_best-second-requires-clause-best
after_best-second-requires-clause-best c = best_row c.args.stage.counts.now c.args.stage.l.now c.best_from_one.result 1 c.requires.stage c.best_from_one.ensures

pub returns : goal.returns
returns c =
    let counts : List ℕ = c.args.stage.counts.now in
    let l : List ℤ = c.args.stage.l.now in
    let back : List ℤ = c.args.back in
    let x : to_z w32 (of_z w32 c.after_best-first.result) ≡ c.after_best-first.result = search rules in
    let y : to_z w32 (of_z w32 c.after_best-second.result) ≡ c.after_best-second.result = search rules in
    at_pair _ _ (λ (s : ℕ) (z : ℤ). IsGreatest (λ (v : ℕ). v < 2 ^ length l) (λ v. stage_edge counts l s v +ℤ number_at back (v % 2)) z)
    (subst (IsGreatest (λ (v : ℕ). v < 2 ^ length l) (λ v. stage_edge counts l 0 v +ℤ number_at back (v % 2))) (sym (x ∙ c.after_best-first.ensures))
    (after_by_best (length l) (stage_edge counts l 0) c.args.best back c.requires.stage.few.0 c.requires.best))
    (subst (IsGreatest (λ (v : ℕ). v < 2 ^ length l) (λ v. stage_edge counts l 1 v +ℤ number_at back (v % 2))) (sym (y ∙ c.after_best-second.ensures))
    (after_by_best (length l) (stage_edge counts l 1) c.best_from_one.result back c.requires.stage.few.0 c.best_from_one.ensures))
