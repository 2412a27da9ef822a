use Rattle.std.proofs.Common.{rules, ◌≡◌, ◌+◌, ℕ, List, ◌∷◌, [], ℤ, pos, cond, get_or, false, Bool, ◌∙◌, ap, length}
use Rattle.hpe_base.specs.Sizes.{number_at}
use Rattle.hpe_lane.proofs.OuterFits.{kept_z}
use Rattle.hpe_trellis.proofs.StepOutputs.{edge-is, taken_is}
use Rattle.hpe_trellis.proofs.puncturing.step_numbers.Goals as goal

pub returns-clause-edge : goal.returns-clause-edge
returns-clause-edge c =
    let fs : List Bool = c.args.column.now in
    let l : List ℤ = c.args.l.now in
    let three : length fs ≡ 3 = search rules in
    let first : c.from.result ≡ cond (get_or fs 0 false) 1 0 = search rules in
    let second : c.from-2.result ≡ cond (get_or fs 1 false) 1 0 = search rules in
    let b : ℕ = c.args.at + c.from.result in
    let d : ℕ = b + c.from-2.result in
    edge-is fs l c.args.at (kept_z c.taken-a.result ∷ kept_z c.taken-b.result ∷ kept_z c.taken-c.result ∷ []) three c.requires.room
    (taken_is (get_or fs 0 false) (number_at l c.args.at) c.taken-a.result (c.requires.within c.args.at) c.taken-a.ensures)
    (taken_is (get_or fs 1 false) (number_at l b) c.taken-b.result (c.requires.within b) c.taken-b.ensures
    ∙ ap (λ (k : ℕ). cond (get_or fs 1 false) (number_at l (c.args.at + k)) (pos 0)) first)
    (taken_is (get_or fs 2 false) (number_at l d) c.taken-c.result (c.requires.within d) c.taken-c.ensures
    ∙ ap (λ (k : ℕ). cond (get_or fs 2 false) (number_at l (c.args.at + c.from.result + k)) (pos 0)) second
    ∙ ap (λ (k : ℕ). cond (get_or fs 2 false) (number_at l (c.args.at + k + cond (get_or fs 1 false) 1 0)) (pos 0)) first)
