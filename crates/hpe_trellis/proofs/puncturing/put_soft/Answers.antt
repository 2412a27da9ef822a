use Rattle.std.proofs.Common.{rules, ◌≡◌, ◌+◌, ℕ, List, ℤ, pos, cond, get_or, false, Bool, ap, length}
use Rattle.hpe_base.specs.Sizes.{number_at}
use Rattle.hpe_lane.proofs.OuterFits.{kept_z}
use Rattle.hpe_trellis.proofs.StepOutputs.{put-is}
use Rattle.hpe_trellis.proofs.puncturing.put_soft.Goals as goal

pub returns : goal.returns
returns c =
    let fs : List Bool = c.args.column.now in
    let soft : List ℤ = c.args.soft in
    let three : length fs ≡ 3 = search rules in
    let first : c.from.result ≡ cond (get_or fs 0 false) 1 0 = search rules in
    let second : c.from-2.result ≡ cond (get_or fs 1 false) 1 0 = search rules in
    let a : kept_z (get_or soft 1 (pos 0)) ≡ number_at soft 1 = search rules in
    let b : kept_z (get_or soft 2 (pos 0)) ≡ number_at soft 2 = search rules in
    let d : kept_z (get_or soft 3 (pos 0)) ≡ number_at soft 3 = search rules in
    put-is fs c.args.code.now c.put.new.code c.put-2.new.code c.put-3.new.code c.args.at (c.args.at + c.from.result) (c.args.at + c.from.result + c.from-2.result)
    (number_at soft 1) (number_at soft 2) (number_at soft 3) (kept_z (get_or soft 1 (pos 0))) (kept_z (get_or soft 2 (pos 0))) (kept_z (get_or soft 3 (pos 0)))
    three a b d (ap (λ (k : ℕ). c.args.at + k) first) (ap (λ (k : ℕ). c.args.at + c.from.result + k) second) c.put.ensures c.put-2.ensures c.put-3.ensures
