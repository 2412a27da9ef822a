use Rattle.std.proofs.Common.{◌≡◌, ◌+◌, ◌≤◌, ◌^◌, ℕ, length, arith}
use Rattle.std.proofs.Math.Pow.{pow_mono}
use Rattle.hpe_lane.proofs.Eights.{eight_near, whole_soft}
use Rattle.hpe_lane.proofs.fold.LastTurns.fold.Goals as goal

three_or_more : (m : ℕ) → 3 ≤ m → 8 ≤ 2 ^ m
three_or_more m h = pow_mono {i = 3} {j = m} h

pub fold_eight-requires-clause-eight : goal.fold_eight-requires-clause-eight
fold_eight-requires-clause-eight g c =
    let m : ℕ = length c.args.out.now in
    let p : 3 ≤ m = c.requires.some in
    let t = three_or_more m p in
    omega (arith, c.fold_turns.auto.scores, c.requires.scores)

pub fold_eight-requires-clause-near : goal.fold_eight-requires-clause-near
fold_eight-requires-clause-near g c =
    let m : ℕ = length c.args.out.now in
    let k : ℕ = length c.split_at_mut-first.result.0.now in
    let p : 3 ≤ m = c.requires.some in
    let three : k + 3 ≡ m = omega (arith, c.split_at_mut-first.ensures.front_len) in
    eight_near m k c.args.scores.now c.fold_turns.new.scores three c.fold_turns.ensures.folded 1200294894 c.requires.scores c.requires.near

pub returns : goal.returns
returns g c =
    let m : ℕ = length c.args.out.now in
    let k : ℕ = length c.split_at_mut-first.result.0.now in
    let p : 3 ≤ m = c.requires.some in
    let three : k + 3 ≡ m = omega (arith, c.split_at_mut-first.ensures.front_len) in
    whole_soft m k c.args.scores.now c.fold_turns.new.scores three c.fold_turns.ensures.folded c.fold_turns.new.out c.fold_eight.new.out c.fold_turns.auto.out c.fold_turns.ensures.soft c.fold_eight.ensures
