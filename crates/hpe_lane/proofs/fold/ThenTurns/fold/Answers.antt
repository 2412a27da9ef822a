use Rattle.std.proofs.Common.{◌≡◌, ◌+◌, ◌/◌, ◌^◌, ◌<◌, ◌∙◌, ℕ, suc, ℤ, List, length, arith, sym, ap, pos, take, refl}
use Rattle.std.proofs.lemmas.List.{get_or-take, length-take-le}
use Rattle.std.proofs.Math.Nat.{two-pow-succ}
use Rattle.hpe_base.specs.Sizes.{number_at}
use Rattle.hpe_lane.proofs.Eights.{rest_near, rest_soft}
use Rattle.hpe_lane.proofs.fold.ThenTurns.fold.Goals as goal

doubled : (m j : ℕ) → suc j ≡ m → 2 ^ m ≡ 2 ^ j + 2 ^ j
doubled m j e = ap (λ (n : ℕ). 2 ^ n) (sym e) ∙ two-pow-succ j

half_is : (n q : ℕ) → n ≡ q + q → n / 2 ≡ q
half_is n q e = omega arith

half_of : (m j n : ℕ) → suc j ≡ m → n ≡ 2 ^ m → n / 2 ≡ 2 ^ j
half_of m j n e l = half_is n (2 ^ j) (l ∙ doubled m j e)

in_part : (xs : List ℤ) (h q v : ℕ) → h ≡ q → v < q → number_at (take h xs) v ≡ number_at xs v
in_part xs h q v e l = get_or-take h xs v (pos 0) (omega arith)

part_long : (xs : List ℤ) (n h q : ℕ) → length xs ≡ n → h ≡ n / 2 → h ≡ q → length (take h xs) ≡ q
part_long xs n h q l e r = length-take-le h xs (omega arith) ∙ r

pub fold-requires-clause-near : goal.fold-requires-clause-near
fold-requires-clause-near g c =
    let m : ℕ = length c.args.out.now in
    let k : ℕ = length c.split_at_mut-first.result.0.now in
    let j : ℕ = length c.split_at_mut-first.result.1.now in
    let now : List ℤ = c.fold_turns.new.scores in
    let h : ℕ = length c.args.scores.now / 2 in
    let one : k ≡ 1 = c.split_at_mut-first.ensures.front_len in
    let three : k + j ≡ m = omega (arith, c.split_at_mut-first.ensures.front_len, c.split_at_mut-first.ensures.back_len, c.requires.some) in
    let next : suc j ≡ m = omega arith in
    let half : h ≡ 2 ^ j = half_of m j (length c.args.scores.now) next c.requires.scores in
    rest_near m k j c.args.scores.now now (take h now) three c.fold_turns.ensures.folded (λ v l. in_part now h (2 ^ j) v half l) 1200294894 c.requires.scores c.requires.near
    (part_long now (length c.args.scores.now) h (2 ^ j) c.fold_turns.auto.scores refl half)

pub returns : goal.returns
returns g c =
    let m : ℕ = length c.args.out.now in
    let k : ℕ = length c.split_at_mut-first.result.0.now in
    let j : ℕ = length c.split_at_mut-first.result.1.now in
    let now : List ℤ = c.fold_turns.new.scores in
    let h : ℕ = length c.args.scores.now / 2 in
    let one : k ≡ 1 = c.split_at_mut-first.ensures.front_len in
    let three : k + j ≡ m = omega (arith, c.split_at_mut-first.ensures.front_len, c.split_at_mut-first.ensures.back_len, c.requires.some) in
    let next : suc j ≡ m = omega arith in
    let half : h ≡ 2 ^ j = half_of m j (length c.args.scores.now) next c.requires.scores in
    rest_soft m k j c.args.scores.now now (take h now) three c.fold_turns.ensures.folded (λ v l. in_part now h (2 ^ j) v half l) c.fold_turns.new.out c.fold.new.out c.fold_turns.auto.out c.fold_turns.ensures.soft c.fold.ensures
