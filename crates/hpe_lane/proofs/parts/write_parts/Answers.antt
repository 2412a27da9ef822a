use Rattle.std.proofs.Common.{◌≡◌, ℕ, ◌-◌, ◌*◌, ◌<◌, ◌≤◌, ◌^◌, ◌∙◌, ap, List, ℤ, length, take, drop, arith, sym, subst}
use Rattle.std.proofs.lemmas.List.{length-drop}
use Rattle.hpe_lane.proofs.Blocks.{take_long}
use Rattle.hpe_lane.proofs.GrayParts.{tail_whole, gray_parts, gray_all_within, take_within, five_most}
use Rattle.hpe_lane.proofs.Sizes.{drop_within}
use Rattle.hpe_lane.specs.Edges.{gray_from}
use Rattle.hpe_lane.proofs.parts.write_parts.Goals as goal

pub returns-clause-sum : goal.returns-clause-sum
returns-clause-sum c =
    let k : ℕ = length c.args.l.now - 3 in
    let n : length (take k c.args.l.now) ≡ k = take_long k c.args.l.now (omega arith) in
    gray_parts c.args.l.now c.gray_scores.new.out c.gray_eight.new.out (omega arith)
    (λ w h. c.gray_scores.ensures w (subst (λ (i : ℕ). w < 2 ^ i) (sym n) h)) (λ j h. c.gray_eight.ensures j h ∙ ap (λ (xs : List ℤ). gray_from 0 xs j) (tail_whole k c.args.l.now))

pub returns-clause-small : goal.returns-clause-small
returns-clause-small c =
    let k : ℕ = length c.args.l.now - 3 in
    let n : length (take k c.args.l.now) ≡ k = take_long k c.args.l.now (omega arith) in
    gray_all_within 81915 (take k c.args.l.now) c.gray_scores.new.out (subst (λ (i : ℕ). i * 16383 ≤ 81915) (sym n) (five_most (length c.args.l.now) (omega arith)))
    (omega arith ∙ ap (λ (i : ℕ). 2 ^ i) (sym n)) (take_within 16383 k c.args.l.now c.requires.l) c.gray_scores.ensures

pub returns-clause-small_eight : goal.returns-clause-small_eight
returns-clause-small_eight c =
    let k : ℕ = length c.args.l.now - 3 in
    let n : length (drop k c.args.l.now) ≡ 3 = length-drop k c.args.l.now ∙ omega arith in
    gray_all_within 49149 (drop k c.args.l.now) c.gray_eight.new.out (subst (λ (i : ℕ). i * 16383 ≤ 49149) (sym n) (omega arith))
    (omega arith ∙ ap (λ (i : ℕ). 2 ^ i) (sym n)) (drop_within 16383 k c.args.l.now c.requires.l) (λ j h. c.gray_eight.ensures j (subst (λ (i : ℕ). j < 2 ^ i) n h) ∙ ap (λ (xs : List ℤ). gray_from 0 xs j) (tail_whole k c.args.l.now))
