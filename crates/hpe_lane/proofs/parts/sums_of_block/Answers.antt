use Rattle.std.proofs.Common.{◌≡◌, ℕ, ◌+◌, ◌-◌, ◌*◌, ◌%◌, ◌<◌, ◌∙◌, ap, sym, ℤ, List, arith, rules, ◌+ℤ◌, pos, get_or, to_z, of_z, w32}
use Rattle.std.proofs.Math.IntN.{+ℤ_idl}
use Rattle.hpe_base.specs.Sizes.{number_at}
use Rattle.hpe_lane.specs.Parts.{part_sum}
use Rattle.hpe_lane.proofs.GrayParts.{even_lane, odd_lane, part_at}
use Rattle.hpe_lane.proofs.parts.sums_of_block.Goals as goal

twice : (j : ℕ) → j < 8 → 7 - (7 - j) ≡ j
twice j h = omega arith

even_block : (blocks eight turned sums : List ℤ) (w : ℕ) → w % 2 ≡ 0
    → ((j : ℕ) → j < 8 → number_at turned j ≡ pos 0 +ℤ number_at eight (7 - j)) → ((j : ℕ) → j < 8 → number_at sums j ≡ number_at blocks w +ℤ number_at turned (7 - j))
    → (j : ℕ) → j < 8 → number_at sums j ≡ part_sum blocks eight (8 * w + j)
even_block blocks eight turned sums w e ts ss j h =
    ss j h ∙ ap (λ (z : ℤ). number_at blocks w +ℤ z) (ts (7 - j) (omega arith) ∙ +ℤ_idl (number_at eight (7 - (7 - j))) ∙ ap (number_at eight) (twice j h ∙ sym (even_lane w j e)))
    ∙ part_at blocks eight w j h

odd_block : (blocks eight sums : List ℤ) (w : ℕ) → w % 2 ≡ 1 → ((j : ℕ) → j < 8 → number_at sums j ≡ number_at blocks w +ℤ number_at eight (7 - j))
    → (j : ℕ) → j < 8 → number_at sums j ≡ part_sum blocks eight (8 * w + j)
odd_block blocks eight sums w e ss j h =
    ss j h ∙ ap (λ (z : ℕ). number_at blocks w +ℤ number_at eight z) (sym (odd_lane w j e)) ∙ part_at blocks eight w j h

pub returns-then-w-eq0 : goal.returns-then-w-eq0
returns-then-w-eq0 c =
    let blocks : List ℤ = c.args.parts.blocks.now in
    let turned : List ℤ = c.mirror_eight.new.high in
    let clean : to_z w32 (of_z w32 (get_or blocks c.args.w (pos 0))) ≡ number_at blocks c.args.w = search rules in
    even_block blocks c.args.parts.eight.now turned c.mirror_eight-then-w-eq0.new.high c.args.w c.if-w-eq0.true c.mirror_eight.ensures
    (λ j h. c.mirror_eight-then-w-eq0.ensures j h ∙ ap (λ (z : ℤ). z +ℤ number_at turned (7 - j)) clean)
