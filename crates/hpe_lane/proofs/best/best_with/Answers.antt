use Rattle.std.proofs.Common.{arith, rules, ◌≡◌, ℕ, suc, ℤ, ◌+◌, ◌-◌, ◌*◌, ◌/◌, ◌%◌, ◌^◌, ◌<◌, ◌≤◌, ◌+ℤ◌, List, length, sym, ◌∙◌, ap, pos, get_or, to_z, of_z, w32}
use Rattle.std.proofs.Math.Nat.{two-pow-succ}
use Rattle.std.proofs.Math.Pow.{pow_mono}
use Rattle.hpe_base.specs.Greatest.{IsGreatest}
use Rattle.hpe_base.specs.Sizes.{number_at}
use Rattle.hpe_lane.specs.Parts.{part_edge, stage_edge}
use Rattle.hpe_lane.proofs.BestEdges.{parts_are, half_ends, four_ends, halves_of}
use Rattle.hpe_lane.proofs.GrayParts.{eights_of}
use Rattle.hpe_lane.proofs.best.best_with.Goals as goal

pub best_of_half-low-requires-clause-parts : goal.best_of_half-low-requires-clause-parts
best_of_half-low-requires-clause-parts c =
    parts_are c.args.counts.now c.write_parts.new.blocks c.write_parts.new.eight (length c.args.l.now) c.requires.many c.requires.stage.long (omega arith) (omega arith) c.requires.stage.most c.write_parts.ensures.small c.write_parts.ensures.small_eight

pub best_of_half-high-requires-clause-parts : goal.best_of_half-high-requires-clause-parts
best_of_half-high-requires-clause-parts c =
    parts_are c.args.counts.now c.write_parts.new.blocks c.write_parts.new.eight (length c.args.l.now) c.requires.many c.requires.stage.long (omega arith) (omega arith) c.requires.stage.most c.write_parts.ensures.small c.write_parts.ensures.small_eight

two_blocks : (m n : ℕ) → 4 ≤ m → n ≡ 2 ^ (m - 3) → 2 ≤ n
two_blocks m n h e = let p : 2 ^ 1 ≤ 2 ^ (m - 3) = pow_mono {i = 1} {j = m - 3} (omega arith) in omega arith

pub best_of_half-low-requires-clause-some : goal.best_of_half-low-requires-clause-some
best_of_half-low-requires-clause-some c = two_blocks (length c.args.l.now) (length c.write_parts.new.blocks) c.requires.many (omega arith)

half_blocks : (m n : ℕ) → 4 ≤ m → n ≡ 2 ^ (m - 3) → 8 * (n / 2) ≡ 2 ^ (m - 1)
half_blocks m n h e = let a = eights_of m (omega arith) in let b = halves_of m (omega arith) in let up : suc (m - 4) ≡ m - 3 = omega arith in let d : 2 ^ (m - 3) ≡ 2 ^ (m - 4) + 2 ^ (m - 4) = ap (λ (k : ℕ). 2 ^ k) (sym up) ∙ two-pow-succ (m - 4) in omega (arith, a, b.0, d)

one_half : (h : ℕ) → h ≡ 1 * h
one_half h = omega arith

pub returns : goal.returns
returns c =
    let counts : List ℕ = c.args.counts.now in
    let l : List ℤ = c.args.l.now in
    let m : ℕ = length l in
    let blocks : List ℤ = c.write_parts.new.blocks in
    let eight : List ℤ = c.write_parts.new.eight in
    let whole : 8 * (length blocks / 2) ≡ 2 ^ (m - 1) = half_blocks m (length blocks) c.requires.many (omega arith) in
    let same : (v : ℕ) → v < 2 ^ m → part_edge counts blocks eight v ≡ stage_edge counts l 0 v = λ v h. ap (λ (z : ℤ). pos (get_or counts v 0) +ℤ z) (c.write_parts.ensures.sum v h) in
    let clean_low0 : to_z w32 (of_z w32 (get_or c.ends_of_eight-low_ends.result 0 (pos 0))) ≡ number_at c.ends_of_eight-low_ends.result 0 = search rules in
    let clean_low1 : to_z w32 (of_z w32 (get_or c.ends_of_eight-low_ends.result 1 (pos 0))) ≡ number_at c.ends_of_eight-low_ends.result 1 = search rules in
    let clean_high0 : to_z w32 (of_z w32 (get_or c.ends_of_eight-high_ends.result 0 (pos 0))) ≡ number_at c.ends_of_eight-high_ends.result 0 = search rules in
    let clean_high1 : to_z w32 (of_z w32 (get_or c.ends_of_eight-high_ends.result 1 (pos 0))) ≡ number_at c.ends_of_eight-high_ends.result 1 = search rules in
    four_ends (λ (f b : ℕ) (z : ℤ). IsGreatest (λ (v : ℕ). (v < 2 ^ length c.args.l.now) × ((v / 2 ^ (length c.args.l.now - 1) ≡ f) × (v % 2 ≡ b))) (stage_edge c.args.counts.now c.args.l.now 0) z) _ _ _ _
    (half_ends m 0 0 0 (length blocks / 2) (stage_edge counts l 0) (part_edge counts blocks eight) c.best_of_half-low.result _ (omega arith) (omega arith) (omega arith) (omega arith) whole same c.best_of_half-low.ensures (clean_low0 ∙ c.ends_of_eight-low_ends.ensures 0 (omega arith)))
    (half_ends m 0 1 0 (length blocks / 2) (stage_edge counts l 0) (part_edge counts blocks eight) c.best_of_half-low.result _ (omega arith) (omega arith) (omega arith) (omega arith) whole same c.best_of_half-low.ensures (clean_low1 ∙ c.ends_of_eight-low_ends.ensures 1 (omega arith)))
    (half_ends m 1 0 (length blocks / 2) (length blocks / 2) (stage_edge counts l 0) (part_edge counts blocks eight) c.best_of_half-high.result _ (omega arith) (omega arith) (omega arith) (whole ∙ one_half (2 ^ (m - 1))) whole same c.best_of_half-high.ensures (clean_high0 ∙ c.ends_of_eight-high_ends.ensures 0 (omega arith)))
    (half_ends m 1 1 (length blocks / 2) (length blocks / 2) (stage_edge counts l 0) (part_edge counts blocks eight) c.best_of_half-high.result _ (omega arith) (omega arith) (omega arith) (whole ∙ one_half (2 ^ (m - 1))) whole same c.best_of_half-high.ensures (clean_high1 ∙ c.ends_of_eight-high_ends.ensures 1 (omega arith)))
