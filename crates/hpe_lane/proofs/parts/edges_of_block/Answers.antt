use Rattle.std.proofs.Common.{◌≡◌, ℕ, ◌+◌, ◌-◌, ◌*◌, ◌<◌, ◌∙◌, ap₂, ℤ, List, take, drop, rules, get_or, pos, ◌+ℤ◌}
use Rattle.std.proofs.lemmas.List.{places}
use Rattle.hpe_lane.proofs.GrayParts.{parts_within}
use Rattle.hpe_lane.proofs.parts.edges_of_block.Goals as goal

pub add_eight-requires-clause-scores : goal.add_eight-requires-clause-scores
add_eight-requires-clause-scores c =
    parts_within c.args.parts.blocks.now c.args.parts.eight.now c.sums_of_block-edges.result c.args.w (search rules) c.requires.parts.small c.requires.parts.small_eight c.sums_of_block-edges.ensures

cut : (xs : List ℕ) (w j : ℕ) → j < 8 → get_or (take (8 * w + 8 - 8 * w) (drop (8 * w) xs)) j 0 ≡ get_or xs (8 * w + j) 0
cut xs w j h = search (rules, places)

pub returns : goal.returns
returns c = λ j h.
    c.add_eight.ensures j h ∙ ap₂ (λ (n : ℕ) (z : ℤ). pos n +ℤ z) (cut c.args.parts.counts.now c.args.w j h) (c.sums_of_block-edges.ensures j h)
