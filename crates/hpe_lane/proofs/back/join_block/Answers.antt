use Rattle.std.proofs.Common.{rules, ◌≡◌, ℕ, ◌+◌, ◌-◌, ◌*◌, ◌<◌, ◌∙◌, ap, ℤ, List, length, take, drop, get_or, pos, ◌+ℤ◌}
use Rattle.std.proofs.lemmas.List.{places}
use Rattle.hpe_base.specs.Sizes.{number_at}
use Rattle.hpe_lane.proofs.BestBack.{counted_within, joined_at}
use Rattle.hpe_lane.proofs.GrayParts.{parts_within}
use Rattle.hpe_lane.proofs.back.join_block.Goals as goal

cut : (xs : List ℕ) (w j : ℕ) → j < 8 → get_or (take (8 * w + 8 - 8 * w) (drop (8 * w) xs)) j 0 ≡ get_or xs (8 * w + j) 0
cut xs w j h = search (rules, places)

pub join_eight-requires-clause-edges0 : goal.join_eight-requires-clause-edges0
join_eight-requires-clause-edges0 c =
    let counts : List ℕ = c.args.parts.counts.now in
    let sums : List ℤ = c.sums_of_block-sums.result in
    counted_within c.add_eight.new.scores sums (λ i. get_or counts (8 * c.args.w + i) 0) (λ i. i) (search rules) (λ i. c.requires.parts.most (8 * c.args.w + i))
    (parts_within c.args.parts.blocks.now c.args.parts.eight.now sums c.args.w (search rules) c.requires.parts.small c.requires.parts.small_eight c.sums_of_block-sums.ensures)
    (λ j h. c.add_eight.ensures j h ∙ ap (λ (n : ℕ). pos n +ℤ number_at sums j) (cut counts c.args.w j h))

pub join_eight-requires-clause-edges1 : goal.join_eight-requires-clause-edges1
join_eight-requires-clause-edges1 c =
    let counts : List ℕ = c.args.parts.counts.now in
    let mirror : ℕ = length c.args.parts.blocks.now - 1 - c.args.w in
    let sums : List ℤ = c.sums_of_block-sums.result in
    counted_within c.add_turned_eight.new.sums sums (λ i. get_or counts (8 * mirror + i) 0) (λ i. 7 - i) (search rules) (λ i. c.requires.parts.most (8 * mirror + i))
    (parts_within c.args.parts.blocks.now c.args.parts.eight.now sums c.args.w (search rules) c.requires.parts.small c.requires.parts.small_eight c.sums_of_block-sums.ensures)
    (λ j h. c.add_turned_eight.ensures j h ∙ ap (λ (n : ℕ). pos n +ℤ number_at sums (7 - j)) (cut counts mirror j h))

pub returns : goal.returns
returns c = λ j h.
    let counts : List ℕ = c.args.parts.counts.now in
    let blocks : List ℤ = c.args.parts.blocks.now in
    let mirror : ℕ = length blocks - 1 - c.args.w in
    let sums : List ℤ = c.sums_of_block-sums.result in
    c.join_eight.ensures j h
    ∙ joined_at counts blocks c.args.parts.eight.now c.args.around0 c.args.around1 c.add_eight.new.scores c.add_turned_eight.new.sums sums c.args.w j c.requires.parts.long c.requires.inside h
    c.sums_of_block-sums.ensures
    (λ i k. c.add_eight.ensures i k ∙ ap (λ (n : ℕ). pos n +ℤ number_at sums i) (cut counts c.args.w i k))
    (λ i k. c.add_turned_eight.ensures i k ∙ ap (λ (n : ℕ). pos n +ℤ number_at sums (7 - i)) (cut counts mirror i k))
