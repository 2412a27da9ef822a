use Rattle.std.proofs.Common.{◌≡◌, ◌++◌, ◌∷◌, [], ℕ, List, ap, sym, ◌∙◌, arith, append_assoc}
use Rattle.hpe_base.specs.Counts.{low_octet}
use Rattle.hpe_base.specs.Lists.{tabulate}
use Rattle.hpe_base.proofs.Counts.{octet_of_one, octets_of_two}
use Rattle.hpe_sim.proofs.channel.push_count.Goals as goal

pub returns-then-width-eq1-clause-items : goal.returns-then-width-eq1-clause-items
returns-then-width-eq1-clause-items c =
    c.push_reserved.ensures.items ∙ ap (λ (l : List ℕ). c.args.counts.now.items ++ l)
    (sym (octet_of_one c.args.count) ∙ ap (λ w. tabulate w (low_octet w (λ i. c.args.count))) (sym c.if-width-eq1.true))

pub returns-else-width-eq1-clause-items : goal.returns-else-width-eq1-clause-items
returns-else-width-eq1-clause-items c =
    let two : c.args.width ≡ 2 = omega (arith, c.requires.width, c.if-width-eq1.false) in
    c.push_reserved-else-width-eq1-2.ensures.items
    ∙ (ap (λ (l : List ℕ). l ++ c.args.count ∷ []) c.push_reserved-else-width-eq1.ensures.items
    ∙ (append_assoc c.args.counts.now.items (0 ∷ []) (c.args.count ∷ [])
    ∙ ap (λ (l : List ℕ). c.args.counts.now.items ++ l) (sym (octets_of_two c.args.count) ∙ ap (λ w. tabulate w (low_octet w (λ i. c.args.count))) (sym two))))
