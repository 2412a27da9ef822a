use Rattle.std.proofs.Common.{◌≡◌, ◌≤◌, ◌<◌, ◌+◌, ◌*◌, ◌∙◌, ◌++◌, ◌∷◌, length, drop, get_or, arith, ap, sym, subst}
use Rattle.std.proofs.lemmas.List.{take_rest}
use Rattle.hpe_base.specs.Counts.{counts_of}
use Rattle.hpe_recv.specs.Counting.{half_octets}
use Rattle.hpe_recv.proofs.Counting.{counts_of-half, read_behind_first, drop-half}
use Rattle.hpe_recv.proofs.counts.read_behind.Goals as goal

pub returns-in-Some-clause-counts : goal.returns-in-Some-clause-counts
returns-in-Some-clause-counts c =
    let p = c.args.p.now in
    let octets = c.args.octets.now in
    let high = c.in-Some.high in
    let h = c.read_whole-in-Some.ensures in
    let less : 1 < p.count_octets = subst (λ o. length (half_octets o) < p.count_octets) c.in-Some.is c.requires.half in
    let two : p.count_octets ≡ 2 = omega (arith, c.requires.valid.range.count_octets_high) in
    let room : 1 + length octets ≤ p.count_octets * length c.args.counts.now =
    subst (λ o. length (half_octets o) + length octets ≤ p.count_octets * length c.args.counts.now) c.in-Some.is c.requires.room in
    let size : p.count_octets * length c.args.counts.now ≡ 2 * length c.args.counts.now = ap (λ w. w * length c.args.counts.now) two in
    read_behind_first c.args.counts.now c.read_whole-in-Some.new.counts _ c.read_whole-in-Some.result _ (omega arith) h.within
    ∙ (ap (λ l. (256 * high + get_or octets 0 0) ∷ l) (h.counts ∙ ap (counts_of p) (take_rest octets 1))
    ∙ (sym (counts_of-half p high octets two c.requires.some) ∙ sym (ap (λ o. counts_of p (half_octets o ++ octets)) c.in-Some.is)))

pub returns-in-Some-clause-half : goal.returns-in-Some-clause-half
returns-in-Some-clause-half c =
    let p = c.args.p.now in
    let octets = c.args.octets.now in
    let high = c.in-Some.high in
    let h = c.read_whole-in-Some.ensures in
    let n = c.read_whole-in-Some.result in
    let less : 1 < p.count_octets = subst (λ o. length (half_octets o) < p.count_octets) c.in-Some.is c.requires.half in
    let two : p.count_octets ≡ 2 = omega (arith, c.requires.valid.range.count_octets_high) in
    h.half
    ∙ (ap (drop (p.count_octets * n)) (take_rest octets 1)
    ∙ (sym (drop-half p.count_octets n high octets two) ∙ sym (ap (λ o. drop (p.count_octets * (1 + n)) (half_octets o ++ octets)) c.in-Some.is)))
