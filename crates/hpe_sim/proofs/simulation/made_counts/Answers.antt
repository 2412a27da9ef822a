use Rattle.std.proofs.Common.{rules, ◌≡◌, ◌*◌, ◌∙◌, ap, sym, subst, List, ℕ, Vec, Global}
use Rattle.std.proofs.lemmas.Result.{IfOk-weaker}
use Rattle.hpe_base.specs.Counts.{counts_of}
use Rattle.hpe_base.specs.Slots.{slots_of}
use Rattle.hpe_sim.specs.Simulated.{channel_counts, count_octets_of}
use Rattle.hpe_sim.proofs.Made.{octets_few, sent_are, sent_own, sim_counts-are, whole}
use Rattle.hpe_sim.proofs.simulation.made_counts.Goals as goal

pub sent_slots-requires-clause-octets : goal.sent_slots-requires-clause-octets
sent_slots-requires-clause-octets c = rw (c.requires.octets) (octets_few c.args.p.now c.args.task.now c.requires.valid c.requires.frames)

pub sent_slots-requires-clause-whole : goal.sent_slots-requires-clause-whole
sent_slots-requires-clause-whole c = rw (c.requires.octets) (whole c.args.p.now c.args.task.now)

pub sent_slots-requires-clause-slots : goal.sent_slots-requires-clause-slots
sent_slots-requires-clause-slots c =
    rw (c.requires.octets) (sent_are c.args.p.now c.args.task.now c.requires.valid ∙ ap (λ n. c.args.p.now.count_octets * n) (sym c.requires.slots))

pub counts-requires : goal.counts-requires
counts-requires c =
    let p = c.args.p.now in
    let sent : c.bytes.result.now ≡ slots_of p c.args.octets.now = search rules in
    subst (λ (l : List ℕ). l ≡ count_octets_of p (counts_of p l)) (sym sent) (sent_own p c.args.octets.now c.requires.valid)

pub returns : goal.returns
returns c =
    let p = c.args.p.now in
    let sent : c.bytes.result.now ≡ slots_of p c.args.octets.now = search rules in
    IfOk-weaker c.counts.result _ _
    (λ (v : Vec ℕ Global) h. h ∙ ap (λ l. count_octets_of p (channel_counts c.args.task.now (counts_of p l))) (sent ∙ ap (slots_of p) c.requires.octets) ∙ sim_counts-are p c.args.task.now)
    c.counts.ensures
