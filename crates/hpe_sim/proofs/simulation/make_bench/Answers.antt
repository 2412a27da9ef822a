use Rattle.std.proofs.Common.{rules, ◌≡◌, ◌∙◌, ap, List, ℕ, length, sum, arith}
use Rattle.hpe_sim.specs.Simulated.{sim_counts}
use Rattle.hpe_sim.proofs.Made.{counts_few, sum-sim_counts}
use Rattle.hpe_sim.proofs.simulation.make_bench.Goals as goal

pub total-total-requires : goal.total-total-requires
total-total-requires c =
    let e : c.deref-2.result.now ≡ sim_counts c.args.p.now c.args.task.now = search rules in
    omega (arith, ap (λ (l : List ℕ). length l) e, counts_few c.args.p.now c.args.task.now c.requires.valid (omega (arith, c.requires.slots, c.requires.few)))

pub returns-clause-total : goal.returns-clause-total
returns-clause-total c =
    let e : c.deref-2.result.now ≡ sim_counts c.args.p.now c.args.task.now = search rules in
    c.total-total.ensures ∙ ap sum e ∙ sum-sim_counts c.args.p.now c.args.task.now c.requires.valid
