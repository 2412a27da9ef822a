use Rattle.std.proofs.Common.{rules, ◌∙◌, ◌*◌, ◌%◌, ℕ, ap, arith}
use Rattle.hpe_sim.specs.Simulated.{generator}
use Rattle.hpe_sim.proofs.Words.{mapped_none, mapped_more, mapped_all, octets_are}
use Rattle.hpe_sim.proofs.channel.random_octets.Goals as goal

pub loop-init : goal.loop-init
loop-init c = (
  mapped_none (λ r. r % 256) c.in-Ok.octets.items _ (c.args.task.now.frames * c.args.p.now.frame_octets) c.new-words.result (generator c.args.task.now.seed 1) c.in-Ok.ensures.items
      (ap (λ (k : ℕ). c.args.task.now.frames * k) c.frame_octets.ensures.value) c.new-words.ensures ∙ octets_are c.args.p.now c.args.task.now,
  search rules,
  search rules,
)

pub loop-preserved : goal.loop-preserved
loop-preserved c =
    let i = c.loop.invariant in (
      rw (c.push_reserved.ensures.items) (mapped_more (λ r. r % 256) c.loop.octets.items _ _ c.loop.counter c.loop.words c.next_word.new.self c.next_word.result c.loop-test.true c.next_word.ensures i.0),
      search rules,
      search rules,
    )

pub returns : goal.returns
returns c = mapped_all (λ r. r % 256) c.loop.octets.items _ _ c.loop.counter c.loop.words (omega (arith, c.loop-test.false)) c.loop.invariant.0
