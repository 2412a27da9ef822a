use Rattle.std.proofs.Common.{rules, ◌≡◌, ◌<◌, ◌∙◌, ◌+◌, ◌-◌, ◌*◌, ◌/◌, ℕ, length, get_or, ap, ap₂, sym, arith}
use Rattle.rand_core.specs.Steps.{first_words}
use Rattle.rand_pcg.specs.Lcg.{Lcg}
use Rattle.rand_pcg.specs.Pcg.{pcg32}
use Rattle.hpe_base.specs.Counts.{counts_of}
use Rattle.hpe_sim.specs.Simulated.{channel_counts, generator, words_of}
use Rattle.hpe_sim.proofs.Octets.{counts_all, counts_more, counts_none}
use Rattle.hpe_sim.proofs.Words.{length-words, word_next}
use Rattle.hpe_base.proofs.Counts.{length-counts_of}
use Rattle.hpe_sim.proofs.channel.counts.Goals as goal

pub loop-i-init : goal.loop-i-init
loop-i-init c =
    let n : ℕ = length (counts_of c.args.p.now c.args.slots.now) in
    let all : n - 0 ≡ n = omega arith in
    record {
      items = counts_none c.args.p.now.count_octets (λ k. get_or (channel_counts c.args.task.now (counts_of c.args.p.now c.args.slots.now)) k 0) c.in-Ok.counts.items c.in-Ok.ensures.items;
      words = ap₂ (λ (k : ℕ) (g : Lcg). first_words pcg32 k g) all c.new-words.ensures;
      len = search rules;
      room = search rules;
    }

pub loop-i-preserved : goal.loop-i-preserved
loop-i-preserved c =
    let p = c.args.p.now in
    let i = c.loop-i.invariant in
    let w : c.count_octets-width.result ≡ p.count_octets = c.count_octets-width.ensures.value in
    let n : ℕ = length (counts_of p c.args.slots.now) in
    let size : n ≡ length c.args.slots.now / c.count_octets-width.result = length-counts_of p c.args.slots.now ∙ ap (λ k. length c.args.slots.now / k) (sym w) in
    let within : c.loop-i.i < n = omega (arith, c.loop-i-test.true) in
    let next = word_next n c.loop-i.i c.loop-i.words c.next_word.new.self c.next_word.result (words_of (generator c.args.task.now.seed 2) n) within
    (omega (arith, length-words n (generator c.args.task.now.seed 2))) c.next_word.ensures i.words in
    let more : p.count_octets * (c.loop-i.i + 1) ≡ p.count_octets * c.loop-i.i + p.count_octets = grind arith in
    record {
      items = counts_more p c.args.task.now c.args.slots.now c.loop-i.counts.items c.push_count.new.counts.items c.count_octets-width.result c.loop-i.i c.count.result c.next_word.result
          c.count_octets-width.ensures.valid w within c.requires next.0 c.count.ensures i.items c.push_count.ensures.items;
      words = next.1;
      len = omega (arith, i.len, c.push_count.ensures.len, w);
      room = search rules;
    }

pub returns : goal.returns
returns c =
    counts_all c.args.p.now c.args.task.now c.args.slots.now c.loop-i.counts.items c.count_octets-width.result c.loop-i.i c.count_octets-width.ensures.value
    (omega (arith, c.loop-i.auto.i-end, c.loop-i-test.false)) c.loop-i.invariant.items
