use Rattle.std.proofs.Common.{◌≡◌, ◌≤◌, ◌-◌, ◌*◌, length, drop, vec_len, vec_capacity}
use Rattle.std.specs.Prelude.{slice_index}
use Rattle.rand_core.specs.Steps.{first_words}
use Rattle.rand_pcg.specs.Pcg.{pcg32}
use Rattle.hpe_base.specs.Counts.{counts_of, low_octet}
use Rattle.hpe_base.specs.Lists.{tabulate}
use Rattle.hpe_sim.specs.Simulated.{channel_counts, generator, words_of}
use Rattle.hpe_sim.proofs.channel.counts.Given as goal

abbrev pub invariant-loop-i : goal.invariant-loop-i
invariant-loop-i l =
    let w = l.fn.p.count_octets in
    let n = length (counts_of l.fn.p l.fn.slots) in
    record {
      items : l.counts.items ≡ tabulate (w * l.i) (low_octet w (slice_index (channel_counts l.fn.task (counts_of l.fn.p l.fn.slots))));
      words : first_words pcg32 (n - l.i) l.words ≡ drop l.i (words_of (generator l.fn.task.seed 2) n);
      len : vec_len l.counts ≡ w * l.i;
      room : length l.fn.slots ≤ vec_capacity l.counts;
    }
