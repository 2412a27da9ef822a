-- The channel interleaver and its inverse.
use Rattle.std.specs.Prelude.{if◌then◌else◌, ℕ, ◌+◌, ◌-◌, ◌*◌, ◌%◌, List, length, slice_index, slice_index_or, nat_le}
use Rattle.hpe_base.specs.Lists.{tabulate}
use Rattle.hpe_base.specs.Parameters.{Parameters, interleaver_depth}

-- how many places back the interleaver finds the symbol of place t
abbrev pub delay_at : Parameters → ℕ → ℕ
delay_at p t = t % p.rows * p.rows * p.delay

-- the symbol that is sent at place t: that of the place so far back, and symbol 0 before the start
abbrev pub channel_at : Parameters → List ℕ → ℕ → ℕ
channel_at p symbols t = if nat_le (delay_at p t) t then slice_index symbols (t - delay_at p t) else 0

-- the symbols in the order of the channel
unfoldable pub interleaved_channel : Parameters → List ℕ → List ℕ
interleaved_channel p symbols = tabulate (length symbols) (channel_at p symbols)

-- the received values in the order before the channel interleaver, as far as all of them have come; d stands for a
-- value that isn't there, and none of those places is asked for
unfoldable pub deinterleaved_channel : {V : Type 0} → Parameters → V → List V → List V
deinterleaved_channel p d received =
    tabulate (length received - interleaver_depth p) (λ v. slice_index_or received (v + delay_at p v) d)
