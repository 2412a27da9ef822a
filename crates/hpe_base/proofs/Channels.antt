-- Lemmas on the channel interleaver.
use Rattle.std.proofs.Common.{◌≡◌, ◌<◌, ◌-◌, ℕ, List, ◌++◌, length, ap, arith, if◌then◌else◌, nat_le, ◌+◌, ◌≤◌, [], All, get_or, sym, subst}
use Rattle.std.proofs.lemmas.List.{get_or_append_left}
use Rattle.hpe_base.specs.Parameters.{Parameters, interleaver_depth}
use Rattle.hpe_base.specs.ChannelInterleaver.{delay_at, channel_at, interleaved_channel, deinterleaved_channel}
use Rattle.hpe_base.proofs.Tabulated.{length-tabulate, get_or-tabulate}
use Rattle.hpe_base.specs.Lists.{tabulate}
use Rattle.hpe_base.proofs.ParameterLemmas.{delay_at-le}

-- a place takes nothing from past it
pub channel_at-front : (p : Parameters) (xs ys : List ℕ) (t : ℕ) → t < length xs → channel_at p (xs ++ ys) t ≡ channel_at p xs t
channel_at-front p xs ys t h =
    let b : t - delay_at p t < length xs = omega arith in
    ap (λ (v : ℕ). if nat_le (delay_at p t) t then v else 0) (get_or_append_left xs ys 0 (t - delay_at p t) b)

-- the channel interleaver keeps the number of symbols
pub length-interleaved_channel : (p : Parameters) (xs : List ℕ) → length (interleaved_channel p xs) ≡ length xs
unfolding interleaved_channel
length-interleaved_channel p xs = length-tabulate (length xs) (channel_at p xs)

-- what holds of all rows of the channel holds of those in the order of the codewords
pub deinterleaved_all : (p : Parameters) (Q : List ℕ → Type 0) (rows : List (List ℕ)) → 0 < p.rows → All Q rows → All Q (deinterleaved_channel p [] rows)
unfolding deinterleaved_channel
deinterleaved_all p Q rows pos h = λ i d b.
    let n = length rows - interleaver_depth p in
    let f = λ (v : ℕ). get_or rows (v + delay_at p v) [] in
    let l : length (tabulate n f) ≡ n = length-tabulate n f in
    let c : i < n = omega arith in
    let e : delay_at p i ≤ interleaver_depth p = delay_at-le p i pos in
    subst Q (sym (get_or-tabulate n f i d c)) (h (i + delay_at p i) [] (omega arith))
