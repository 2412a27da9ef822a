-- The channel interleaver and its inverse after one push more.
use Rattle.std.proofs.Common.{◌≡◌, ◌<◌, ◌≤◌, ◌+◌, ◌-◌, ℕ, List, [], ◌∷◌, ◌++◌, length, get_or, ap, ◌∙◌, arith}
use Rattle.std.proofs.lemmas.List.{length_push, get_or_append_left}
use Rattle.hpe_base.specs.Lists.{tabulate}
use Rattle.hpe_base.specs.Parameters.{Parameters, interleaver_depth}
use Rattle.hpe_base.specs.ChannelInterleaver.{deinterleaved_channel, delay_at, channel_at, interleaved_channel}
use Rattle.hpe_base.proofs.Channels.{channel_at-front}
use Rattle.hpe_base.proofs.Tabulated.{length-tabulate, tabulate-more, tabulate-same, tabulate_from_places, get_or-tabulate, tabulate-none}
use Rattle.hpe_base.proofs.ParameterLemmas.{delay_at-le}

-- one symbol more
pub channel_more : (p : Parameters) (xs : List ℕ) (x : ℕ) → interleaved_channel p (xs ++ x ∷ []) ≡ interleaved_channel p xs ++ channel_at p (xs ++ x ∷ []) (length xs) ∷ []
unfolding interleaved_channel
channel_more p xs x =
    ap (λ (n : ℕ). tabulate n (channel_at p (xs ++ x ∷ []))) (length_push xs x)
    ∙ tabulate-more (length xs) (channel_at p (xs ++ x ∷ []))
    ∙ ap (λ (l : List ℕ). l ++ channel_at p (xs ++ x ∷ []) (length xs) ∷ []) (tabulate-same (length xs) (channel_at p (xs ++ x ∷ [])) (channel_at p xs) (λ k b. channel_at-front p xs (x ∷ []) k b))

-- row v in the order of the codewords
abbrev pub row_at : Parameters → List (List ℕ) → ℕ → List ℕ
row_at p rows v = get_or rows (v + delay_at p v) []

-- what comes after the depth does not change a row that is due
row_at-front : (p : Parameters) (xs ys : List (List ℕ)) (v : ℕ) → 0 < p.rows → v + interleaver_depth p < length xs → row_at p (xs ++ ys) v ≡ row_at p xs v
row_at-front p xs ys v pos h =
    let d : delay_at p v ≤ interleaver_depth p = delay_at-le p v pos in
    get_or_append_left xs ys [] (v + delay_at p v) (omega arith)

-- one row more, where one is due
pub unchannel_more : (p : Parameters) (xs : List (List ℕ)) (x : List ℕ) → 0 < p.rows → interleaver_depth p ≤ length xs
    → deinterleaved_channel p [] (xs ++ x ∷ []) ≡ deinterleaved_channel p [] xs ++ row_at p (xs ++ x ∷ []) (length xs - interleaver_depth p) ∷ []
unfolding deinterleaved_channel
unchannel_more p xs x pos h =
    let n = length xs - interleaver_depth p in
    let l : length (xs ++ x ∷ []) ≡ length xs + 1 = length_push xs x in
    let e : length (xs ++ x ∷ []) - interleaver_depth p ≡ length xs - interleaver_depth p + 1 = omega arith in
    ap (λ (k : ℕ). tabulate k (row_at p (xs ++ x ∷ []))) e
    ∙ tabulate-more n (row_at p (xs ++ x ∷ []))
    ∙ ap (λ (l : List (List ℕ)). l ++ row_at p (xs ++ x ∷ []) n ∷ [])
    (tabulate_from_places n (row_at p xs) (tabulate n (row_at p (xs ++ x ∷ []))) [] (length-tabulate n (row_at p (xs ++ x ∷ [])))
    (λ k b. get_or-tabulate n (row_at p (xs ++ x ∷ [])) k [] b ∙ row_at-front p xs (x ∷ []) k pos (omega arith)))

-- no row is due yet
pub unchannel_none : (p : Parameters) (xs : List (List ℕ)) → length xs ≤ interleaver_depth p → deinterleaved_channel p [] xs ≡ []
unfolding deinterleaved_channel
unchannel_none p xs h =
    let e : length xs - interleaver_depth p ≡ 0 = omega arith in
    ap (λ (k : ℕ). tabulate k (row_at p xs)) e ∙ tabulate-none (row_at p xs)
