-- Symbols on their way through the channel interleaver stay pulse positions.
use Rattle.std.proofs.Common.{◌≡◌, ◌<◌, ◌+◌, ◌-◌, ◌++◌, ℕ, List, length, get_or, ap, ◌∙◌, refl, arith, All, Bool, true, false, if◌then◌else◌, nat_le, length-append}
use Rattle.std.proofs.lemmas.List.{get_or-append_right}
use Rattle.std.proofs.lemmas.List.Elements.{All-append}
use Rattle.hpe_base.specs.Parameters.{Parameters, positions}
use Rattle.hpe_base.specs.ChannelInterleaver.{interleaved_channel, channel_at, delay_at}
use Rattle.hpe_base.proofs.Tabulated.{get_or-tabulate, length-tabulate}
use Rattle.hpe_base.proofs.ParameterLemmas.{positions-lt}
use Rattle.hpe_weave.specs.Weaving.{Weaving, HasWoven}
use Rattle.hpe_send.specs.Weave.{IsWithin}

pick : (b : Bool) (x m : ℕ) → x < m → 0 < m → (if b then x else 0) < m
pick true x m h z = h
pick false x m h z = z

channel-below : (p : Parameters) (xs : List ℕ) (m : ℕ) → 0 < m → All (λ s. s < m) xs → All (λ s. s < m) (interleaved_channel p xs)
unfolding interleaved_channel
channel-below p xs m pos below = λ k d h.
    let within : k < length xs = omega (arith, length-tabulate (length xs) (channel_at p xs)) in
    let from : get_or xs (k - delay_at p k) 0 < m = below (k - delay_at p k) 0 (omega arith) in
    rw (get_or-tabulate (length xs) (channel_at p xs) k d within) (pick (nat_le (delay_at p k) k) (get_or xs (k - delay_at p k) 0) m from pos)

back-below : (xs ys : List ℕ) (m : ℕ) → All (λ s. s < m) (xs ++ ys) → All (λ s. s < m) ys
back-below xs ys m below = λ k d h.
    let place : length xs + k - length xs ≡ k = omega arith in
    let read : get_or (xs ++ ys) (length xs + k) d ≡ get_or ys k d =
    get_or-append_right xs ys (length xs) (length xs + k) d refl (omega arith) ∙ ap (λ n. get_or ys n d) place in
    rw read at (below (length xs + k) d (omega (arith, length-append xs ys)))

module _ (w0 w : Weaving) (before now : List ℕ) (within : IsWithin w0) (below : All (λ s. s < positions w0.parameters.order) before) where
  -- a weaver that took a word more
  pub within_more : w.parameters ≡ w0.parameters → ((s : List ℕ) → HasWoven w0 s → HasWoven w (s ++ before)) → IsWithin w
  within_more same stands = record {
    pushed = within.pushed ++ before;
    woven = stands within.pushed within.woven;
    below = rw same (All-append (λ s. s < positions w0.parameters.order) within.pushed before within.below below);
  }

  -- and what came out
  pub woven-below : ((s : List ℕ) → HasWoven w0 s → interleaved_channel w0.parameters (s ++ before) ≡ interleaved_channel w0.parameters s ++ now)
      → All (λ s. s < positions w0.parameters.order) now
  woven-below answers =
      let m = positions w0.parameters.order in
      let all : All (λ s. s < positions w0.parameters.order) (interleaved_channel w0.parameters (within.pushed ++ before)) =
      channel-below w0.parameters (within.pushed ++ before) m (omega (arith, positions-lt w0.parameters.order))
      (All-append (λ s. s < positions w0.parameters.order) within.pushed before within.below below) in
      back-below (interleaved_channel w0.parameters within.pushed) now m (rw (answers within.pushed within.woven) at all)
