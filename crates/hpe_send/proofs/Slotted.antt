-- The slots of the first periods stand at the front of those of more periods.
use Rattle.std.proofs.Common.{◌≡◌, ◌≤◌, ◌<◌, ◌+◌, ◌*◌, ◌-◌, ◌/◌, ◌%◌, ◌++◌, ◌==◌, if◌then◌else◌, ℕ, zero, suc, List, length, ap, sym, ◌∙◌, arith, length-append}
use Rattle.std.proofs.lemmas.Nat.{mul-le, div_below}
use Rattle.hpe_base.specs.Lists.{tabulate}
use Rattle.hpe_base.specs.Parameters.{Parameters, period_slots, codeword_symbols}
use Rattle.hpe_base.specs.ChannelInterleaver.{interleaved_channel, channel_at}
use Rattle.hpe_base.specs.Slots.{slot_at, octet_at, octets_to}
use Rattle.hpe_base.proofs.Tabulated.{tabulate-append, tabulate-same}
use Rattle.hpe_base.proofs.Channels.{channel_at-front, length-interleaved_channel}
use Rattle.hpe_base.proofs.Periods.{slot_at-front}
use Rattle.hpe_io.proofs.Fronts.{IsFront, front_from}

-- the channel interleaver gives the same for the first symbols whatever follows
channel-append : (p : Parameters) (xs ys : List ℕ)
    → interleaved_channel p (xs ++ ys) ≡ interleaved_channel p xs ++ tabulate (length ys) (λ i. channel_at p (xs ++ ys) (length xs + i))
unfolding interleaved_channel
channel-append p xs ys =
    let rest : List ℕ = tabulate (length ys) (λ i. channel_at p (xs ++ ys) (length xs + i)) in
    ap (λ (n : ℕ). tabulate n (channel_at p (xs ++ ys))) (length-append xs ys)
    ∙ (tabulate-append (length xs) (length ys) (channel_at p (xs ++ ys))
    ∙ ap (λ (l : List ℕ). l ++ rest) (tabulate-same (length xs) (channel_at p (xs ++ ys)) (channel_at p xs) (λ k b. channel_at-front p xs ys k b)))

-- the first values of a list by places
tabulate-front : (n m : ℕ) (f g : ℕ → ℕ) → n ≤ m → ((k : ℕ) → k < n → g k ≡ f k) → IsFront (tabulate n f) (tabulate m g)
tabulate-front n m f g h same =
    let split : n + (m - n) ≡ m = omega arith in
    front_from (tabulate n f) (tabulate (m - n) (λ i. g (n + i))) (tabulate m g)
    (ap (λ k. tabulate k g) (sym split) ∙ (tabulate-append n (m - n) g ∙ ap (λ l. l ++ tabulate (m - n) (λ i. g (n + i))) (tabulate-same n g f same)))

some_factor : (a b k : ℕ) → k < a * b → 0 < a
some_factor zero b k h = absurd (let none : 0 * b ≡ 0 = omega arith in omega arith)
some_factor (suc a) b k h = omega arith

pub slots_front : (p : Parameters) (xs ys : List ℕ) (n m : ℕ) → 0 < p.repeat → length xs ≡ n * codeword_symbols p.order → n ≤ m
    → IsFront (octets_to p n xs) (octets_to p m (xs ++ ys))
unfolding octets_to
slots_front p xs ys n m repeat l h =
    let w = p.count_octets in
    let size = period_slots p in
    let periods : n * size ≤ m * size = mul-le n size m size h (omega arith) in
    let le : w * (n * size) ≤ w * (m * size) = mul-le w (n * size) w (m * size) (omega arith) periods in
    let rest : List ℕ = tabulate (length ys) (λ i. channel_at p (xs ++ ys) (length xs + i)) in
    tabulate-front (w * (n * size)) (w * (m * size)) (octet_at p (interleaved_channel p xs)) (octet_at p (interleaved_channel p (xs ++ ys))) le (λ k b.
    let swap : w * (n * size) ≡ n * size * w = grind arith in
    let slot : k / w < n * size = div_below k w (n * size) (some_factor w (n * size) k b) (omega arith) in
    ap (λ (v : ℕ). if k % w == w - 1 then v else 0)
    (ap (λ (s : List ℕ). slot_at p s (k / w)) (channel-append p xs ys)
    ∙ slot_at-front p (interleaved_channel p xs) rest n (k / w) repeat (length-interleaved_channel p xs ∙ l) slot))
