-- The slots of a symbol, one sending after another.
use Rattle.std.proofs.Common.{◌≡◌, ◌≤◌, ◌<◌, ◌+◌, ◌-◌, ◌*◌, ◌%◌, ◌/◌, ℕ, suc, zero, List, length, get_or, arith, ap, sym, ◌∙◌, inl, inr}
use Rattle.std.specs.Prelude.{if◌then◌else◌, ◌==◌}
use Rattle.std.proofs.Math.Nat.{mul-le-mul_right, mul-le-mul_left}
use Rattle.std.proofs.Math.ListN.{set}
use Rattle.std.proofs.lemmas.Bool.{cases_lt}
use Rattle.std.proofs.lemmas.Bool.Decides.{nat_tests}
use Rattle.std.proofs.lemmas.Grind.{common_steps}
use Rattle.std.proofs.lemmas.Nat.{mod-mul-add, mod_below, div-add-mod'}
use Rattle.hpe_base.specs.Parameters.{Parameters, sending_slots, symbol_slots}
use Rattle.hpe_base.specs.Counts.{low_octet}
use Rattle.hpe_base.proofs.ParameterLemmas.{positions-lt}
use Rattle.hpe_base.specs.Slots.{symbol_octets}
use Rattle.hpe_base.proofs.Tabulated.{tabulate_from_places}

-- after n of so many sendings of `size` slots: the pulses of these n stand, the slots behind them are 0, and the next
-- pulse is at `place`
pub record Sent (count size symbol n place : ℕ) (slots : List ℕ) : Type 0 where
  pub long : length slots ≡ count * size
  pub next : place ≡ symbol + n * size
  pub done : (k : ℕ) → k < n * size → get_or slots k 0 ≡ (if k % size == symbol then 1 else 0)
  pub rest : (k : ℕ) → n * size ≤ k → get_or slots k 0 ≡ 0

-- before the first sending
pub Sent-none : (count size symbol place : ℕ) (slots : List ℕ) → length slots ≡ count * size → place ≡ symbol → ((k : ℕ) → get_or slots k 0 ≡ 0) →
    Sent count size symbol 0 place slots
Sent-none count size symbol place slots long next dark = record {
  long = long;
  next = omega arith;
  done = λ k b. absurd (omega arith);
  rest = λ k b. dark k;
}

-- the next sending has room
pub Sent-room : (count size symbol n place : ℕ) (slots : List ℕ) → n < count → symbol < size → Sent count size symbol n place slots → place < length slots
Sent-room count size symbol n place slots more low s =
    let rows : (n + 1) * size ≤ count * size = mul-le-mul_right size (omega arith) in
    let next : (n + 1) * size ≡ n * size + size = grind arith in
    omega (arith, s.long, s.next)

-- a place within sending n
within : (n size k : ℕ) → n * size ≤ k → k < (n + 1) * size → k % size ≡ k - n * size
within n size k low high =
    let next : (n + 1) * size ≡ n * size + size = grind arith in
    let place : n * size + (k - n * size) ≡ k = omega arith in
    sym (ap (λ j. j % size) place) ∙ mod-mul-add n size (k - n * size) (omega arith)

-- one more sending
pub Sent-more : (count size symbol n place : ℕ) (slots : List ℕ) → n < count → symbol < size → Sent count size symbol n place slots →
    Sent count size symbol (n + 1) (place + size) (set slots place 1)
Sent-more count size symbol n place slots more low s =
    let next : (n + 1) * size ≡ n * size + size = grind arith in
    let room : place < length slots = Sent-room count size symbol n place slots more low s in
    record {
      long = grind (arith, common_steps, s.long);
      next = omega (arith, s.next);
      done = λ k b. elim (cases_lt k (n * size)) [
        | inl before ↦ grind (arith, common_steps, s.done k, s.next)
        | inr here ↦
            let at : k % size ≡ k - n * size = within n size k here b in
            rw at (grind (arith, common_steps, nat_tests, s.rest k, s.next))
      ];
      rest = λ k b. grind (arith, common_steps, s.rest k, s.next);
    }

-- a place in a sending of q slots of w octets
mod_of_slot : (w q k : ℕ) → 0 < w → 0 < q → k % (w * q) ≡ w * (k / w % q) + k % w
mod_of_slot w q k hw hq =
    let a : ℕ = k / w in
    let slot : a % q < q = mod_below a q hq in
    let octet : k % w < w = mod_below k w hw in
    let room : w * (a % q + 1) ≤ w * q = mul-le-mul_left w (omega arith) in
    let next : w * (a % q + 1) ≡ w * (a % q) + w = grind arith in
    let rows : (a / q * q + a % q) * w ≡ a / q * (w * q) + w * (a % q) = grind arith in
    let place : k ≡ a / q * (w * q) + (w * (a % q) + k % w) = omega (arith, div-add-mod' k w, ap (λ n. n * w) (div-add-mod' a q)) in
    ap (λ n. n % (w * q)) place ∙ mod-mul-add (a / q) (w * q) (w * (a % q) + k % w) (omega arith)

-- the pulse of a symbol stands in the last octet of its slot
pulse_in_slot : (w a r symbol : ℕ) → 1 ≤ w → w ≤ 2 → r < w →
    ◌≡◌ {A = ℕ} (if w * a + r == w * symbol + (w - 1) then 1 else 0) (if r == w - 1 then (if a == symbol then 1 else 0) else 0)
pulse_in_slot zero a r symbol low high h = absurd (omega arith)
pulse_in_slot (suc zero) a r symbol low high h = grind (arith, nat_tests)
pulse_in_slot (suc (suc zero)) a r symbol low high h = grind (arith, nat_tests)
pulse_in_slot (suc (suc (suc w))) a r symbol low high h = absurd (omega arith)

-- the pulse of a symbol is within a sending
pub pulse-lt : (w q symbol : ℕ) → 0 < w → symbol < q → w * symbol + (w - 1) < w * q
pulse-lt w q symbol hw h =
    let room : w * (symbol + 1) ≤ w * q = mul-le-mul_left w (omega arith) in
    let next : w * (symbol + 1) ≡ w * symbol + w = grind arith in
    omega arith

-- all sendings
pub Sent-all : (p : Parameters) (symbol n place : ℕ) (slots : List ℕ) → 1 ≤ p.count_octets → p.count_octets ≤ 2 → n ≡ p.repeat →
    Sent p.repeat (p.count_octets * sending_slots p.order) (p.count_octets * symbol + (p.count_octets - 1)) n place slots → slots ≡ symbol_octets p symbol
unfolding symbol_octets
Sent-all p symbol n place slots low high all s =
    let w : ℕ = p.count_octets in
    let q : ℕ = sending_slots p.order in
    let some : 0 < q = omega (arith, positions-lt p.order) in
    let size : p.repeat * (w * q) ≡ w * symbol_slots p = grind arith in
    tabulate_from_places (w * symbol_slots p) (low_octet w (λ i. if i % q == symbol then 1 else 0)) slots 0 (s.long ∙ size) (λ k b.
    s.done k (rw all (omega arith))
    ∙ (ap (λ (m : ℕ). if m == w * symbol + (w - 1) then 1 else 0) (mod_of_slot w q k low some)
    ∙ pulse_in_slot w (k / w % q) (k % w) symbol low high (mod_below k w low)))
