-- The slots of periods in a row: each is the slots of its marker symbols and of its codeword's symbols.
use Rattle.std.proofs.Common.{◌≡◌, ◌≤◌, ◌<◌, ◌+◌, ◌*◌, ◌/◌, ◌%◌, ◌-◌, ◌++◌, ℕ, List, [], ◌∷◌, length, get_or, ap, sym, ◌∙◌, refl, arith, length-append, inl, inr, if◌then◌else◌, ◌==◌, nat_lt, true, false, suc}
use Rattle.std.specs.List.{flat_map}
use Rattle.std.proofs.lemmas.Nat.{div-mul-add, mod-mul-add, div_below, mul-le, div-add-mod', mod_below}
use Rattle.std.proofs.lemmas.Bool.{cases_lt, lt-ltb, le-ltb}
use Rattle.std.proofs.lemmas.List.{get_or_append_left, get_or-append_right}
use Rattle.hpe_base.specs.Lists.{tabulate}
use Rattle.hpe_base.specs.Parameters.{Parameters, sending_slots, symbol_slots, period_symbols, period_slots, codeword_symbols}
use Rattle.hpe_base.specs.ChannelInterleaver.{interleaved_channel}
use Rattle.hpe_base.specs.Slots.{slot_at, symbol_at, pulses_of, slots_to, symbol_octets, octets_to}
use Rattle.hpe_base.proofs.Counts.{slot_octets, octets-flat}
use Rattle.std.proofs.lemmas.List.Concat.{flat_map-append}
use Rattle.hpe_base.proofs.Tabulated.{tabulate-append, tabulate-same, tabulate-none}
use Rattle.hpe_base.proofs.Channels.{length-interleaved_channel}
use Rattle.hpe_base.proofs.ParameterLemmas.{codeword_symbols-ge, positions-lt}

-- lists of m values, each of which continues f, one after another
continued : (g : ℕ → List ℕ) (xs : List ℕ) (m : ℕ) (f : ℕ → ℕ) →
    ((c : ℕ) → c < length xs → g (get_or xs c 0) ≡ tabulate m (λ i. f (c * m + i))) → flat_map g xs ≡ tabulate (length xs * m) f
continued g [] m f h = let none : 0 * m ≡ 0 = omega arith in sym (ap (λ k. tabulate k f) none ∙ tabulate-none f)
continued g (x ∷ xs) m f h =
    let first : g x ≡ tabulate m f =
    h 0 (omega arith) ∙ tabulate-same m (λ i. f (0 * m + i)) f (λ k b. let e : 0 * m + k ≡ k = omega arith in ap f e) in
    let rest : flat_map g xs ≡ tabulate (length xs * m) (λ i. f (m + i)) =
    continued g xs m (λ i. f (m + i)) (λ c b.
    h (suc c) (omega arith) ∙ tabulate-same m (λ i. f (suc c * m + i)) (λ i. f (m + (c * m + i))) (λ k b.
    let e : suc c * m + k ≡ m + (c * m + k) = grind arith in ap f e)) in
    let size : suc (length xs) * m ≡ m + length xs * m = grind arith in
    ap (λ ys. ys ++ flat_map g xs) first
    ∙ (ap (λ ys. tabulate m f ++ ys) rest ∙ (sym (tabulate-append m (length xs * m) f) ∙ ap (λ k. tabulate k f) (sym size)))

-- the period of a place among n periods of size symbols, each of q sendings of w slots
period_below : (n size q w place : ℕ) → 0 < size → 0 < q → 0 < w → place < n * (size * (q * w)) → place / w / q / size < n
period_below n size q w place hs hq hw h =
    let e : n * (size * (q * w)) ≡ n * size * q * w = grind arith in
    let a : place / w < n * size * q = div_below place w (n * size * q) hw (omega arith) in
    let b : place / w / q < n * size = div_below (place / w) q (n * size) hq a in
    div_below (place / w / q) size n hs b

-- a place of the first n periods, less their markers, is within the symbols of n codewords
within : (g n k s r len : ℕ) → g < n → r < k + s → 0 < s → len ≡ n * s → g * s + r - k < len
within g n k s r len h hr hs e =
    let a : (g + 1) * s ≤ n * s = mul-le (g + 1) s n s (omega arith) (omega arith) in
    let b : (g + 1) * s ≡ g * s + s = grind arith in
    omega arith

-- a slot of the first n periods needs their symbols alone
pub slot_at-front : (p : Parameters) (xs ys : List ℕ) (n place : ℕ) → 0 < p.repeat → length xs ≡ n * codeword_symbols p.order →
    place < n * period_slots p → slot_at p (xs ++ ys) place ≡ slot_at p xs place
slot_at-front p xs ys n place repeat l h =
    let size = period_symbols p in
    let c = place / sending_slots p.order / p.repeat in
    let k = length p.marker in
    let some : 1890 ≤ codeword_symbols p.order = codeword_symbols-ge p.order in
    let slots : 0 < sending_slots p.order = omega (arith, positions-lt p.order) in
    let g : c / size < n = period_below n size p.repeat (sending_slots p.order) place (omega arith) repeat slots h in
    let r : c % size < size = mod_below c size (omega arith) in
    let i : c / size * codeword_symbols p.order + c % size - k < length xs =
    within (c / size) n k (codeword_symbols p.order) (c % size) (length xs) g r (omega arith) l in
    ap (λ (v : ℕ). if place % sending_slots p.order == (if nat_lt (c % size) k then get_or p.marker (c % size) 0 else v) then 1 else 0)
    (get_or_append_left xs ys 0 (c / size * codeword_symbols p.order + c % size - k) i)

-- the symbol at place c of the period after the first n
symbol_at-period : (p : Parameters) (xs ys : List ℕ) (n c : ℕ) → length xs ≡ n * codeword_symbols p.order → c < period_symbols p →
    symbol_at p (xs ++ ys) (n * period_symbols p + c) ≡ get_or (p.marker ++ ys) c 0
symbol_at-period p xs ys n c l h =
    let s = codeword_symbols p.order in
    let k = length p.marker in
    let size = period_symbols p in
    let g : (n * size + c) / size ≡ n = div-mul-add n size c h in
    let r : (n * size + c) % size ≡ c = mod-mul-add n size c h in
    elim (cases_lt c k) [
      | inl low ↦ (let b : nat_lt c k ≡ true = lt-ltb c k low in rw (r, b) (sym (get_or_append_left p.marker ys 0 c low)))
      | inr high ↦ (let b : nat_lt c k ≡ false = le-ltb c k high in
          let at : n * s + c - k - n * s ≡ c - k = omega arith in
          rw (r, g, b) (get_or-append_right xs ys (n * s) (n * s + c - k) 0 l (omega arith)
          ∙ (ap (λ (j : ℕ). get_or ys j 0) at ∙ sym (get_or-append_right p.marker ys k c 0 refl high))))
    ]

-- the slot at place i of the symbol at place c, where each is sent q times and takes w slots a sending
slot_of_symbol : (p : Parameters) (symbols : List ℕ) (c i : ℕ) → i < symbol_slots p →
    slot_at p symbols (c * symbol_slots p + i) ≡ (if i % sending_slots p.order == symbol_at p symbols c then 1 else 0)
slot_of_symbol p symbols c i h =
    let w = sending_slots p.order in
    let q = p.repeat in
    let slots : 0 < w = omega (arith, positions-lt p.order) in
    let parts : i / w * w + i % w ≡ i = div-add-mod' i w in
    let whole : c * (q * w) + i ≡ (c * q + i / w) * w + i % w =
    (let z : c * (q * w) ≡ c * q * w = grind arith in let y : (c * q + i / w) * w ≡ c * q * w + i / w * w = grind arith in omega arith) in
    let low : i % w < w = mod_below i w slots in
    let sending : (c * (q * w) + i) / w ≡ c * q + i / w = ap (λ (m : ℕ). m / w) whole ∙ div-mul-add (c * q + i / w) w (i % w) low in
    let slot : (c * (q * w) + i) % w ≡ i % w = ap (λ (m : ℕ). m % w) whole ∙ mod-mul-add (c * q + i / w) w (i % w) low in
    let few : i / w < q = div_below i w q slots h in
    let symbol : (c * q + i / w) / q ≡ c = div-mul-add c q (i / w) few in
    rw (sending, slot, symbol) refl

-- the slots of the period after the first n, symbol by symbol
pub period_pulses : (p : Parameters) (xs ys : List ℕ) (n : ℕ) → length xs ≡ n * codeword_symbols p.order → length ys ≡ codeword_symbols p.order →
    flat_map (pulses_of p) (p.marker ++ ys) ≡ tabulate (period_slots p) (λ i. slot_at p (xs ++ ys) (n * period_slots p + i))
unfolding pulses_of
period_pulses p xs ys n lx ly =
    let m = symbol_slots p in
    let size : length (p.marker ++ ys) ≡ period_symbols p = omega (arith, length-append p.marker ys) in
    continued (pulses_of p) (p.marker ++ ys) m (λ i. slot_at p (xs ++ ys) (n * period_slots p + i)) (λ c b.
    tabulate-same m (λ i. if i % sending_slots p.order == get_or (p.marker ++ ys) c 0 then 1 else 0) (λ i. slot_at p (xs ++ ys) (n * period_slots p + (c * m + i))) (λ i below.
    let place : n * (period_symbols p * m) + (c * m + i) ≡ (n * period_symbols p + c) * m + i = grind arith in
    let symbol : symbol_at p (xs ++ ys) (n * period_symbols p + c) ≡ get_or (p.marker ++ ys) c 0 = symbol_at-period p xs ys n c lx (omega arith) in
    sym (ap (slot_at p (xs ++ ys)) place ∙ (slot_of_symbol p (xs ++ ys) (n * period_symbols p + c) i below
    ∙ ap (λ (v : ℕ). if i % sending_slots p.order == v then 1 else 0) symbol))))
    ∙ ap (λ (k : ℕ). tabulate (k * m) (λ i. slot_at p (xs ++ ys) (n * period_slots p + i))) size

-- one period more
pub slots_to-more : (p : Parameters) (xs ys woven : List ℕ) (n : ℕ) → 0 < p.repeat → length xs ≡ n * codeword_symbols p.order →
    length woven ≡ codeword_symbols p.order → interleaved_channel p (xs ++ ys) ≡ interleaved_channel p xs ++ woven →
    slots_to p (n + 1) (xs ++ ys) ≡ slots_to p n xs ++ flat_map (pulses_of p) (p.marker ++ woven)
unfolding slots_to
slots_to-more p xs ys woven n repeat l w e =
    let size = period_slots p in
    let f = slot_at p (interleaved_channel p (xs ++ ys)) in
    let long : length (interleaved_channel p xs) ≡ n * codeword_symbols p.order = length-interleaved_channel p xs ∙ l in
    let next : (n + 1) * size ≡ n * size + size = grind arith in
    let front : tabulate (n * size) f ≡ tabulate (n * size) (slot_at p (interleaved_channel p xs)) =
    tabulate-same (n * size) f (slot_at p (interleaved_channel p xs)) (λ k b.
    ap (λ (s : List ℕ). slot_at p s k) e ∙ slot_at-front p (interleaved_channel p xs) woven n k repeat long b) in
    let last : tabulate size (λ i. f (n * size + i)) ≡ flat_map (pulses_of p) (p.marker ++ woven) =
    ap (λ (s : List ℕ). tabulate size (λ i. slot_at p s (n * size + i))) e ∙ sym (period_pulses p (interleaved_channel p xs) woven n long w) in
    ap (λ (m : ℕ). tabulate m f) next
    ∙ (tabulate-append (n * size) size f
    ∙ (ap (λ (s : List ℕ). s ++ tabulate size (λ i. f (n * size + i))) front
    ∙ ap (λ (s : List ℕ). tabulate (n * size) (slot_at p (interleaved_channel p xs)) ++ s) last))

-- the octets of a symbol and of periods, by their slots
symbol_octets-flat : (p : Parameters) (symbol : ℕ) → 0 < p.count_octets → symbol_octets p symbol ≡ flat_map (slot_octets p.count_octets) (pulses_of p symbol)
unfolding symbol_octets pulses_of
symbol_octets-flat p symbol h = octets-flat p.count_octets (symbol_slots p) (λ i. if i % sending_slots p.order == symbol then 1 else 0) h

-- the octets of all slots, one slot after another
pub octets_to-flat : (p : Parameters) (n : ℕ) (xs : List ℕ) → 0 < p.count_octets → octets_to p n xs ≡ flat_map (slot_octets p.count_octets) (slots_to p n xs)
unfolding octets_to slots_to
octets_to-flat p n xs h = octets-flat p.count_octets (n * period_slots p) (slot_at p (interleaved_channel p xs)) h

-- and one symbol after another
symbols-flat : (p : Parameters) (xs : List ℕ) → 0 < p.count_octets → flat_map (slot_octets p.count_octets) (flat_map (pulses_of p) xs) ≡ flat_map (symbol_octets p) xs
symbols-flat p [] h = refl
symbols-flat p (x ∷ xs) h =
    flat_map-append (slot_octets p.count_octets) (pulses_of p x) (flat_map (pulses_of p) xs)
    ∙ (ap (λ ys. ys ++ flat_map (slot_octets p.count_octets) (flat_map (pulses_of p) xs)) (sym (symbol_octets-flat p x h))
    ∙ ap (λ ys. symbol_octets p x ++ ys) (symbols-flat p xs h))

-- one period more, as octets
pub octets_to-more : (p : Parameters) (xs ys woven : List ℕ) (n : ℕ) → 0 < p.repeat → 0 < p.count_octets → length xs ≡ n * codeword_symbols p.order →
    length woven ≡ codeword_symbols p.order → interleaved_channel p (xs ++ ys) ≡ interleaved_channel p xs ++ woven →
    octets_to p (n + 1) (xs ++ ys) ≡ octets_to p n xs ++ flat_map (symbol_octets p) (p.marker ++ woven)
octets_to-more p xs ys woven n repeat some l w e =
    octets_to-flat p (n + 1) (xs ++ ys) some
    ∙ (ap (flat_map (slot_octets p.count_octets)) (slots_to-more p xs ys woven n repeat l w e)
    ∙ (flat_map-append (slot_octets p.count_octets) (slots_to p n xs) (flat_map (pulses_of p) (p.marker ++ woven))
    ∙ (ap (λ zs. zs ++ flat_map (slot_octets p.count_octets) (flat_map (pulses_of p) (p.marker ++ woven))) (sym (octets_to-flat p n xs some))
    ∙ ap (λ zs. octets_to p n xs ++ zs) (symbols-flat p (p.marker ++ woven) some))))
