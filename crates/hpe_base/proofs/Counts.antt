-- Counts as octets, and slots as octets.
use Rattle.std.proofs.Common.{◌≡◌, ◌≤◌, ◌<◌, ◌+◌, ◌*◌, ◌/◌, ◌%◌, ◌-◌, ◌++◌, ℕ, List, [], ◌∷◌, length, get_or, ap, sym, ◌∙◌, refl, arith, length-append, if◌then◌else◌, ◌==◌, suc, zero, inl, inr, ◌⊎◌, append-nil, replicate, Bool, true, false, sum, ap₂}
use Rattle.std.specs.List.{flat_map}
use Rattle.std.proofs.lemmas.Nat.{div-mul-add, mod-mul-add, div-add-mod', mod_below}
use Rattle.std.proofs.lemmas.List.{get_or_append_left, get_or-append_right}
use Rattle.std.proofs.lemmas.List.Concat.{flat_map-append}
use Rattle.std.proofs.lemmas.List.{get_or-replicate, length-replicate}
use Rattle.hpe_base.specs.Lists.{tabulate}
use Rattle.hpe_base.specs.Bits.{zeros}
use Rattle.hpe_base.specs.Parameters.{Parameters}
use Rattle.hpe_base.specs.Counts.{count_at, counts_of, odd_octets, low_octet}
use Rattle.hpe_base.specs.ClearChannel.{clear}
use Rattle.hpe_base.proofs.BitLists.{length-zeros}
use Rattle.hpe_base.proofs.Tabulated.{tabulate-append, tabulate-same, tabulate-none, tabulate-suc, length-tabulate, get_or-tabulate, tabulate_from_places, tabulate-more}
use Rattle.std.proofs.lemmas.Bool.Decides.{nat_tests}
use Rattle.std.proofs.lemmas.List.Sums.{sum_by-append, sum_by-cons}

-- ---- octets that carry slots
-- whole slots before a place
low_octet-shift : (w m i : ℕ) (f : ℕ → ℕ) → 0 < w → low_octet w f (w * m + i) ≡ low_octet w (λ k. f (m + k)) i
low_octet-shift w m i f h =
    let low : i % w < w = mod_below i w h in
    let whole : w * m + i ≡ (m + i / w) * w + i % w = (let z : (m + i / w) * w ≡ w * m + i / w * w = grind arith in omega (arith, div-add-mod' i w)) in
    let a : (w * m + i) % w ≡ i % w = ap (λ (n : ℕ). n % w) whole ∙ mod-mul-add (m + i / w) w (i % w) low in
    let b : (w * m + i) / w ≡ m + i / w = ap (λ (n : ℕ). n / w) whole ∙ div-mul-add (m + i / w) w (i % w) low in
    rw (a, b) refl

-- the octets of one slot
abbrev pub slot_octets : ℕ → ℕ → List ℕ
slot_octets w slot = tabulate w (low_octet w (λ i. slot))

-- the octets of slots, one slot after another
pub octets-flat : (w n : ℕ) (f : ℕ → ℕ) → 0 < w → tabulate (w * n) (low_octet w f) ≡ flat_map (slot_octets w) (tabulate n f)
octets-flat w zero f h =
    let none : w * 0 ≡ 0 = omega arith in
    ap (λ k. tabulate k (low_octet w f)) none ∙ (tabulate-none (low_octet w f) ∙ sym (ap (flat_map (slot_octets w)) (tabulate-none f)))
octets-flat w (suc n) f h =
    let size : w * suc n ≡ w * n + w = grind arith in
    let last : tabulate w (λ i. low_octet w f (w * n + i)) ≡ slot_octets w (f n) =
    tabulate-same w (λ i. low_octet w f (w * n + i)) (low_octet w (λ i. f n)) (λ i b.
    let place : 0 * w + i ≡ i = omega arith in
    let first : i / w ≡ 0 = ap (λ k. k / w) (sym place) ∙ div-mul-add 0 w i b in
    let here : n + i / w ≡ n = omega arith in
    low_octet-shift w n i f h ∙ ap (λ k. if i % w == w - 1 then f k else 0) here) in
    ap (λ k. tabulate k (low_octet w f)) size
    ∙ (tabulate-append (w * n) w (low_octet w f)
    ∙ (ap (λ xs. xs ++ tabulate w (λ i. low_octet w f (w * n + i))) (octets-flat w n f h)
    ∙ (ap (λ xs. flat_map (slot_octets w) (tabulate n f) ++ xs) (last ∙ sym (append-nil _))
    ∙ sym (ap (flat_map (slot_octets w)) (tabulate-suc n f) ∙ flat_map-append (slot_octets w) (tabulate n f) (f n ∷ [])))))

-- ---- counts
cases_octets : (w : ℕ) → 1 ≤ w → w ≤ 2 → (w ≡ 1) ⊎ (w ≡ 2)
cases_octets zero a b = absurd (omega arith)
cases_octets (suc zero) a b = inl refl
cases_octets (suc (suc zero)) a b = inr refl
cases_octets (suc (suc (suc n))) a b = absurd (omega arith)

-- at one octet a count, octets are their own counts, and there is no odd one
pub counts_of-one : (p : Parameters) (octets : List ℕ) → p.count_octets ≡ 1 → counts_of p octets ≡ octets
unfolding counts_of
counts_of-one p octets one =
    let size : length octets / 1 ≡ length octets = omega arith in
    ap (λ w. tabulate (length octets / w) (count_at w octets)) one
    ∙ (ap (λ n. tabulate n (λ i. get_or octets i 0)) size
    ∙ sym (tabulate_from_places (length octets) (λ i. get_or octets i 0) octets 0 refl (λ k b. refl)))

-- and there is no odd octet
pub odd_octets-one : (p : Parameters) (octets : List ℕ) → p.count_octets ≡ 1 → odd_octets p octets ≡ 0
odd_octets-one p octets one = ap (λ w. length octets % w) one ∙ omega arith

-- pairs of octets behind m pairs
pairs-append : (a b : List ℕ) (m : ℕ) → length a ≡ 2 * m →
    tabulate (length (a ++ b) / 2) (count_at 2 (a ++ b)) ≡ tabulate (length a / 2) (count_at 2 a) ++ tabulate (length b / 2) (count_at 2 b)
pairs-append a b m l =
    let front : length a / 2 ≡ m = omega arith in
    let size : length (a ++ b) / 2 ≡ m + length b / 2 = omega (arith, length-append a b) in
    let here : tabulate m (count_at 2 (a ++ b)) ≡ tabulate m (count_at 2 a) =
    tabulate-same m (count_at 2 (a ++ b)) (count_at 2 a) (λ k h.
    rw (get_or_append_left a b 0 (2 * k) (omega arith), get_or_append_left a b 0 (2 * k + 1) (omega arith)) refl) in
    let there : tabulate (length b / 2) (λ i. count_at 2 (a ++ b) (m + i)) ≡ tabulate (length b / 2) (count_at 2 b) =
    tabulate-same (length b / 2) (λ i. count_at 2 (a ++ b) (m + i)) (count_at 2 b) (λ k h.
    let high : 2 * (m + k) - 2 * m ≡ 2 * k = omega arith in
    let low : 2 * (m + k) + 1 - 2 * m ≡ 2 * k + 1 = omega arith in
    rw (get_or-append_right a b (2 * m) (2 * (m + k)) 0 l (omega arith), get_or-append_right a b (2 * m) (2 * (m + k) + 1) 0 l (omega arith), high, low) refl) in
    ap (λ n. tabulate n (count_at 2 (a ++ b))) size
    ∙ (tabulate-append m (length b / 2) (count_at 2 (a ++ b))
    ∙ (ap (λ xs. xs ++ tabulate (length b / 2) (λ i. count_at 2 (a ++ b) (m + i))) here
    ∙ (ap (λ xs. tabulate m (count_at 2 a) ++ xs) there ∙ ap (λ n. tabulate n (count_at 2 a) ++ tabulate (length b / 2) (count_at 2 b)) (sym front))))

-- counts behind whole counts
pub counts_of-append : (p : Parameters) (a b : List ℕ) (m : ℕ) → 1 ≤ p.count_octets → p.count_octets ≤ 2 → length a ≡ p.count_octets * m →
    counts_of p (a ++ b) ≡ counts_of p a ++ counts_of p b
unfolding counts_of
counts_of-append p a b m low high l =
    elim (cases_octets p.count_octets low high) [
      | inl one ↦
          counts_of-one p (a ++ b) one ∙ sym (ap (λ xs. xs ++ counts_of p b) (counts_of-one p a one) ∙ ap (λ xs. a ++ xs) (counts_of-one p b one))
      | inr two ↦
          let size : length a ≡ 2 * m = l ∙ ap (λ w. w * m) two in
          ap (λ w. tabulate (length (a ++ b) / w) (count_at w (a ++ b))) two
          ∙ (pairs-append a b m size ∙ sym (ap (λ w. tabulate (length a / w) (count_at w a) ++ tabulate (length b / w) (count_at w b)) two))
    ]

-- the octets of slots write their slots
slots-two : (n : ℕ) (f : ℕ → ℕ) → tabulate (length (tabulate (2 * n) (low_octet 2 f)) / 2) (count_at 2 (tabulate (2 * n) (low_octet 2 f))) ≡ tabulate n f
slots-two n f =
    let long : length (tabulate (2 * n) (low_octet 2 f)) ≡ 2 * n = length-tabulate (2 * n) (low_octet 2 f) in
    let size : length (tabulate (2 * n) (low_octet 2 f)) / 2 ≡ n = omega arith in
    ap (λ k. tabulate k (count_at 2 (tabulate (2 * n) (low_octet 2 f)))) size
    ∙ tabulate-same n (count_at 2 (tabulate (2 * n) (low_octet 2 f))) f (λ k h.
    let even : 2 * k % 2 ≡ 0 = omega arith in
    let odd : (2 * k + 1) % 2 ≡ 1 = omega arith in
    let half : (2 * k + 1) / 2 ≡ k = omega arith in
    rw (get_or-tabulate (2 * n) (low_octet 2 f) (2 * k) 0 (omega arith), get_or-tabulate (2 * n) (low_octet 2 f) (2 * k + 1) 0 (omega arith), even, odd, half) (omega arith))

-- at one octet a slot, the octets of slots are the slots
pub slots-one : (n : ℕ) (f : ℕ → ℕ) → tabulate (1 * n) (low_octet 1 f) ≡ tabulate n f
slots-one n f =
    let size : 1 * n ≡ n = omega arith in
    ap (λ k. tabulate k (low_octet 1 f)) size
    ∙ tabulate-same n (low_octet 1 f) f (λ k h.
    let last : k % 1 ≡ 0 = omega arith in
    let place : k / 1 ≡ k = omega arith in
    rw (last, place) refl)

-- the counts of the octets of slots are the slots
pub counts_of-slots : (p : Parameters) (n : ℕ) (f : ℕ → ℕ) → 1 ≤ p.count_octets → p.count_octets ≤ 2 →
    counts_of p (tabulate (p.count_octets * n) (low_octet p.count_octets f)) ≡ tabulate n f
unfolding counts_of
counts_of-slots p n f low high =
    elim (cases_octets p.count_octets low high) [
      | inl one ↦
          counts_of-one p _ one ∙ (ap (λ w. tabulate (w * n) (low_octet w f)) one ∙ slots-one n f)
      | inr two ↦
          ap (λ w. tabulate (length (tabulate (w * n) (low_octet w f)) / w) (count_at w (tabulate (w * n) (low_octet w f)))) two ∙ slots-two n f
    ]

-- dark octets write dark counts
dark_choice : (b : Bool) → ◌≡◌ {A = ℕ} (if b then 0 else 0) 0
dark_choice true = refl
dark_choice false = refl

-- values that are all 0 are zeros
zeros-tabulate : (n : ℕ) (f : ℕ → ℕ) → ((k : ℕ) → f k ≡ 0) → zeros n ≡ tabulate n f
unfolding zeros
zeros-tabulate n f h =
    tabulate_from_places n f (replicate n 0) 0 (length-replicate n 0) (λ k b. get_or-replicate n k 0 0 b ∙ sym (h k))

-- the counts of zeros are zeros
pub counts_of-zeros : (p : Parameters) (n : ℕ) → 1 ≤ p.count_octets → p.count_octets ≤ 2 → counts_of p (zeros (p.count_octets * n)) ≡ zeros n
counts_of-zeros p n low high =
    ap (counts_of p) (zeros-tabulate (p.count_octets * n) (low_octet p.count_octets (λ i. 0)) (λ k. dark_choice (k % p.count_octets == p.count_octets - 1)))
    ∙ (counts_of-slots p n (λ i. 0) low high ∙ sym (zeros-tabulate n (λ i. 0) (λ k. refl)))

-- slots behind dark ones
pub counts_of-clear : (p : Parameters) (d n : ℕ) (f : ℕ → ℕ) → 1 ≤ p.count_octets → p.count_octets ≤ 2 →
    counts_of p (clear p d (tabulate (p.count_octets * n) (low_octet p.count_octets f))) ≡ zeros d ++ tabulate n f
counts_of-clear p d n f low high =
    counts_of-append p (zeros (p.count_octets * d)) _ d low high (length-zeros (p.count_octets * d))
    ∙ (ap (λ xs. xs ++ counts_of p (tabulate (p.count_octets * n) (low_octet p.count_octets f))) (counts_of-zeros p d low high)
    ∙ ap (λ xs. zeros d ++ xs) (counts_of-slots p n f low high))

-- and no octet is odd there
pub odd_octets-clear : (p : Parameters) (d n : ℕ) (f : ℕ → ℕ) → 1 ≤ p.count_octets →
    odd_octets p (clear p d (tabulate (p.count_octets * n) (low_octet p.count_octets f))) ≡ 0
odd_octets-clear p d n f low =
    let w : ℕ = p.count_octets in
    let long : length (clear p d (tabulate (w * n) (low_octet w f))) ≡ w * d + w * n =
    length-append (zeros (w * d)) _ ∙ ap (λ k. k + length (tabulate (w * n) (low_octet w f))) (length-zeros (w * d)) ∙ ap (λ k. w * d + k) (length-tabulate (w * n) (low_octet w f)) in
    let whole : w * d + w * n ≡ (d + n) * w + 0 = grind arith in
    ap (λ k. k % w) (long ∙ whole) ∙ mod-mul-add (d + n) w 0 low

-- counts that are read from the octets one by one
pub counts_of_from_places : (p : Parameters) (octets counts : List ℕ) (w : ℕ) → p.count_octets ≡ w → 0 < w → length octets ≡ w * length counts →
    ((i : ℕ) → i < length counts → get_or counts i 0 ≡ count_at w octets i) → counts ≡ counts_of p octets
unfolding counts_of
counts_of_from_places p octets counts w same some l h =
    let whole : length octets ≡ length counts * w + 0 = (let swap : w * length counts ≡ length counts * w = grind arith in omega arith) in
    let size : length octets / w ≡ length counts = ap (λ n. n / w) whole ∙ div-mul-add (length counts) w 0 some in
    tabulate_from_places (length counts) (count_at w octets) counts 0 refl h
    ∙ (ap (λ n. tabulate n (count_at w octets)) (sym size) ∙ ap (λ v. tabulate (length octets / v) (count_at v octets)) (sym same))

-- ---- the octets of single counts
-- a count of one octet
pub octet_of_one : (count : ℕ) → tabulate 1 (low_octet 1 (λ i. count)) ≡ count ∷ []
unfolding tabulate
octet_of_one count = refl

-- a count of two octets
pub octets_of_two : (count : ℕ) → tabulate 2 (low_octet 2 (λ i. count)) ≡ 0 ∷ count ∷ []
unfolding tabulate
octets_of_two count = refl

-- one count more
pub octets-more : (w n : ℕ) (f : ℕ → ℕ) → 0 < w → tabulate (w * (n + 1)) (low_octet w f) ≡ tabulate (w * n) (low_octet w f) ++ tabulate w (low_octet w (λ i. f n))
octets-more w n f h =
    octets-flat w (n + 1) f h
    ∙ (ap (flat_map (slot_octets w)) (tabulate-more n f)
    ∙ (flat_map-append (slot_octets w) (tabulate n f) (f n ∷ [])
    ∙ (ap (λ xs. xs ++ flat_map (slot_octets w) (f n ∷ [])) (sym (octets-flat w n f h))
    ∙ ap (λ xs. tabulate (w * n) (low_octet w f) ++ xs) (append-nil (slot_octets w (f n))))))

-- the last octet of count i
last_octet : (w i : ℕ) (f : ℕ → ℕ) → 0 < w → low_octet w f (w * i + (w - 1)) ≡ f i
last_octet w i f h =
    let place : w * i + (w - 1) ≡ i * w + (w - 1) = (let swap : w * i ≡ i * w = grind arith in omega arith) in
    let last : (w * i + (w - 1)) % w ≡ w - 1 = ap (λ n. n % w) place ∙ mod-mul-add i w (w - 1) (omega arith) in
    let count : (w * i + (w - 1)) / w ≡ i = ap (λ n. n / w) place ∙ div-mul-add i w (w - 1) (omega arith) in
    let same : (w - 1 == w - 1) ≡ true = grind (arith, nat_tests) in
    rw (last, count, same) refl

-- count i is the last of its octets, where these are the octets of counts below 256
pub get_or-octets : (w n i : ℕ) (f : ℕ → ℕ) (octets : List ℕ) → 0 < w → i < n → octets ≡ tabulate (w * n) (low_octet w f) → get_or octets (w * i + (w - 1)) 0 ≡ f i
get_or-octets w n i f octets h b e =
    let within : w * i + (w - 1) < w * n = grind arith in
    ap (λ (l : List ℕ). get_or l (w * i + (w - 1)) 0) e ∙ get_or-tabulate (w * n) (low_octet w f) (w * i + (w - 1)) 0 within ∙ last_octet w i f h

-- ---- all counts
-- as many counts as there are whole ones
pub length-counts_of : (p : Parameters) (octets : List ℕ) → length (counts_of p octets) ≡ length octets / p.count_octets
unfolding counts_of
length-counts_of p octets = length-tabulate _ _

-- the octets of a count add up to it
sum-octets : (w count : ℕ) → 1 ≤ w → w ≤ 2 → sum (slot_octets w count) ≡ count
sum-octets zero count low high = absurd (omega arith)
sum-octets (suc zero) count low high = ap sum (octet_of_one count) ∙ omega arith
sum-octets (suc (suc zero)) count low high = ap sum (octets_of_two count) ∙ omega arith
sum-octets (suc (suc (suc w))) count low high = absurd (omega arith)

-- the octets of all counts
pub sum-slot_octets : (w : ℕ) (counts : List ℕ) → 1 ≤ w → w ≤ 2 → sum (flat_map (slot_octets w) counts) ≡ sum counts
sum-slot_octets w [] low high = refl
sum-slot_octets w (c ∷ cs) low high =
    sum_by-append (λ n. n) (slot_octets w c) (flat_map (slot_octets w) cs) ∙ ap₂ (λ a b. a + b) (sum-octets w c low high) (sum-slot_octets w cs low high)
    ∙ sym (sum_by-cons (λ n. n) c cs)
