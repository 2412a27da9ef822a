-- Counts as their octets come, piece by piece.
use Rattle.std.proofs.Common.{◌≡◌, ◌≤◌, ◌<◌, ◌+◌, ◌-◌, ◌*◌, ◌/◌, ◌++◌, ◌∙◌, ℕ, List, [], ◌∷◌, length, take, drop, get_or, ap, sym, subst, arith, append_assoc, append-nil, length-append, slice_set, suc, None, Some}
use Rattle.std.proofs.Math.Nat.{div-eq_of_lt, div-mul-le_self, lt-div-mul-add, div-le_of_le-mul, div-lt_iff_lt-mul, mul-le-mul_right, mul-le-mul_left, mul_comm}
use Rattle.std.proofs.lemmas.Nat.{le-div}
use Rattle.std.proofs.Math.Seq.{drop-append-add}
use Rattle.std.proofs.lemmas.List.{take-append-drop, length-take, length-drop, take-append-le, drop_all}
use Rattle.std.specs.declared.option.Option.{Option}
use borrow.Rule.Slice.PartMut.{put_mid, post_of}
use mir.Val.{bool_byte}
use Rattle.std.specs.Option.{is_some}
use Rattle.hpe_base.specs.Lists.{tabulate}
use Rattle.hpe_base.specs.Parameters.{Parameters}
use Rattle.hpe_base.specs.Counts.{count_at, counts_of}
use Rattle.hpe_base.proofs.Tabulated.{tabulate-none}
use Rattle.hpe_base.proofs.Counts.{counts_of-append, length-counts_of}
use Rattle.hpe_io.specs.Intake.{HasCome}
use Rattle.hpe_io.proofs.Taking.{stopped_within}
use Rattle.hpe_recv.specs.Counting.{CountIntakeState, HasCounted, HasCountedPart, half_octets}

-- less than a count is none
pub counts_of-less : (p : Parameters) (octets : List ℕ) → length octets < p.count_octets → counts_of p octets ≡ []
unfolding counts_of
counts_of-less p octets less = ap (λ n. tabulate n (count_at p.count_octets octets)) (div-eq_of_lt less) ∙ tabulate-none (count_at p.count_octets octets)

-- the octets of n whole counts of w octets stand at the front
whole_length : (w n : ℕ) (octets : List ℕ) → n ≡ length octets / w → length (take (w * n) octets) ≡ w * n
whole_length w n octets e =
    let fits : length octets / w * w ≤ length octets = div-mul-le_self (length octets) w in
    let same : w * n ≡ length octets / w * w = mul_comm w n ∙ ap (λ k. k * w) e in
    omega (arith, length-take (w * n) octets)

-- and less than a count behind them
pub rest_less : (w n : ℕ) (octets : List ℕ) → 1 ≤ w → n ≡ length octets / w → length (drop (w * n) octets) < w
rest_less w n octets low e =
    let ends : length octets < length octets / w * w + w = lt-div-mul-add low in
    let same : w * n ≡ length octets / w * w = mul_comm w n ∙ ap (λ k. k * w) e in
    omega (arith, length-drop (w * n) octets)

module _ (p : Parameters) (low : 1 ≤ p.count_octets) (high : p.count_octets ≤ 2) where
  -- the counts are those of the whole ones
  pub counts_of-whole : (octets : List ℕ) (n : ℕ) → n ≡ length octets / p.count_octets → counts_of p (take (p.count_octets * n) octets) ≡ counts_of p octets
  counts_of-whole octets n e =
      let front : List ℕ = take (p.count_octets * n) octets in
      let rest : List ℕ = drop (p.count_octets * n) octets in
      sym (ap (counts_of p) (sym (take-append-drop (p.count_octets * n) octets))
      ∙ (counts_of-append p front rest n low high (whole_length p.count_octets n octets e)
      ∙ (ap (λ l. counts_of p front ++ l) (counts_of-less p rest (rest_less p.count_octets n octets low e)) ∙ append-nil (counts_of p front))))

  -- octets behind counts that came, and behind the octet of one that isn't whole
  module _ (octets counts half more : List ℕ) (are : counts ≡ counts_of p octets) (kept : half ≡ drop (p.count_octets * length counts) octets) where
    abbrev whole : List ℕ
    whole = take (p.count_octets * length counts) octets

    count : length counts ≡ length octets / p.count_octets
    count = ap (λ l. length l) are ∙ length-counts_of p octets

    long : length whole ≡ p.count_octets * length counts
    long = whole_length p.count_octets (length counts) octets count

    joined : octets ++ more ≡ whole ++ (half ++ more)
    joined =
        ap (λ l. l ++ more) (sym (take-append-drop (p.count_octets * length counts) octets))
        ∙ (append_assoc whole (drop (p.count_octets * length counts) octets) more ∙ ap (λ l. whole ++ (l ++ more)) (sym kept))

    pub counts_more : counts_of p (octets ++ more) ≡ counts ++ counts_of p (half ++ more)
    counts_more =
        ap (counts_of p) joined
        ∙ (counts_of-append p whole (half ++ more) (length counts) low high long
        ∙ ap (λ l. l ++ counts_of p (half ++ more)) (counts_of-whole octets (length counts) count ∙ sym are))

    pub half_more : (piece : List ℕ) → drop (p.count_octets * length (counts ++ piece)) (octets ++ more) ≡ drop (p.count_octets * length piece) (half ++ more)
    half_more piece =
        let size : p.count_octets * length (counts ++ piece) ≡ length whole + p.count_octets * length piece =
        ap (λ n. p.count_octets * n) (length-append counts piece) ∙ (let l : p.count_octets * (length counts + length piece) ≡ p.count_octets * length counts + p.count_octets * length piece = grind arith in omega (arith, long)) in
        ap (λ n. drop n (octets ++ more)) size
        ∙ (ap (drop (length whole + p.count_octets * length piece)) joined ∙ drop-append-add whole (half ++ more) (p.count_octets * length piece))

-- a count of two octets
count_two : (p : Parameters) (high low : ℕ) → p.count_octets ≡ 2 → counts_of p (high ∷ low ∷ []) ≡ (256 * high + low) ∷ []
unfolding counts_of tabulate
count_two p high low two = ap (λ w. tabulate (2 / w) (count_at w (high ∷ low ∷ []))) two

-- its first octet came before the others
pub counts_of-half : (p : Parameters) (high : ℕ) (octets : List ℕ) → p.count_octets ≡ 2 → 0 < length octets
    → counts_of p (high ∷ octets) ≡ (256 * high + get_or octets 0 0) ∷ counts_of p (drop 1 octets)
counts_of-half p high [] two some = absurd (omega arith)
counts_of-half p high (low ∷ octets) two some =
    counts_of-append p (high ∷ low ∷ []) octets 1 (omega arith) (omega arith) (omega arith) ∙ ap (λ l. l ++ counts_of p octets) (count_two p high low two)

-- what is read stands behind the first place
pub read_behind_first : (xs ys : List ℕ) (v n k : ℕ) → 0 < length xs → n ≤ length ys → take (1 + n) (put_mid 1 k (slice_set xs 0 v) ys) ≡ v ∷ take n ys
read_behind_first [] ys v n k some fits = absurd (omega arith)
read_behind_first (x ∷ xs) ys v n k some fits =
    let next : 1 + n ≡ suc n = omega arith in
    let rest : List ℕ = post_of 1 k (v ∷ xs) in
    ap (λ m. take m (v ∷ (ys ++ rest))) next ∙ ap (λ l. v ∷ l) (take-append-le n ys rest fits)

-- as many counts are read as there is room for
pub count_fits : (w v n m : ℕ) → w ≡ v → n ≤ v * m → n / w ≤ m
count_fits w v n m same fits = div-le_of_le-mul w (subst (λ (k : ℕ). n ≤ k * m) (sym same) fits)

-- what is left behind a count whose first octet came before
pub drop-half : (w n high : ℕ) (octets : List ℕ) → w ≡ 2 → drop (w * (1 + n)) (high ∷ octets) ≡ drop (w * n) (drop 1 octets)
drop-half w n high [] two =
    drop_all (w * (1 + n)) (high ∷ []) (let l : w * (1 + n) ≡ 2 * (1 + n) = ap (λ k. k * (1 + n)) two in omega arith) ∙ sym (drop_all (w * n) [] (omega arith))
drop-half w n high (low ∷ octets) two =
    let l : w * (1 + n) ≡ suc (suc (w * n)) = (let a : w * (1 + n) ≡ 2 * (1 + n) = ap (λ k. k * (1 + n)) two in let b : w * n ≡ 2 * n = ap (λ k. k * n) two in omega arith) in
    ap (λ k. drop k (high ∷ low ∷ octets)) l

-- less than a count is left
pub kept_less : (p : Parameters) (n : ℕ) (octets counts : List ℕ) → 1 ≤ p.count_octets → take n counts ≡ counts_of p octets → n ≤ length counts → length (drop (p.count_octets * n) octets) < p.count_octets
kept_less p n octets counts low are fits =
    rest_less p.count_octets n octets low (omega (arith, length-take n counts, ap (λ (l : List ℕ). length l) are, length-counts_of p octets))

-- ---- the relation

module _ (old new : CountIntakeState) (same : new.parameters ≡ old.parameters) (start left left' : Option (List ℕ)) (counts : List ℕ) (h : HasCounted old start left counts) where
  -- the octets of a piece came
  pub counted_more : (more : List ℕ) → 1 ≤ old.parameters.count_octets → old.parameters.count_octets ≤ 2
      → HasCome new.octets start left' (h.octets ++ more) → new.piece ≡ counts_of old.parameters (old.half ++ more)
      → new.half ≡ drop (old.parameters.count_octets * length new.piece) (old.half ++ more) → HasCounted new start left' (counts ++ new.piece)
  counted_more more low high come are kept = record {
    octets = h.octets ++ more;
    come = come;
    written = ap (λ l. counts ++ l) are ∙ (sym (counts_more old.parameters low high h.octets counts old.half more h.written h.half) ∙ ap (λ p. counts_of p (h.octets ++ more)) (sym same));
    half = kept ∙ (sym (half_more old.parameters low high h.octets counts old.half more h.written h.half new.piece)
        ∙ ap (λ p. drop (p.count_octets * length (counts ++ new.piece)) (h.octets ++ more)) (sym same));
  }

  -- none came
  pub counted_none : HasCome new.octets start left' h.octets → new.half ≡ old.half → HasCounted new start left' counts
  counted_none come kept = record {
    octets = h.octets;
    come = come;
    written = h.written ∙ ap (λ p. counts_of p h.octets) (sym same);
    half = kept ∙ (h.half ∙ ap (λ p. drop (p.count_octets * length counts) h.octets) (sym same));
  }

-- these came within the limit
pub counted_within : (s : CountIntakeState) (start now : Option (List ℕ)) (counts : List ℕ) → HasCounted s start now counts → s.octets.taken ≤ s.octets.limit → HasCountedPart s start now counts
counted_within s start now counts h fits = record { octets = h.octets; stopped = stopped_within s.octets start now h.octets h.come fits; written = h.written }

-- so many of them are whole
pub counted_count : (s : CountIntakeState) (start now : Option (List ℕ)) (counts : List ℕ) → HasCounted s start now counts → s.octets.taken / s.parameters.count_octets ≡ length counts
counted_count s start now counts h =
    ap (λ n. n / s.parameters.count_octets) (sym h.come.count) ∙ (sym (length-counts_of s.parameters h.octets) ∙ ap (λ (l : List ℕ). length l) (sym h.written))

-- of those that are kept a lead is one of all
pub lead_within : (w lead kept before after total : ℕ) → 1 ≤ w → lead ≤ kept → kept ≡ before / w → before ≤ after → total ≡ after / w → lead ≤ total
lead_within w lead kept before after total low within kept_are later total_is =
    let fits : before / w * w ≤ before = div-mul-le_self before w in
    let more : before / w ≤ after / w = le-div (before / w) after w low (omega arith) in
    omega arith

-- at first none
pub counted_start : (s : CountIntakeState) (start : Option (List ℕ)) → 1 ≤ s.parameters.count_octets → HasCome s.octets start start [] → s.half ≡ [] → HasCounted s start start []
counted_start s start low come none = record {
  octets = [];
  come = come;
  written = sym (counts_of-less s.parameters [] low);
  half = none ∙ sym (drop_all (s.parameters.count_octets * 0) [] (omega arith));
}

-- a piece has no more counts than octets that came
pub few_more : (p : Parameters) (n half more : ℕ) → n ≡ (half + more) / p.count_octets → 1 ≤ p.count_octets → half < p.count_octets → n ≤ more
few_more p n half more e low less =
    let w : ℕ = p.count_octets in
    let some : 1 * more ≤ w * more = mul-le-mul_right more low in
    let size : (more + 1) * w ≡ w * more + w = grind arith in
    let below : (half + more) / w < more + 1 = (div-lt_iff_lt-mul low).1 (omega arith) in
    omega arith

-- the octets that are asked for are those of so many counts, but for the one that is kept
pub half_room : (half : Option ℕ) (w n m more : ℕ) → length (half_octets half) < w → 0 < n → n ≤ m → more ≤ w * n - bool_byte (is_some half) → length (half_octets half) + more ≤ w * m
half_room None w n m more less some room asked = let fits : w * n ≤ w * m = mul-le-mul_left w room in omega arith
half_room (Some octet) w n m more less some room asked =
    let fits : w * n ≤ w * m = mul-le-mul_left w room in
    let first : 1 * n ≤ w * n = mul-le-mul_right n (omega arith) in
    omega arith
