-- A clear channel: what is decoded is what was sent.
use Rattle.std.proofs.Common.{◌≡◌, ◌≢◌, ◌*◌, ◌%◌, ◌<◌, ◌≤◌, ◌++◌, ℕ, List, [], ◌∷◌, length, map, refl, sym, ◌∙◌, ap, arith, zero, suc, true, false, Bool, All, append-nil, add-zero, inl, inr}
use Rattle.std.specs.Prelude.{if◌then◌else◌, ◌==◌, Some, None}
use Rattle.std.specs.List.{flat_map, count_by}
use Rattle.std.proofs.Math.Nat.{mul-le-mul_left}
use Rattle.std.proofs.lemmas.Nat.{div-add-mod'}
use Rattle.std.proofs.lemmas.Bool.{cases_eq}
use Rattle.std.proofs.lemmas.Bool.Decides.{nat_tests}
use Rattle.std.proofs.lemmas.Grind.{div_ceil_times}
use Rattle.std.proofs.lemmas.List.Concat.{flat_map-append}
use Rattle.std.proofs.lemmas.List.Sums.{sum_by_push}
use Rattle.hpe_base.specs.Lists.{tabulate, joined}
use Rattle.hpe_base.specs.Parameters.{Parameters, IsValid, block_bits, period_slots}
use Rattle.hpe_base.specs.Frames.{frame_count, frame, bit_stream}
use Rattle.hpe_base.specs.Slicer.{block_count}
use Rattle.hpe_base.specs.FrameScan.{span_bits, delivered_frames}
use Rattle.hpe_base.specs.MarkerSearch.{Offset, Short, Dark, At, offset_of}
use Rattle.hpe_base.specs.Rounds.{Verdict, Kept, Lost}
use Rattle.hpe_base.specs.Decoded.{Tally, is_kept, is_lost, block_of, blocks_of, verdicts_of, counts_frames, decoded, tally_at, counts_tally, tally_of}
use Rattle.hpe_base.proofs.EachPlace.{list_all-range_with_len}
use Rattle.hpe_base.proofs.ParameterLemmas.{code_steps-ge}
use Rattle.hpe_base.proofs.Pieces.{pieces_joined}
use Rattle.hpe_base.proofs.Tabulated.{length-tabulate, get_or-tabulate, tabulate-none, tabulate-suc, length-joined-each, joined-same}
use Rattle.hpe_base.proofs.Shapes.{length-bit_stream}
use Rattle.hpe_frame.specs.Laws.{given_blocks, is_given, frame_if}
use Rattle.hpe_frame.proofs.GivenBlocks.{frames_given}
use Rattle.hpe_clear.specs.Laws.{clear_octets, clear_counts, clear_offset, clear_tally, full_score, ClearChannelIsDecoded}
use Rattle.hpe_clear.proofs.SeenSymbols.{map_from_places}
use Rattle.hpe_clear.proofs.SeenWords.{offset_clear, odd-clear, offset_none, length-none, tail_clear}
use Rattle.hpe_clear.proofs.FirstRound.{block_sent, verdicts_clear}

-- the verdicts that keep every block
abbrev kept_all : Parameters → List ℕ → List Verdict
kept_all p octets = tabulate (block_count p octets) (λ w. Kept 1 (block_sent p octets w))

-- every block is given
abbrev every : ℕ → Bool
every w = true

blocks_clear : (p : Parameters) (octets : List ℕ) (d : ℕ) → IsValid p → d < period_slots p → blocks_of p (clear_counts p octets d) ≡ given_blocks p octets every
blocks_clear p octets d v h =
    let n : ℕ = block_count p octets in
    let kept = λ (w : ℕ). Kept 1 (block_sent p octets w) in
    ap (map block_of) (verdicts_clear p octets d v h)
    ∙ sym (map_from_places block_of (tabulate n kept) Lost None n (λ w. Some (block_sent p octets w)) (length-tabulate n kept)
    (λ w b. sym (ap block_of (get_or-tabulate n kept w Lost b))))

-- the frames that are delivered
frames_clear : (p : Parameters) (octets : List ℕ) (d : ℕ) → IsValid p → All (λ octet. octet < 256) octets → d < period_slots p →
    delivered_frames p (blocks_of p (clear_counts p octets d)) ≡ joined (frame_count p octets) (λ f. frame p octets f ∷ [])
frames_clear p octets d v small h =
    let given : (f : ℕ) → is_given p every f ≡ true = λ f. list_all-range_with_len _ (span_bits p) (λ i b. refl) in
    ap (delivered_frames p) (blocks_clear p octets d v h)
    ∙ (frames_given p octets every v small (λ some. given 0)
    ∙ joined-same (frame_count p octets) _ _ (λ f b. ap (λ g. frame_if g (frame p octets f)) (given f)))

singles_joined : (n : ℕ) (g : ℕ → List ℕ) → flat_map (λ x. x) (joined n (λ f. g f ∷ [])) ≡ joined n g
unfolding joined
singles_joined zero g = refl
singles_joined (suc n) g =
    flat_map-append (λ x. x) (joined n (λ f. g f ∷ [])) (g n ∷ [])
    ∙ (ap (λ xs. xs ++ (g n ++ [])) (singles_joined n g) ∙ ap (λ xs. joined n g ++ xs) (append-nil (g n)))

decoded_clear : (p : Parameters) (octets : List ℕ) (d : ℕ) → IsValid p → All (λ octet. octet < 256) octets → length octets % p.frame_octets ≡ 0 → d < period_slots p →
    decoded p (clear_octets p octets d) ≡ octets
unfolding decoded counts_frames
decoded_clear p octets d v small whole h =
    let all : length octets ≡ frame_count p octets * p.frame_octets = omega (arith, div-add-mod' (length octets) p.frame_octets) in
    ap (flat_map (λ x. x)) (frames_clear p octets d v small h)
    ∙ (singles_joined (frame_count p octets) (frame p octets) ∙ pieces_joined (frame_count p octets) p.frame_octets octets all)

frames_count : (p : Parameters) (octets : List ℕ) (d : ℕ) → IsValid p → All (λ octet. octet < 256) octets → d < period_slots p →
    length (delivered_frames p (blocks_of p (clear_counts p octets d))) ≡ frame_count p octets
frames_count p octets d v small h =
    ap length (frames_clear p octets d v small h) ∙ (length-joined-each (frame_count p octets) 1 (λ f. frame p octets f ∷ []) (λ f b. refl) ∙ omega arith)

-- of verdicts that keep their blocks, all are kept and none is lost
count_kept : (n : ℕ) (g : ℕ → List ℕ) → count_by is_kept (tabulate n (λ w. Kept 1 (g w))) ≡ n
count_kept zero g = ap (count_by is_kept) (tabulate-none (λ w. Kept 1 (g w)))
count_kept (suc n) g =
    ap (count_by is_kept) (tabulate-suc n (λ w. Kept 1 (g w)))
    ∙ (sum_by_push (λ x. if is_kept x then 1 else 0) (tabulate n (λ w. Kept 1 (g w))) (Kept 1 (g n)) ∙ omega (arith, count_kept n g))

count_lost : (n : ℕ) (g : ℕ → List ℕ) → count_by is_lost (tabulate n (λ w. Kept 1 (g w))) ≡ 0
count_lost zero g = ap (count_by is_lost) (tabulate-none (λ w. Kept 1 (g w)))
count_lost (suc n) g =
    ap (count_by is_lost) (tabulate-suc n (λ w. Kept 1 (g w)))
    ∙ (sum_by_push (λ x. if is_lost x then 1 else 0) (tabulate n (λ w. Kept 1 (g w))) (Kept 1 (g n)) ∙ omega (arith, count_lost n g))

-- where there is no block, there is no frame
frames_none : (p : Parameters) (octets : List ℕ) → block_count p octets ≡ 0 → frame_count p octets ≡ 0
frames_none p octets none =
    let room = div_ceil_times (length (bit_stream p octets)) (block_bits p.rate) (omega (arith, code_steps-ge p.rate)) in
    let e : block_count p octets * block_bits p.rate ≡ 0 = ap (λ k. k * block_bits p.rate) none ∙ omega arith in
    let low : frame_count p octets * 1 ≤ frame_count p octets * span_bits p = mul-le-mul_left (frame_count p octets) (omega arith) in
    omega (arith, length-bit_stream p octets, room.0)

tally_same : {w w' k k' l l' f f' a a' t t' : ℕ} → w ≡ w' → k ≡ k' → l ≡ l' → f ≡ f' → a ≡ a' → t ≡ t' →
    ◌≡◌ {A = Tally} (record { words = w; kept = k; lost = l; frames = f; lead = a; tail = t }) (record { words = w'; kept = k'; lost = l'; frames = f'; lead = a'; tail = t' })
tally_same ew ek el ef ea et = λ i. record { words = ew i; kept = ek i; lost = el i; frames = ef i; lead = ea i; tail = et i }

some_lit : (n : ℕ) → 0 < n → (n == 0) ≡ false
some_lit n h = grind (arith, nat_tests)

tally_some : (p : Parameters) (octets : List ℕ) (d : ℕ) → IsValid p → All (λ octet. octet < 256) octets → 0 < block_count p octets → d < period_slots p →
    tally_of p (clear_octets p octets d) ≡ clear_tally p octets d
unfolding tally_of counts_tally
tally_some p octets d v small some h =
    let n : ℕ = block_count p octets in
    let lit : (n == 0) ≡ false = some_lit n some in
    let verdicts : verdicts_of p (clear_counts p octets d) ≡ kept_all p octets = verdicts_clear p octets d v h in
    ap (λ odd. tally_at p (clear_counts p octets d) odd (offset_of p (clear_counts p octets d))) (odd-clear p octets d v)
    ∙ ap (tally_at p (clear_counts p octets d) 0) (offset_clear p octets d v some h)
    ∙ tally_same
    (ap length verdicts ∙ length-tabulate n _)
    (ap (count_by is_kept) verdicts ∙ count_kept n (block_sent p octets))
    (ap (count_by is_lost) verdicts ∙ count_lost n (block_sent p octets))
    (frames_count p octets d v small h)
    (sym (ap (λ b. if b then 0 else d) lit))
    (add-zero _ ∙ tail_clear p octets d v some ∙ sym (ap (λ b. if b then d else 0) lit))

tally_none : (p : Parameters) (octets : List ℕ) (d : ℕ) → IsValid p → block_count p octets ≡ 0 → d < period_slots p → tally_of p (clear_octets p octets d) ≡ clear_tally p octets d
unfolding tally_of counts_tally
tally_none p octets d v none h =
    ap (λ odd. tally_at p (clear_counts p octets d) odd (offset_of p (clear_counts p octets d))) (odd-clear p octets d v)
    ∙ ap (tally_at p (clear_counts p octets d) 0) (offset_none p octets d v none h)
    ∙ tally_same (sym none) (sym none) refl (sym (frames_none p octets none))
    (sym (ap (λ n. if n == 0 then 0 else d) none))
    (add-zero _ ∙ length-none p octets d v none ∙ sym (ap (λ n. if n == 0 then d else 0) none))

-- the offset, with or without a block
offset_is : (p : Parameters) (octets : List ℕ) (d : ℕ) → IsValid p → d < period_slots p → offset_of p (clear_counts p octets d) ≡ clear_offset p octets d
offset_is p octets d v h =
    elim (cases_eq (block_count p octets) 0) [
      | inl none ↦ offset_none p octets d v none h ∙ sym (ap (λ n. if n == 0 then Short else At d (full_score p (clear_counts p octets d))) none)
      | inr some ↦
          offset_clear p octets d v (omega arith) h
          ∙ sym (ap (λ b. if b then Short else At d (full_score p (clear_counts p octets d))) (some_lit (block_count p octets) (omega arith)))
    ]

chosen_lit : (b : Bool) (d best : ℕ) → ◌≢◌ {A = Offset} (if b then Short else At d best) Dark
chosen_lit true d best = λ e. cc
chosen_lit false d best = λ e. cc

tally_is : (p : Parameters) (octets : List ℕ) (d : ℕ) → IsValid p → All (λ octet. octet < 256) octets → d < period_slots p →
    tally_of p (clear_octets p octets d) ≡ clear_tally p octets d
tally_is p octets d v small h =
    elim (cases_eq (block_count p octets) 0) [
      | inl none ↦ tally_none p octets d v none h
      | inr some ↦ tally_some p octets d v small (omega arith) h
    ]

-- the law
pub clear_decoded : ClearChannelIsDecoded
clear_decoded p octets d v small whole h = record {
  offset = offset_is p octets d v h;
  lit = λ dark. chosen_lit (block_count p octets == 0) d (full_score p (clear_counts p octets d)) (sym (offset_is p octets d v h) ∙ dark);
  verdicts = verdicts_clear p octets d v h;
  frames = decoded_clear p octets d v small whole h;
  tally = tally_is p octets d v small h;
}
