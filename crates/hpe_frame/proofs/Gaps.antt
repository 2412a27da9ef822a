-- The frames of a list of bits that has frames on a grid, of which some have bits that aren't known.
use Rattle.std.proofs.Common.{◌≡◌, ◌+◌, ◌*◌, ◌<◌, ◌≤◌, ◌++◌, ℕ, List, [], ◌∷◌, length, drop, refl, sym, ◌∙◌, ap, arith, zero, suc, inl, inr, true, false, Bool, append-nil, subst}
use Rattle.std.specs.Prelude.{slice_range}
use Rattle.std.proofs.lemmas.Bool.{cases_lt}
use Rattle.hpe_base.specs.Lists.{joined}
use Rattle.hpe_base.specs.Parameters.{Parameters}
use Rattle.hpe_base.specs.FrameScan.{Standing, scan, scan_from, scan_step, scan_by, span_bits, all_known, has_marker, octets_of, scan_start}
use Rattle.hpe_base.proofs.Pieces.{piece_within}
use Rattle.hpe_base.proofs.FrameScan.{Reaches, reaches_one, reaches_more, reaches_then, reaches_end, step_within, scan-none, scan-suc, scan_end, step_goes_on, scan_from_ends}
use Rattle.hpe_frame.specs.Laws.{frame_if}

-- what stands at a span of the grid: the bits of a frame, or a gap
pub record OnGrid (p : Parameters) (marks : List ℕ) (given : ℕ → Bool) (octets : ℕ → List ℕ) (count : ℕ) : Type 0 where
  pub within : count * span_bits p ≤ length marks
  pub known : (f : ℕ) → f < count → all_known (slice_range marks (f * span_bits p) (f * span_bits p + span_bits p)) ≡ given f
  pub marker : (f : ℕ) → f < count → given f ≡ true → has_marker p (slice_range marks (f * span_bits p) (f * span_bits p + span_bits p)) ≡ true
  pub value : (f : ℕ) → f < count → given f ≡ true → octets_of (drop 32 (slice_range marks (f * span_bits p) (f * span_bits p + span_bits p))) ≡ octets f

-- no frame begins behind the last
abbrev pub Quiet : Parameters → List ℕ → ℕ → Type 0
Quiet p marks start = (place : ℕ) → start ≤ place → place + span_bits p ≤ length marks →
    all_known (slice_range marks place (place + span_bits p)) ≡ true → has_marker p (slice_range marks place (place + span_bits p)) ≡ false

quiet_by : (span : ℕ) (grid known marked : Bool) (frame : List ℕ) (s : Standing) → (known ≡ true → marked ≡ false) → (scan_by span grid known marked frame s).frames ≡ s.frames
quiet_by span grid true true frame s h = absurd (let e : true ≡ false = h refl in cc)
quiet_by span grid true false frame s h = refl
quiet_by span true false marked frame s h = refl
quiet_by span false false marked frame s h = refl

pub quiet_scan : (p : Parameters) (marks : List ℕ) (start n : ℕ) (s : Standing) → Quiet p marks start → start ≤ s.place → (scan p marks n s).frames ≡ s.frames
quiet_scan p marks start zero s q h = ap (λ (t : Standing). t.frames) (scan-none p marks s)
quiet_scan p marks start (suc n) s q h =
    elim (cases_lt (length marks) (s.place + span_bits p)) [
      | inl e ↦ ap (λ (t : Standing). t.frames) (scan_end p marks (suc n) s e)
      | inr w ↦
          let on : s.place + 1 ≤ (scan_step p marks s).place = step_goes_on p marks s w in
          let here : (scan_step p marks s).frames ≡ s.frames =
          ap (λ (t : Standing). t.frames) (step_within p marks s w) ∙ quiet_by (span_bits p) s.grid _ _ _ s (q s.place h w) in
          ap (λ (t : Standing). t.frames) (scan-suc p marks n s) ∙ (quiet_scan p marks start n (scan_step p marks s) q (omega arith) ∙ here)
    ]

-- a step on the grid
grid_by : (span : ℕ) (known marked given : Bool) (frame octets : List ℕ) (place : ℕ) (fs : List (List ℕ)) →
    known ≡ given → (given ≡ true → marked ≡ true) → (given ≡ true → frame ≡ octets) →
    scan_by span true known marked frame (record { grid = true; place = place; frames = fs }) ≡ record { grid = true; place = place + span; frames = fs ++ frame_if given octets }
grid_by span known marked true frame octets place fs k m f =
    let a : marked ≡ true = m refl in
    let b : frame ≡ octets = f refl in
    rw (k, a, b) refl
grid_by span known marked false frame octets place fs k m f =
    let a : fs ++ [] ≡ fs = append-nil fs in
    rw (k, a) refl

first_by : (span : ℕ) (known marked : Bool) (frame octets : List ℕ) → known ≡ true → marked ≡ true → frame ≡ octets →
    scan_by span false known marked frame scan_start ≡ record { grid = true; place = 0 + span; frames = octets ∷ [] }
first_by span known marked frame octets k m f = rw (k, m, f) refl

abbrev pub after_frames : Parameters → (ℕ → Bool) → (ℕ → List ℕ) → ℕ → Standing
after_frames p given octets n = record { grid = true; place = n * span_bits p; frames = joined n (λ f. frame_if (given f) (octets f)) }

pub grid_step : (p : Parameters) (marks : List ℕ) (given : ℕ → Bool) (octets : ℕ → List ℕ) (count f : ℕ) → OnGrid p marks given octets count → f < count →
    scan_step p marks (after_frames p given octets f) ≡ after_frames p given octets (suc f)
unfolding joined
grid_step p marks given octets count f g h =
    let next : f * span_bits p + span_bits p ≡ suc f * span_bits p = grind arith in
    step_within p marks (after_frames p given octets f) (omega (arith, piece_within count (span_bits p) f h, g.within))
    ∙ (grid_by (span_bits p) _ _ (given f) _ (octets f) (f * span_bits p) _ (g.known f h) (g.marker f h) (g.value f h)
    ∙ ap (λ k. record { grid = true; place = k; frames = joined (suc f) (λ i. frame_if (given i) (octets i)) }) next)

pub grid_first : (p : Parameters) (marks : List ℕ) (given : ℕ → Bool) (octets : ℕ → List ℕ) (count : ℕ) → OnGrid p marks given octets count → 0 < count → given 0 ≡ true →
    scan_step p marks scan_start ≡ after_frames p given octets 1
unfolding joined
grid_first p marks given octets count g h first =
    let zero_place : 0 * span_bits p ≡ 0 = omega arith in
    let one_place : 0 + span_bits p ≡ 1 * span_bits p = omega arith in
    let known : all_known (slice_range marks 0 (0 + span_bits p)) ≡ true = subst (λ k. all_known (slice_range marks k (k + span_bits p)) ≡ true) zero_place (g.known 0 h ∙ first) in
    let marked : has_marker p (slice_range marks 0 (0 + span_bits p)) ≡ true = subst (λ k. has_marker p (slice_range marks k (k + span_bits p)) ≡ true) zero_place (g.marker 0 h first) in
    let value : octets_of (drop 32 (slice_range marks 0 (0 + span_bits p))) ≡ octets 0 = subst (λ k. octets_of (drop 32 (slice_range marks k (k + span_bits p))) ≡ octets 0) zero_place (g.value 0 h first) in
    let frames : octets 0 ∷ [] ≡ frame_if (given 0) (octets 0) = ap (λ b. frame_if b (octets 0)) (sym first) in
    step_within p marks scan_start (omega (arith, piece_within count (span_bits p) 0 h, g.within))
    ∙ (first_by (span_bits p) _ _ _ (octets 0) known marked value
    ∙ (ap (λ k. record { grid = true; place = k; frames = octets 0 ∷ [] }) one_place ∙ ap (λ fs. record { grid = true; place = 1 * span_bits p; frames = fs }) frames))

pub grid_run : (p : Parameters) (marks : List ℕ) (given : ℕ → Bool) (octets : ℕ → List ℕ) (count n : ℕ) → OnGrid p marks given octets count → given 0 ≡ true → suc n ≤ count →
    Reaches p marks scan_start (after_frames p given octets (suc n))
grid_run p marks given octets count zero g first h = reaches_one p marks scan_start _ (grid_first p marks given octets count g (omega arith) first)
grid_run p marks given octets count (suc n) g first h =
    reaches_more p marks scan_start _ _ (grid_run p marks given octets count n g first (omega arith)) (grid_step p marks given octets count (suc n) g (omega arith))

-- the frames that are delivered are those that are given, in order
pub gaps : (p : Parameters) (marks : List ℕ) (given : ℕ → Bool) (octets : ℕ → List ℕ) (count : ℕ) → OnGrid p marks given octets count →
    Quiet p marks (count * span_bits p) → (0 < count → given 0 ≡ true) →
    (scan_from p marks scan_start).frames ≡ joined count (λ f. frame_if (given f) (octets f))
unfolding joined
gaps p marks given octets zero g q first = quiet_scan p marks (zero * span_bits p) (length marks) scan_start q (omega arith)
gaps p marks given octets (suc n) g q first =
    let run : Reaches p marks scan_start (after_frames p given octets (suc n)) = grid_run p marks given octets (suc n) n g (first (omega arith)) (omega arith) in
    let last : Standing = scan_from p marks (after_frames p given octets (suc n)) in
    let onward : Reaches p marks scan_start last = reaches_then p marks scan_start _ last run (record { steps = length marks; by = refl }) in
    ap (λ (t : Standing). t.frames) (reaches_end p marks scan_start last onward (scan_from_ends p marks (after_frames p given octets (suc n))))
    ∙ quiet_scan p marks (suc n * span_bits p) (length marks) (after_frames p given octets (suc n)) q (omega arith)
