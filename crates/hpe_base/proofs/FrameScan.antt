-- How a scan goes on.
use Rattle.std.proofs.Common.{◌≡◌, ◌+◌, ◌-◌, ◌<◌, ◌≤◌, ◌++◌, ℕ, List, [], ◌∷◌, length, drop, refl, sym, ◌∙◌, ap, arith, zero, suc, inl, inr, true, false, Bool, append_assoc, append-nil, subst, ◌⊎◌}
use Rattle.std.specs.Prelude.{nat_le, slice_range}
use Rattle.std.proofs.lemmas.Bool.{cases_lt}
use Rattle.std.proofs.lemmas.List.{take-append-le, drop-append-le, length-append, length-drop, drop-drop}
use Rattle.std.proofs.lemmas.Bool.Decides.{nat_tests}
use Rattle.hpe_base.specs.Parameters.{Parameters}
use Rattle.hpe_base.specs.FrameScan.{Standing, scan, scan_step, scan_span, scan_by, span_bits, scan_from}

-- the span at the place passes the end
abbrev pub IsEnd : Parameters → List ℕ → Standing → Type 0
IsEnd p marks s = length marks < s.place + span_bits p

pub scan-none : (p : Parameters) (marks : List ℕ) (s : Standing) → scan p marks 0 s ≡ s
unfolding scan
scan-none p marks s = refl

pub scan-suc : (p : Parameters) (marks : List ℕ) (n : ℕ) (s : Standing) → scan p marks (suc n) s ≡ scan p marks n (scan_step p marks s)
unfolding scan
scan-suc p marks n s = refl

pub scan-add : (p : Parameters) (marks : List ℕ) (m n : ℕ) (s : Standing) → scan p marks (m + n) s ≡ scan p marks n (scan p marks m s)
scan-add p marks zero n s =
    let e : 0 + n ≡ n = omega arith in
    ap (λ k. scan p marks k s) e ∙ ap (scan p marks n) (sym (scan-none p marks s))
scan-add p marks (suc m) n s =
    let e : suc m + n ≡ suc (m + n) = omega arith in
    ap (λ k. scan p marks k s) e ∙ (scan-suc p marks (m + n) s ∙ (scan-add p marks m n (scan_step p marks s) ∙ ap (scan p marks n) (sym (scan-suc p marks m s))))

within_true : (a b : ℕ) → a ≤ b → nat_le a b ≡ true
within_true a b h = grind (arith, nat_tests)

within_false : (a b : ℕ) → b < a → nat_le a b ≡ false
within_false a b h = grind (arith, nat_tests)

pub step_end : (p : Parameters) (marks : List ℕ) (s : Standing) → IsEnd p marks s → scan_step p marks s ≡ s
unfolding scan_step
step_end p marks s h = rw (within_false (s.place + span_bits p) (length marks) h) refl

pub step_within : (p : Parameters) (marks : List ℕ) (s : Standing) → s.place + span_bits p ≤ length marks →
    scan_step p marks s ≡ scan_span p (slice_range marks s.place (s.place + span_bits p)) s
unfolding scan_step
step_within p marks s h = rw (within_true (s.place + span_bits p) (length marks) h) refl

pub scan_end : (p : Parameters) (marks : List ℕ) (n : ℕ) (s : Standing) → IsEnd p marks s → scan p marks n s ≡ s
scan_end p marks zero s h = scan-none p marks s
scan_end p marks (suc n) s h = scan-suc p marks n s ∙ (ap (scan p marks n) (step_end p marks s h) ∙ scan_end p marks n s h)

by_goes_on : (span : ℕ) (grid known marked : Bool) (frame : List ℕ) (s : Standing) → 1 ≤ span → s.place + 1 ≤ (scan_by span grid known marked frame s).place
by_goes_on span grid true true frame s h = omega arith
by_goes_on span grid true false frame s h = omega arith
by_goes_on span true false marked frame s h = omega arith
by_goes_on span false false marked frame s h = omega arith

pub step_goes_on : (p : Parameters) (marks : List ℕ) (s : Standing) → s.place + span_bits p ≤ length marks → s.place + 1 ≤ (scan_step p marks s).place
step_goes_on p marks s h =
    rw (step_within p marks s h) (by_goes_on (span_bits p) s.grid _ _ _ s (omega arith))

pub scan_far : (p : Parameters) (marks : List ℕ) (n : ℕ) (s : Standing) → IsEnd p marks (scan p marks n s) ⊎ (s.place + n ≤ (scan p marks n s).place)
scan_far p marks zero s = inr (rw (scan-none p marks s) (omega arith))
scan_far p marks (suc n) s =
    elim (cases_lt (length marks) (s.place + span_bits p)) [
      | inl e ↦ inl (rw (scan_end p marks (suc n) s e) e)
      | inr w ↦ rw (scan-suc p marks n s) (elim (scan_far p marks n (scan_step p marks s)) [
        | inl e ↦ inl e
        | inr far ↦ let on = step_goes_on p marks s w in inr (omega arith)
      ])
    ]

-- after as many steps as there are bits a scan has come to its end
pub scan_from_ends : (p : Parameters) (marks : List ℕ) (s : Standing) → IsEnd p marks (scan_from p marks s)
scan_from_ends p marks s =
    elim (scan_far p marks (length marks) s) [ inl e ↦ e | inr far ↦ omega arith ]

pub ends_same : (p : Parameters) (marks : List ℕ) (m n : ℕ) (s : Standing) → IsEnd p marks (scan p marks m s) → IsEnd p marks (scan p marks n s) → scan p marks m s ≡ scan p marks n s
ends_same p marks m n s a b =
    let swap : m + n ≡ n + m = omega arith in
    sym (scan_end p marks n (scan p marks m s) a) ∙ (sym (scan-add p marks m n s) ∙ (ap (λ k. scan p marks k s) swap ∙ (scan-add p marks n m s ∙ scan_end p marks m (scan p marks n s) b)))

-- some steps lead from s to t
pub record Reaches (p : Parameters) (marks : List ℕ) (s t : Standing) : Type 0 where
  pub steps : ℕ
  pub by : scan p marks steps s ≡ t

pub reaches_none : (p : Parameters) (marks : List ℕ) (s : Standing) → Reaches p marks s s
reaches_none p marks s = record { steps = 0; by = scan-none p marks s }

pub reaches_then : (p : Parameters) (marks : List ℕ) (s t u : Standing) → Reaches p marks s t → Reaches p marks t u → Reaches p marks s u
reaches_then p marks s t u a b = record {
  steps = a.steps + b.steps;
  by = scan-add p marks a.steps b.steps s ∙ (ap (scan p marks b.steps) a.by ∙ b.by);
}

pub reaches_one : (p : Parameters) (marks : List ℕ) (s t : Standing) → scan_step p marks s ≡ t → Reaches p marks s t
reaches_one p marks s t e = record { steps = suc 0; by = scan-suc p marks 0 s ∙ (scan-none p marks (scan_step p marks s) ∙ e) }

pub reaches_more : (p : Parameters) (marks : List ℕ) (s t u : Standing) → Reaches p marks s t → scan_step p marks t ≡ u → Reaches p marks s u
reaches_more p marks s t u a e = reaches_then p marks s t u a (reaches_one p marks t u e)

pub reaches_end : (p : Parameters) (marks : List ℕ) (s t : Standing) → Reaches p marks s t → IsEnd p marks t → scan_from p marks s ≡ t
reaches_end p marks s t a e =
    ends_same p marks (length marks) a.steps s (scan_from_ends p marks s) (rw a.by e) ∙ a.by

-- what stands after the span plays no part
pub span_front : (marks more : List ℕ) (a n : ℕ) → a + n ≤ length marks → slice_range (marks ++ more) a (a + n) ≡ slice_range marks a (a + n)
span_front marks more a n h =
    let e : a + n - a ≡ n = omega arith in
    rw (e, drop-append-le a marks more (omega arith), take-append-le n (drop a marks) more (omega (arith, length-drop a marks))) refl

pub step_front : (p : Parameters) (marks more : List ℕ) (s : Standing) → s.place + span_bits p ≤ length marks → scan_step p (marks ++ more) s ≡ scan_step p marks s
step_front p marks more s h =
    step_within p (marks ++ more) s (omega (arith, length-append marks more))
    ∙ (ap (λ span. scan_span p span s) (span_front marks more s.place (span_bits p) h) ∙ sym (step_within p marks s h))

pub reaches_front : (p : Parameters) (marks more : List ℕ) (n : ℕ) (s : Standing) → Reaches p (marks ++ more) s (scan p marks n s)
reaches_front p marks more zero s = rw (scan-none p marks s) (reaches_none p (marks ++ more) s)
reaches_front p marks more (suc n) s =
    elim (cases_lt (length marks) (s.place + span_bits p)) [
      | inl e ↦ rw (scan_end p marks (suc n) s e) (reaches_none p (marks ++ more) s)
      | inr w ↦ rw (scan-suc p marks n s)
          (reaches_then p (marks ++ more) s (scan_step p marks s) _ (reaches_one p (marks ++ more) s (scan_step p marks s) (step_front p marks more s w)) (reaches_front p marks more n (scan_step p marks s)))
    ]

-- the same, a places and some frames later
abbrev pub later : ℕ → List (List ℕ) → Standing → Standing
later a fs s = record { grid = s.grid; place = a + s.place; frames = fs ++ s.frames }

by_later : (span a : ℕ) (fs : List (List ℕ)) (grid known marked : Bool) (frame : List ℕ) (s : Standing) →
    scan_by span grid known marked frame (later a fs s) ≡ later a fs (scan_by span grid known marked frame s)
by_later span a fs grid true true frame s =
    let e : a + s.place + span ≡ a + (s.place + span) = omega arith in
    let f : (fs ++ s.frames) ++ frame ∷ [] ≡ fs ++ (s.frames ++ frame ∷ []) = append_assoc fs s.frames (frame ∷ []) in
    cc
by_later span a fs grid true false frame s = let e : a + s.place + 1 ≡ a + (s.place + 1) = omega arith in cc
by_later span a fs true false marked frame s = let e : a + s.place + span ≡ a + (s.place + span) = omega arith in cc
by_later span a fs false false marked frame s = let e : a + s.place + 1 ≡ a + (s.place + 1) = omega arith in cc

pub span_later : (marks : List ℕ) (a x n : ℕ) → slice_range marks (a + x) (a + x + n) ≡ slice_range (drop a marks) x (x + n)
span_later marks a x n =
    let e : a + x + n - (a + x) ≡ x + n - x = omega arith in
    rw (e, drop-drop x a marks) refl

pub step_later : (p : Parameters) (marks : List ℕ) (a : ℕ) (fs : List (List ℕ)) (s : Standing) → a ≤ length marks →
    scan_step p marks (later a fs s) ≡ later a fs (scan_step p (drop a marks) s)
step_later p marks a fs s h =
    elim (cases_lt (length (drop a marks)) (s.place + span_bits p)) [
      | inl e ↦ step_end p marks (later a fs s) (omega (arith, length-drop a marks)) ∙ ap (later a fs) (sym (step_end p (drop a marks) s e))
      | inr w ↦ step_within p marks (later a fs s) (omega (arith, length-drop a marks))
          ∙ (ap (λ span. scan_span p span (later a fs s)) (span_later marks a s.place (span_bits p))
          ∙ (by_later (span_bits p) a fs s.grid _ _ _ s ∙ ap (later a fs) (sym (step_within p (drop a marks) s w))))
    ]

pub reaches_later : (p : Parameters) (marks : List ℕ) (a : ℕ) (fs : List (List ℕ)) (n : ℕ) (s : Standing) → a ≤ length marks →
    Reaches p marks (later a fs s) (later a fs (scan p (drop a marks) n s))
reaches_later p marks a fs zero s h = rw (scan-none p (drop a marks) s) (reaches_none p marks (later a fs s))
reaches_later p marks a fs (suc n) s h =
    rw (scan-suc p (drop a marks) n s)
    (reaches_then p marks (later a fs s) (later a fs (scan_step p (drop a marks) s)) _
    (reaches_one p marks (later a fs s) _ (step_later p marks a fs s h)) (reaches_later p marks a fs n (scan_step p (drop a marks) s) h))

-- the frames only grow
by_grows : (span : ℕ) (grid known marked : Bool) (frame : List ℕ) (s : Standing) → (more : List (List ℕ)) × ((scan_by span grid known marked frame s).frames ≡ s.frames ++ more)
by_grows span grid true true frame s = (frame ∷ [], refl)
by_grows span grid true false frame s = ([], sym (append-nil s.frames))
by_grows span true false marked frame s = ([], sym (append-nil s.frames))
by_grows span false false marked frame s = ([], sym (append-nil s.frames))

step_grows : (p : Parameters) (marks : List ℕ) (s : Standing) → (more : List (List ℕ)) × ((scan_step p marks s).frames ≡ s.frames ++ more)
step_grows p marks s =
    elim (cases_lt (length marks) (s.place + span_bits p)) [
      | inl e ↦ ([], ap (λ (t : Standing). t.frames) (step_end p marks s e) ∙ sym (append-nil s.frames))
      | inr w ↦ rw (step_within p marks s w) (by_grows (span_bits p) s.grid _ _ _ s)
    ]

pub scan_grows : (p : Parameters) (marks : List ℕ) (n : ℕ) (s : Standing) → (more : List (List ℕ)) × ((scan p marks n s).frames ≡ s.frames ++ more)
scan_grows p marks zero s = ([], ap (λ (t : Standing). t.frames) (scan-none p marks s) ∙ sym (append-nil s.frames))
scan_grows p marks (suc n) s =
    let one : (more : List (List ℕ)) × ((scan_step p marks s).frames ≡ s.frames ++ more) = step_grows p marks s in
    let rest : (more : List (List ℕ)) × ((scan p marks n (scan_step p marks s)).frames ≡ (scan_step p marks s).frames ++ more) = scan_grows p marks n (scan_step p marks s) in
    (one.0 ++ rest.0, ap (λ (t : Standing). t.frames) (scan-suc p marks n s) ∙ (rest.1 ∙ (ap (λ xs. xs ++ rest.0) one.1 ∙ append_assoc s.frames one.0 rest.0)))

by_within : (span n : ℕ) (grid known marked : Bool) (frame : List ℕ) (s : Standing) → 1 ≤ span → s.place + span ≤ n → (scan_by span grid known marked frame s).place ≤ n
by_within span n grid true true frame s h w = omega arith
by_within span n grid true false frame s h w = omega arith
by_within span n true false marked frame s h w = omega arith
by_within span n false false marked frame s h w = omega arith

-- a scan never passes the end
pub scan_within : (p : Parameters) (marks : List ℕ) (n : ℕ) (s : Standing) → s.place ≤ length marks → (scan p marks n s).place ≤ length marks
scan_within p marks zero s h = rw (scan-none p marks s) h
scan_within p marks (suc n) s h =
    elim (cases_lt (length marks) (s.place + span_bits p)) [
      | inl e ↦ rw (scan_end p marks (suc n) s e) h
      | inr w ↦ rw (scan-suc p marks n s) (scan_within p marks n (scan_step p marks s)
          (rw (step_within p marks s w) (by_within (span_bits p) (length marks) s.grid _ _ _ s (omega arith) w)))
    ]

-- a scan that begins with a front of the list
abbrev pub from_place : Standing → Standing
from_place t = record { grid = t.grid; place = 0; frames = [] }

later_start : (t : Standing) → later t.place t.frames (from_place t) ≡ t
later_start t =
    let e : t.place + 0 ≡ t.place = omega arith in
    let f : t.frames ++ [] ≡ t.frames = append-nil t.frames in
    rw (e, f) refl

-- the scan of a longer list goes on from where the scan of its front stood
pub scan_goes_on : (p : Parameters) (marks more : List ℕ) (s t : Standing) → scan_from p marks s ≡ t → t.place ≤ length marks →
    scan_from p (marks ++ more) s ≡ later t.place t.frames (scan_from p (drop t.place marks ++ more) (from_place t))
scan_goes_on p marks more s t is h =
    let cut : drop t.place (marks ++ more) ≡ drop t.place marks ++ more = drop-append-le t.place marks more h in
    let n : ℕ = length (drop t.place marks ++ more) in
    let end : Standing = later t.place t.frames (scan_from p (drop t.place marks ++ more) (from_place t)) in
    let front : Reaches p (marks ++ more) s t = subst (Reaches p (marks ++ more) s) is (reaches_front p marks more (length marks) s) in
    let onward : Reaches p (marks ++ more) (later t.place t.frames (from_place t)) end =
    subst (λ bits. Reaches p (marks ++ more) (later t.place t.frames (from_place t)) (later t.place t.frames (scan p bits n (from_place t)))) cut
    (reaches_later p (marks ++ more) t.place t.frames n (from_place t) (omega (arith, length-append marks more))) in
    let rest : Reaches p (marks ++ more) t end = subst (λ u. Reaches p (marks ++ more) u end) (later_start t) onward in
    let last : IsEnd p (drop t.place marks ++ more) (scan_from p (drop t.place marks ++ more) (from_place t)) = scan_from_ends p (drop t.place marks ++ more) (from_place t) in
    let total : length (drop t.place marks ++ more) ≡ length marks - t.place + length more = length-append (drop t.place marks) more ∙ ap (λ k. k + length more) (length-drop t.place marks) in
    reaches_end p (marks ++ more) s end (reaches_then p (marks ++ more) s t end front rest) (omega (arith, length-append marks more))

-- the frames at any step are a front of those at the end
pub frames_more : (p : Parameters) (marks : List ℕ) (s t : Standing) → Reaches p marks s t → (more : List (List ℕ)) × ((scan_from p marks s).frames ≡ t.frames ++ more)
frames_more p marks s t r =
    let rest : (more : List (List ℕ)) × ((scan_from p marks t).frames ≡ t.frames ++ more) = scan_grows p marks (length marks) t in
    let onward : Reaches p marks s (scan_from p marks t) = reaches_then p marks s t _ r (record { steps = length marks; by = refl }) in
    let same : scan_from p marks s ≡ scan_from p marks t = reaches_end p marks s _ onward (scan_from_ends p marks t) in
    (rest.0, ap (λ (u : Standing). u.frames) same ∙ rest.1)
