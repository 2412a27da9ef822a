-- A scan of some bits so far, and what it put.
use Rattle.std.proofs.Common.{◌≡◌, ◌≤◌, ◌<◌, ◌+◌, ◌++◌, ℕ, List, [], ◌∷◌, length, drop, ap, sym, ◌∙◌, refl, arith, Bool, true, false, append-nil, length-append, subst}
use Rattle.std.specs.List.{flat_map, slice_range}
use Rattle.std.specs.declared.option.Option.{Option}
use Rattle.std.specs.Io.KnownBytes.{append_known}
use Rattle.std.proofs.lemmas.List.Concat.{flat_map-append}
use Rattle.hpe_base.specs.Parameters.{Parameters}
use Rattle.hpe_base.specs.FrameScan.{Standing, octets_of, scan_from, span_bits, scan_step, all_known, has_marker}
use Rattle.hpe_base.proofs.FrameScan.{Reaches, reaches_none, reaches_more, reaches_end, step_within, frames_more}
use Rattle.hpe_io.specs.Devices.{GrowsByFront}
use Rattle.hpe_io.proofs.Known.{append_nothing}
use Rattle.hpe_frame.specs.declared.span.Look.{Look}
use Rattle.hpe_frame.specs.declared.span.Look.TheVariants.{Frame, Gap, Other}
use Rattle.hpe_frame.specs.Looking.{look_of, by_look}
use Rattle.hpe_frame.proofs.SpanBits.{step_by_look}
use Rattle.hpe_io.proofs.Fronts.{front_after, front_before, all_after}

-- the octets of frames
abbrev pub all_octets : List (List ℕ) → List ℕ
all_octets frames = flat_map (λ frame. frame) frames

pub all_octets-append : (xs ys : List (List ℕ)) → all_octets (xs ++ ys) ≡ all_octets xs ++ all_octets ys
all_octets-append xs ys = flat_map-append (λ frame. frame) xs ys

all_octets-push : (frames : List (List ℕ)) (frame : List ℕ) → all_octets (frames ++ frame ∷ []) ≡ all_octets frames ++ frame
all_octets-push frames frame = all_octets-append frames (frame ∷ []) ∙ ap (λ xs. all_octets frames ++ xs) (append-nil frame)

-- where the scan of some bits stands, and what it put
pub record Running (p : Parameters) (bits : List ℕ) (start : Standing) (place : ℕ) (on_grid : Bool) (delivered : ℕ) (old now : Option (List ℕ)) : Type 0 where
  pub frames : List (List ℕ)
  pub reached : Reaches p bits start (record { grid = on_grid; place = place; frames = frames })
  pub count : length frames ≡ delivered
  pub written : now ≡ append_known old (all_octets frames)

pub running_none : (p : Parameters) (bits : List ℕ) (grid : Bool) (old : Option (List ℕ)) →
    Running p bits (record { grid = grid; place = 0; frames = [] }) 0 grid 0 old old
running_none p bits grid old = record { frames = []; reached = reaches_none p bits _; count = refl; written = sym (append_nothing old) }

-- what a look at a span says
abbrev pub Looks : Parameters → Bool → List ℕ → Look → Type 0
Looks p grid span look = look ≡ look_of grid (all_known span) (has_marker p span)

-- a span of that size at a place
abbrev window : List ℕ → ℕ → ℕ → List ℕ
window bits place size = slice_range bits place (place + size)

step_by : (p : Parameters) (bits : List ℕ) (place size : ℕ) (grid : Bool) (look : Look) (frames : List (List ℕ)) → size ≡ span_bits p → place + size ≤ length bits →
    Looks p grid (window bits place size) look →
    scan_step p bits (record { grid = grid; place = place; frames = frames })
    ≡ by_look size look (octets_of (drop 32 (window bits place size))) (record { grid = grid; place = place; frames = frames })
step_by p bits place size grid look frames z h l =
    let s : Standing = record { grid = grid; place = place; frames = frames } in
    let within : place + span_bits p ≤ length bits = omega arith in
    let looks : look ≡ look_of grid (all_known (window bits place (span_bits p))) (has_marker p (window bits place (span_bits p))) =
    subst (λ k. Looks p grid (window bits place k) look) z l in
    step_within p bits s within
    ∙ (step_by_look (span_bits p) grid _ _ _ s
    ∙ (ap (λ k. by_look (span_bits p) k (octets_of (drop 32 (window bits place (span_bits p)))) s) (sym looks)
    ∙ ap (λ k. by_look k look (octets_of (drop 32 (window bits place k))) s) (sym z)))

frame_reached : (p : Parameters) (bits : List ℕ) (start : Standing) (place size : ℕ) (grid : Bool) (frames : List (List ℕ)) (frame : List ℕ) →
    size ≡ span_bits p → place + size ≤ length bits → Looks p grid (window bits place size) Frame →
    frame ≡ octets_of (drop 32 (window bits place size)) → Reaches p bits start (record { grid = grid; place = place; frames = frames }) →
    Reaches p bits start (record { grid = true; place = place + size; frames = frames ++ frame ∷ [] })
frame_reached p bits start place size grid frames frame z h l e r =
    reaches_more p bits start _ _ r (step_by p bits place size grid Frame frames z h l
    ∙ ap (λ f. by_look size Frame f (record { grid = grid; place = place; frames = frames })) (sym e))

-- a frame that was put
pub running_frame : (p : Parameters) (bits : List ℕ) (start : Standing) (place size : ℕ) (grid : Bool) (n : ℕ) (old mid new : Option (List ℕ)) (frame : List ℕ) →
    size ≡ span_bits p → place + size ≤ length bits → Looks p grid (slice_range bits place (place + size)) Frame →
    frame ≡ octets_of (drop 32 (slice_range bits place (place + size))) → new ≡ append_known mid frame →
    Running p bits start place grid n old mid → Running p bits start (place + size) true (n + 1) old new
running_frame p bits start place size grid n old mid new frame z h l e w r = record {
  frames = r.frames ++ frame ∷ [];
  reached = frame_reached p bits start place size grid r.frames frame z h l e r.reached;
  count = length-append r.frames (frame ∷ []) ∙ omega (arith, r.count);
  written = all_after old mid new (all_octets r.frames) frame r.written w ∙ ap (append_known old) (sym (all_octets-push r.frames frame));
}

pub running_gap : (p : Parameters) (bits : List ℕ) (start : Standing) (place size : ℕ) (grid : Bool) (n : ℕ) (old now : Option (List ℕ)) →
    size ≡ span_bits p → place + size ≤ length bits → Looks p grid (slice_range bits place (place + size)) Gap →
    Running p bits start place grid n old now → Running p bits start (place + size) true n old now
running_gap p bits start place size grid n old now z h l r = record {
  frames = r.frames;
  reached = reaches_more p bits start _ _ r.reached (step_by p bits place size grid Gap r.frames z h l);
  count = r.count;
  written = r.written;
}

pub running_other : (p : Parameters) (bits : List ℕ) (start : Standing) (place size : ℕ) (grid : Bool) (n : ℕ) (old now : Option (List ℕ)) →
    size ≡ span_bits p → place + size ≤ length bits → Looks p grid (slice_range bits place (place + size)) Other →
    Running p bits start place grid n old now → Running p bits start (place + 1) false n old now
running_other p bits start place size grid n old now z h l r = record {
  frames = r.frames;
  reached = reaches_more p bits start _ _ r.reached (step_by p bits place size grid Other r.frames z h l);
  count = r.count;
  written = r.written;
}

-- at the end
pub running_ends : (p : Parameters) (bits : List ℕ) (start : Standing) (place : ℕ) (grid : Bool) (n : ℕ) (old now : Option (List ℕ)) →
    length bits < place + span_bits p → (r : Running p bits start place grid n old now) →
    scan_from p bits start ≡ record { grid = grid; place = place; frames = r.frames }
running_ends p bits start place grid n old now h r = reaches_end p bits start _ r.reached h

-- a frame that was put in part
pub running_part : (p : Parameters) (bits : List ℕ) (start : Standing) (place size : ℕ) (grid : Bool) (n : ℕ) (old mid new : Option (List ℕ)) (frame : List ℕ) →
    size ≡ span_bits p → place + size ≤ length bits → Looks p grid (slice_range bits place (place + size)) Frame →
    frame ≡ octets_of (drop 32 (slice_range bits place (place + size))) → GrowsByFront mid new frame →
    Running p bits start place grid n old mid → GrowsByFront old new (all_octets (scan_from p bits start).frames)
running_part p bits start place size grid n old mid new frame z h l e g r =
    let rest : (more : List (List ℕ)) × ((scan_from p bits start).frames ≡ (r.frames ++ frame ∷ []) ++ more) =
    frames_more p bits start _ (frame_reached p bits start place size grid r.frames frame z h l e r.reached) in
    let all : (all_octets r.frames ++ frame) ++ all_octets rest.0 ≡ all_octets (scan_from p bits start).frames =
    sym (ap all_octets rest.1 ∙ (all_octets-append (r.frames ++ frame ∷ []) rest.0 ∙ ap (λ xs. xs ++ all_octets rest.0) (all_octets-push r.frames frame))) in
    subst (GrowsByFront old new) all
    (front_before old new (all_octets r.frames ++ frame) (all_octets rest.0) (front_after old mid new (all_octets r.frames) frame r.written g))
