-- A scan and the blocks after which it stands.
use Rattle.std.proofs.Common.{◌≡◌, ◌≤◌, ◌+◌, ◌++◌, ℕ, List, [], ◌∷◌, length, drop, ap, sym, ◌∙◌, refl, arith, Bool, false, append-nil, length-append}
use Rattle.std.specs.declared.option.Option.{Option}
use Rattle.std.proofs.lemmas.List.{drop_at, drop-drop, drop-append-le}
use Rattle.std.proofs.lemmas.List.Concat.{flat_map-append}
use Rattle.hpe_base.specs.Parameters.{Parameters, block_bits}
use Rattle.hpe_base.specs.FrameScan.{Standing, scan_from, scan_start, delivered_frames, marks_of, delivered, block_marks}
use Rattle.hpe_base.proofs.FrameScan.{scan-none, scan_within, scan_goes_on, later}
use Rattle.hpe_frame.specs.Scanning.{Scanning, HasScanned, newly, scanned}
use Rattle.hpe_frame.specs.Looking.{StandsAt}
use Rattle.hpe_frame.proofs.Running.{all_octets, all_octets-append}

-- the marks of one more block
marks-push : (p : Parameters) (blocks : List (Option (List ℕ))) (block : Option (List ℕ)) →
    marks_of p (blocks ++ block ∷ []) ≡ marks_of p blocks ++ block_marks (block_bits p.rate) block
marks-push p blocks block =
    flat_map-append (block_marks (block_bits p.rate)) blocks (block ∷ []) ∙ ap (λ xs. marks_of p blocks ++ xs) (append-nil (block_marks (block_bits p.rate) block))

-- the scan of what is held and one more block
abbrev onward : Parameters → Bool → List ℕ → Option (List ℕ) → Standing
onward p grid held block = scan_from p (held ++ block_marks (block_bits p.rate) block) (record { grid = grid; place = 0; frames = [] })

-- the bits that are held after some blocks
abbrev rest : Parameters → List (Option (List ℕ)) → List ℕ
rest p blocks = drop (scanned p blocks).place (marks_of p blocks)

scanned_within : (p : Parameters) (blocks : List (Option (List ℕ))) → (scanned p blocks).place ≤ length (marks_of p blocks)
scanned_within p blocks = scan_within p (marks_of p blocks) (length (marks_of p blocks)) scan_start (omega arith)

-- the scan of one more block goes on from what is held
scanned-push : (p : Parameters) (blocks : List (Option (List ℕ))) (block : Option (List ℕ)) →
    scanned p (blocks ++ block ∷ []) ≡ later (scanned p blocks).place (scanned p blocks).frames (onward p (scanned p blocks).grid (rest p blocks) block)
scanned-push p blocks block =
    ap (λ marks. scan_from p marks scan_start) (marks-push p blocks block)
    ∙ scan_goes_on p (marks_of p blocks) (block_marks (block_bits p.rate) block) scan_start (scanned p blocks) refl (scanned_within p blocks)

octets-push : (p : Parameters) (blocks : List (Option (List ℕ))) (block : Option (List ℕ)) →
    delivered p (blocks ++ block ∷ []) ≡ delivered p blocks ++ all_octets (onward p (scanned p blocks).grid (rest p blocks) block).frames
octets-push p blocks block =
    ap (λ (t : Standing). all_octets t.frames) (scanned-push p blocks block) ∙ all_octets-append (delivered_frames p blocks) _

-- what one more block delivers
newly_is : (p : Parameters) (blocks : List (Option (List ℕ))) (block : Option (List ℕ)) →
    newly p blocks block ≡ all_octets (onward p (scanned p blocks).grid (rest p blocks) block).frames
newly_is p blocks block =
    ap (drop (length (delivered p blocks))) (octets-push p blocks block) ∙ drop_at (delivered p blocks) _ (length (delivered p blocks)) refl

-- comes behind all that was delivered before
pub delivered-push : (p : Parameters) (blocks : List (Option (List ℕ))) (block : Option (List ℕ)) →
    delivered p (blocks ++ block ∷ []) ≡ delivered p blocks ++ newly p blocks block
delivered-push p blocks block = octets-push p blocks block ∙ ap (λ xs. delivered p blocks ++ xs) (sym (newly_is p blocks block))

-- a new scan
pub stands_new : (p : Parameters) (held : List ℕ) → held ≡ [] → HasScanned (record { parameters = p; grid = false; held = held; frames = 0; blocks = 0; spent = false }) []
stands_new p held e =
    let none : scanned p [] ≡ scan_start = scan-none p [] scan_start in
    record {
      grid = ap (λ (t : Standing). t.grid) (sym none);
      held = e ∙ ap (λ (t : Standing). drop t.place (marks_of p [])) (sym none);
      frames = ap (λ (t : Standing). length t.frames) (sym none);
      count = refl;
    }

-- one call, over plain variables: what was held with the new block's marks behind it is scanned
module _ (old : Scanning) (blocks : List (Option (List ℕ))) (block : Option (List ℕ)) (size : ℕ) (bits : List ℕ)
    (was : HasScanned old blocks) (whole : size ≡ block_bits old.parameters.rate) (more : bits ≡ old.held ++ block_marks size block) where
  abbrev pub now : Standing
  now = scan_from old.parameters bits (record { grid = old.grid; place = 0; frames = [] })

  marks : bits ≡ rest old.parameters blocks ++ block_marks (block_bits old.parameters.rate) block
  marks = more ∙ (ap (λ xs. xs ++ block_marks size block) was.held ∙ ap (λ k. rest old.parameters blocks ++ block_marks k block) whole)

  onward_is : onward old.parameters (scanned old.parameters blocks).grid (rest old.parameters blocks) block ≡ now
  onward_is =
      ap (λ xs. scan_from old.parameters xs (record { grid = (scanned old.parameters blocks).grid; place = 0; frames = [] })) (sym marks)
      ∙ ap (λ g. scan_from old.parameters bits (record { grid = g; place = 0; frames = [] })) (sym was.grid)

  all_is : scanned old.parameters (blocks ++ block ∷ []) ≡ later (scanned old.parameters blocks).place (scanned old.parameters blocks).frames now
  all_is = scanned-push old.parameters blocks block ∙ ap (later (scanned old.parameters blocks).place (scanned old.parameters blocks).frames) onward_is

  pub newly_step : newly old.parameters blocks block ≡ all_octets now.frames
  newly_step = newly_is old.parameters blocks block ∙ ap (λ (t : Standing). all_octets t.frames) onward_is

  module _ (at n : ℕ) (grid : Bool) (run : StandsAt at grid n now) where
    pub count_step : length (delivered_frames old.parameters (blocks ++ block ∷ [])) ≡ length (delivered_frames old.parameters blocks) + n
    count_step =
        ap (λ (t : Standing). length t.frames) all_is
        ∙ (length-append (delivered_frames old.parameters blocks) now.frames ∙ ap (λ k. length (delivered_frames old.parameters blocks) + k) run.delivered)

    held_step : drop (scanned old.parameters (blocks ++ block ∷ [])).place (marks_of old.parameters (blocks ++ block ∷ [])) ≡ drop at bits
    held_step =
        let p : Parameters = old.parameters in
        let place : ℕ = (scanned p blocks).place in
        ap (λ (t : Standing). drop t.place (marks_of p (blocks ++ block ∷ []))) all_is
        ∙ (ap (drop (place + now.place)) (marks-push p blocks block)
        ∙ (sym (drop-drop now.place place _)
        ∙ (ap (drop now.place) (drop-append-le place (marks_of p blocks) _ (scanned_within p blocks) ∙ sym marks) ∙ ap (λ k. drop k bits) run.at)))

    pub stands_step : (held : List ℕ) (spent : Bool) → held ≡ drop at bits →
        HasScanned (record { parameters = old.parameters; grid = grid; held = held; frames = old.frames + n; blocks = old.blocks + 1; spent = spent }) (blocks ++ block ∷ [])
    stands_step held spent h = record {
      grid = sym run.grid ∙ ap (λ (t : Standing). t.grid) (sym all_is);
      held = h ∙ sym held_step;
      frames = ap (λ k. k + n) was.frames ∙ sym count_step;
      count = ap (λ k. k + 1) was.count ∙ sym (length-append blocks (block ∷ []));
    }
