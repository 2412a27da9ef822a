-- Sinks in memory that have failed.
use Rattle.std.proofs.Common.{◌≡◌, ◌≤◌, ◌<◌, ◌∙◌, ◌++◌, ℕ, List, [], length, take, Some, arith, ap, ap₂, subst, length-append}
use Rattle.std.proofs.lemmas.List.{length-take}
use Rattle.hpe_io.specs.Devices.{Rose, GrowsByFront}
use Rattle.hpe_io.specs.Memory.{Store, mark_of, mark_in}
use Rattle.hpe_io.specs.contracts.mem_sink.MemSink.{the_invariant, the_view}
use Rattle.hpe_io.specs.declared.mem_sink.MemSink.TheInside.{Inside}
use Rattle.hpe_io.proofs.Marks.{mark_in-none}

-- a sink that failed, though no call was to fail, is full
pub full_inside : (i : Inside) (s : Store) → the_view i ≡ s → the_invariant i → s.failing ≡ [] → 0 < s.faults → length s.bytes ≡ s.room
full_inside i s v h = subst (λ (x : Store). x.failing ≡ [] → 0 < x.faults → length x.bytes ≡ x.room) v (λ none some. omega (arith, h.2 none some, i.bytes.ok.0))

-- a sink before calls and after them: it began empty with so much room, and no call was to fail
pub record HasRoom (room : ℕ) (old new : Store) : Type 0 where
  pub empty : old.bytes ≡ []
  pub none : old.failing ≡ []
  pub size : old.room ≡ room
  pub mark : mark_of new ≡ mark_of old
  pub full : new.failing ≡ [] → 0 < new.faults → length new.bytes ≡ new.room

-- where it failed it is full, so at least as much was due
pub room_is_short : (due : List ℕ) (room : ℕ) (old new : Store) → HasRoom room old new → Rose old.faults new.faults → GrowsByFront (Some old.bytes) (Some new.bytes) due
    → room ≤ length due
room_is_short due room old new h rose grown =
    let m : mark_of new ≡ mark_in [] room = h.mark ∙ ap₂ mark_in h.none h.size in
    let sink = mark_in-none new.failing new.room room m in
    let one : 0 < new.faults = omega arith in
    let filled : length new.bytes ≡ room = h.full sink.0 one ∙ sink.1 in
    let w : Some new.bytes ≡ Some (old.bytes ++ take grown.0 due) = grown.2 in
    let written : new.bytes ≡ old.bytes ++ take grown.0 due = cc in
    omega (
      arith,
      ap (λ (l : List ℕ). length l) written,
      length-append old.bytes (take grown.0 due),
      length-take grown.0 due,
      ap (λ (l : List ℕ). length l) h.empty,
    )
