use Rattle.std.proofs.Common.{◌≡◌, ◌≤◌, ◌+◌, ◌*◌, ◌/◌, ◌++◌, ◌∙◌, length, take, drop, ℕ, List, ap, sym, subst, refl, arith, append-nil, length-append}
use Rattle.std.proofs.Math.Nat.{div-le_of_le-mul}
use Rattle.std.proofs.lemmas.List.{with_items_is, length-take}
use Rattle.hpe_base.specs.Counts.{counts_of}
use Rattle.hpe_recv.specs.Counting.{HasCounted, half_octets}
use Rattle.hpe_recv.proofs.Counting.{counted_none, counted_more, half_room, kept_less, few_more}
use Rattle.hpe_base.proofs.Counts.{length-counts_of}
use Rattle.hpe_recv.proofs.counts.CountIntake.next.Goals as goal

pub returns-then-not-branch-clause-come : goal.returns-then-not-branch-clause-come
returns-then-not-branch-clause-come g c = rw (← c.self.view_is) (λ start counts h.
    subst (HasCounted _ start _) (sym (append-nil counts)) (counted_none _ _ refl start _ _ counts h (c.in_ok-next.ensures.ended start h.octets h.come c.if-not-branch.true).0 refl))

pub returns-then-not-branch-clause-ended : goal.returns-then-not-branch-clause-ended
returns-then-not-branch-clause-ended g c = rw (← c.self.view_is) (λ start counts h _.
    let e = c.in_ok-next.ensures.ended start h.octets h.come c.if-not-branch.true in
    (counted_none _ _ refl start _ _ counts h e.0 refl, e.1))

pub read_behind-self-inside-requires-clause-room : goal.read_behind-self-inside-requires-clause-room
read_behind-self-inside-requires-clause-room g c =
    let piece = ap (λ (l : List ℕ). length l) c.piece.ensures in
    let room = ap (λ (l : List ℕ). length l) c.deref_mut.ensures.value in
    half_room c.self.inside.half c.self.inside.profile.count_octets c.min.result (length c.deref_mut.result.now) (length c.piece.result.now) c.self.invariant.half
    (omega (arith, c.min.ensures, c.requires)) (omega (arith, c.min.ensures, room, c.self.invariant.room))
    (rw (← c.count_octets.ensures.value, ← c.is_some.ensures) (omega (arith, piece, c.in_ok-next.ensures.most)))

pub invariant_of-self-2 : goal.invariant_of-self-2
invariant_of-self-2 g c =
    let h = c.read_behind-self-inside.ensures in
    let v = c.count_octets.ensures.valid.range in
    let room = ap (λ (l : List ℕ). length l) c.deref_mut.ensures.value in
    let size = ap (λ (l : List ℕ). length l) (with_items_is c.self.inside.counts c.read_behind-self-inside.new.counts (omega (arith, c.deref_mut.ensures.len, c.read_behind-self-inside.auto.counts))) in
    record {
      room = omega (arith, size, c.read_behind-self-inside.auto.counts, room, c.self.invariant.room);
      used = omega (arith, h.within, c.read_behind-self-inside.auto.counts, room, c.self.invariant.room);
      half = rw h.half (kept_less c.self.inside.profile c.read_behind-self-inside.result _ c.read_behind-self-inside.new.counts (omega (arith, v.count_octets_low)) h.counts h.within);
    }

pub returns-clause-come : goal.returns-clause-come
returns-clause-come g c = rw (← c.self.view_is) (λ start counts h.
    let r = c.read_behind-self-inside.ensures in
    let v = c.count_octets.ensures.valid.range in
    let p = c.self.inside.profile in
    let n = c.read_behind-self-inside.result in
    let items = with_items_is c.self.inside.counts c.read_behind-self-inside.new.counts (omega (arith, c.deref_mut.ensures.len, c.read_behind-self-inside.auto.counts)) in
    let size : length (take n c.read_behind-self-inside.new.counts) ≡ n = omega (arith, length-take n c.read_behind-self-inside.new.counts, r.within) in
    counted_more _ _ refl start _ _ counts h c.next.new.self.piece v.count_octets_low v.count_octets_high
    (c.in_ok-next.ensures.come start h.octets h.come)
    (ap (take n) items ∙ (r.counts ∙ ap (λ l. counts_of p (half_octets c.self.inside.half ++ l)) c.piece.ensures))
    (r.half
    ∙ (ap (λ l. drop (p.count_octets * n) (half_octets c.self.inside.half ++ l)) c.piece.ensures
    ∙ ap (λ k. drop (p.count_octets * k) (half_octets c.self.inside.half ++ c.next.new.self.piece)) (sym (ap (λ l. length (take n l)) items ∙ size)))))

pub returns-clause-most : goal.returns-clause-most
returns-clause-most g c =
    let r = c.read_behind-self-inside.ensures in
    let half = half_octets c.self.inside.half in
    let n = c.read_behind-self-inside.result in
    let w = c.self.inside.profile.count_octets in
    let piece = ap (λ (l : List ℕ). length l) c.piece.ensures in
    let long : length (take n c.read_behind-self-inside.new.counts) ≡ length (half ++ c.piece.result.now) / w =
    ap (λ (l : List ℕ). length l) r.counts ∙ length-counts_of c.self.inside.profile (half ++ c.piece.result.now) in
    let room : length half + length c.piece.result.now ≤ w * c.min.result =
    half_room c.self.inside.half w c.min.result c.min.result (length c.piece.result.now) c.self.invariant.half (omega (arith, c.min.ensures, c.requires)) (omega arith)
    (rw (← c.count_octets.ensures.value, ← c.is_some.ensures) (omega (arith, piece, c.in_ok-next.ensures.most))) in
    let fits : length (half ++ c.piece.result.now) / w ≤ c.min.result = div-le_of_le-mul w (omega (arith, length-append half c.piece.result.now)) in
    let items = with_items_is c.self.inside.counts c.read_behind-self-inside.new.counts (omega (arith, c.deref_mut.ensures.len, c.read_behind-self-inside.auto.counts)) in
    omega (arith, ap (λ (l : List ℕ). length (take n l)) items, c.min.ensures)

pub returns-clause-counted : goal.returns-clause-counted
returns-clause-counted g c =
    let r = c.read_behind-self-inside.ensures in
    let half = half_octets c.self.inside.half in
    let n = c.read_behind-self-inside.result in
    let w = c.self.inside.profile.count_octets in
    let piece = ap (λ (l : List ℕ). length l) c.piece.ensures in
    let long : length (take n c.read_behind-self-inside.new.counts) ≡ (length half + length c.piece.result.now) / w =
    ap (λ (l : List ℕ). length l) r.counts ∙ (length-counts_of c.self.inside.profile (half ++ c.piece.result.now) ∙ ap (λ k. k / w) (length-append half c.piece.result.now)) in
    let few = few_more c.self.inside.profile _ (length half) (length c.piece.result.now) long c.count_octets.ensures.valid.range.count_octets_low c.self.invariant.half in
    let items = with_items_is c.self.inside.counts c.read_behind-self-inside.new.counts (omega (arith, c.deref_mut.ensures.len, c.read_behind-self-inside.auto.counts)) in
    rw (← c.self.view_is) (omega (arith, ap (λ (l : List ℕ). length (take n l)) items, c.in_ok-next.ensures.counted, few, piece))
