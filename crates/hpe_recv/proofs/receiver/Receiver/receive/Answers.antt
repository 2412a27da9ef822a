use Rattle.std.proofs.Common.{◌≡◌, ◌+◌, ◌/◌, ◌∙◌, ap, sym, subst, arith, refl, ℕ, Err, List, length}
use Rattle.std.proofs.Math.Nat.{div-le_self}
use Rattle.std.proofs.lemmas.Result.{err_from_is_err_and}
use Rattle.hpe_io.proofs.Taking.{come_count, come_most}
use Rattle.hpe_base.specs.MarkerSearch.{offset_of, Dark}
use Rattle.hpe_base.specs.Parameters.{IsValid}
use Rattle.hpe_base.specs.Counts.{counts_of}
use Rattle.hpe_base.specs.Decoded.{tally_of}
use Rattle.hpe_recv.specs.Counting.{HasCounted}
use Rattle.hpe_recv.proofs.Counting.{counted_count}
use Rattle.hpe_recv.proofs.Caused.{fault_left, left_read, left_after}
use Rattle.hpe_recv.proofs.Offsets.{found-at, found-dark, found-other, found-settled, found-ended, short-ended}
use Rattle.hpe_recv.proofs.Outcomes.{cut_of, stands_of, too_long_of}
use Rattle.hpe_recv.proofs.Received.{part_none, lines_none, part-of, lines-of, receives-of, part_taken, all_taken, part_grows, all_grow}
use Rattle.hpe_recv.proofs.receiver.Receiver.receive.Goals as goal

pub search-requires-clause-come : goal.search-requires-clause-come
search-requires-clause-come g c =
    let new = c.self.invariant.new (ap (λ r. r.fresh) c.self.view_is ∙ c.requires.fresh) in
    subst (λ (l : List ℕ). HasCounted c.begin.new.self (g.I.Source.left c.args.input.now) (g.I.Source.left c.args.input.now) l) (sym new.counts) (c.begin.ensures.come _)

-- ---- the input failed, or is too long, before the search was settled

pub returns-in_err-found-clause-cut : goal.returns-in_err-found-clause-cut
returns-in_err-found-clause-cut g c =
    let e = err_from_is_err_and c.from_residual.result c.from_residual.ensures.1 in
    let h = c.in_err-found.ensures in
    let limit = h.intake.same_limit ∙ ap (λ s. s.limit) c.begin.ensures.fresh in
    rw (e.1, e.2) (cut_of c.in_err-found.field-0.0 (part_none c.args.self.now.parameters _ c.args.limit _ _ _ _ _ limit (omega (arith, h.intake.most, limit, h.intake.same_limit)) h.stopped))

pub returns-in_err-found-clause-lines : goal.returns-in_err-found-clause-lines
returns-in_err-found-clause-lines g c =
    let e = err_from_is_err_and c.from_residual.result c.from_residual.ensures.1 in
    let h = c.in_err-found.ensures in
    let limit = h.intake.same_limit ∙ ap (λ s. s.limit) c.begin.ensures.fresh in
    rw (e.1, e.2) (stands_of {T = ℕ} c.in_err-found.field-0.0 (λ _. lines_none c.args.self.now.parameters _ c.args.limit _ _ _ _ limit h.stopped))

pub returns-in_err-found-clause-long : goal.returns-in_err-found-clause-long
returns-in_err-found-clause-long g c = λ too.
    let e = err_from_is_err_and c.from_residual.result c.from_residual.ensures.1 in
    let h = c.in_err-found.ensures in
    let limit = h.intake.same_limit ∙ ap (λ s. s.limit) c.begin.ensures.fresh in
    come_count _ _ _ h.stopped.stopped.all (c.args.limit + 1) h.stopped.stopped.come
    (omega (arith, h.long (too_long_of c.in_err-found.field-0.0 (sym (e.1 ∙ ap Err e.2) ∙ too)), limit, h.intake.same_limit))

pub returns-in_err-found-clause-cause : goal.returns-in_err-found-clause-cause
returns-in_err-found-clause-cause g c =
    let e = err_from_is_err_and c.from_residual.result c.from_residual.ensures.1 in
    rw (e.1, e.2) (fault_left c.in_err-found.field-0.0 _ _ _ _ _ _ (left_read c.in_err-found.field-0.0 _ _ _ _ c.in_err-found.ensures.cause))

pub returns-in_err-found-clause-taken : goal.returns-in_err-found-clause-taken
returns-in_err-found-clause-taken g c =
    let h = c.in_err-found.ensures in
    let limit = h.intake.same_limit ∙ ap (λ s. s.limit) c.begin.ensures.fresh in
    come_most _ _ _ h.stopped.stopped.all (c.args.limit + 1) h.stopped.stopped.come (omega (arith, h.intake.most, limit, h.intake.same_limit))

-- ---- a marker is found

pub receive_words-requires-clause-ready : goal.receive_words-requires-clause-ready
receive_words-requires-clause-ready g c = λ _ _.
    let new = c.self.invariant.new (ap (λ r. r.fresh) c.self.view_is ∙ c.requires.fresh) in
    let h = c.in_ok-found.ensures in
    let limit = h.intake.same_limit ∙ ap (λ s. s.limit) c.begin.ensures.fresh in
    let most = c.requires.limit.1 in
    let same = h.intake.same_parameters ∙ (c.begin.ensures.profile ∙ (c.self.invariant.intake ∙ sym h.profile)) in
    let count = sym (counted_count _ _ _ _ h.come) ∙ ap (λ p. c.search.new.intake.octets.taken / p.count_octets) same in
    record {
      profile = c.self.invariant.stream ∙ sym h.profile;
      stands = new.stands _ _;
      unspent = new.unspent;
      blocks = new.blocks;
      intake = same;
      count = count;
      few = omega (arith, count, div-le_self c.search.new.intake.octets.taken c.search.new.finder.parameters.count_octets);
      within = omega (arith, h.within, h.intake.same_limit);
      limit = omega (arith, limit, most);
    }

pub receive_words-requires-clause-found : goal.receive_words-requires-clause-found
receive_words-requires-clause-found g c = λ _ _ rest unless.
    let h = c.in_ok-found.ensures in (
      c.in-At.score,
      found-at _ c.in-At.offset c.in-At.score
          (sym c.in-At.is ∙ found-settled c.search.new.finder.parameters _ c.search.new.finder.counts c.in_ok-found.found _ (sym h.profile) h.room h.settled h.ended rest unless),
    )

pub returns-in_err-tally-in-At-clause-cut : goal.returns-in_err-tally-in-At-clause-cut
returns-in_err-tally-in-At-clause-cut g c =
    let e = err_from_is_err_and c.from_residual-in_err-tally-in-At.result c.from_residual-in_err-tally-in-At.ensures.1 in
    let h = c.in_ok-found.ensures in
    let same = h.profile ∙ ap (λ r. r.parameters) c.self.view_is in
    let limit = h.intake.same_limit ∙ ap (λ s. s.limit) c.begin.ensures.fresh in
    rw (e.1, e.2) (cut_of c.in_err-tally-in-At.field-0.0 (part-of c.args.self.now.parameters _ c.args.limit _ _ _ _ _ _ _ same limit (c.in_err-tally-in-At.ensures.cut _ h.come)))

pub returns-in_err-tally-in-At-clause-lines : goal.returns-in_err-tally-in-At-clause-lines
returns-in_err-tally-in-At-clause-lines g c =
    let e = err_from_is_err_and c.from_residual-in_err-tally-in-At.result c.from_residual-in_err-tally-in-At.ensures.1 in
    let h = c.in_ok-found.ensures in
    let same = h.profile ∙ ap (λ r. r.parameters) c.self.view_is in
    let limit = h.intake.same_limit ∙ ap (λ s. s.limit) c.begin.ensures.fresh in
    rw (e.1, e.2) (stands_of c.in_err-tally-in-At.field-0.0 (λ no. lines-of c.args.self.now.parameters _ c.args.limit _ _ _ _ _ same limit (c.in_err-tally-in-At.ensures.lines _ h.come no)))

pub returns-in_err-tally-in-At-clause-long : goal.returns-in_err-tally-in-At-clause-long
returns-in_err-tally-in-At-clause-long g c = λ too.
    let e = err_from_is_err_and c.from_residual-in_err-tally-in-At.result c.from_residual-in_err-tally-in-At.ensures.1 in
    let h = c.in_ok-found.ensures in
    let limit = h.intake.same_limit ∙ ap (λ s. s.limit) c.begin.ensures.fresh in
    rw limit at (c.in_err-tally-in-At.ensures.long _ h.come (too_long_of c.in_err-tally-in-At.field-0.0 (sym (e.1 ∙ ap Err e.2) ∙ too)))

pub returns-in_err-tally-in-At-clause-cause : goal.returns-in_err-tally-in-At-clause-cause
returns-in_err-tally-in-At-clause-cause g c =
    let e = err_from_is_err_and c.from_residual-in_err-tally-in-At.result c.from_residual-in_err-tally-in-At.ensures.1 in
    rw (e.1, e.2) (fault_left c.in_err-tally-in-At.field-0.0 _ _ _ _ _ _ (left_after c.in_err-tally-in-At.field-0.0 _ _ _ _ _ _ _ _ _ c.in_ok-found.ensures.cause refl refl c.in_err-tally-in-At.ensures.cause))

pub returns-in_err-tally-in-At-clause-taken : goal.returns-in_err-tally-in-At-clause-taken
returns-in_err-tally-in-At-clause-taken g c =
    let h = c.in_ok-found.ensures in
    let limit = h.intake.same_limit ∙ ap (λ s. s.limit) c.begin.ensures.fresh in
    rw limit at (part_taken _ _ _ _ _ _ _ _ (c.in_err-tally-in-At.ensures.cut _ h.come))

pub returns-in_err-tally-in-At-clause-grow : goal.returns-in_err-tally-in-At-clause-grow
returns-in_err-tally-in-At-clause-grow g c = part_grows _ _ _ _ _ _ _ _ (c.in_err-tally-in-At.ensures.cut _ c.in_ok-found.ensures.come)

pub returns-in_ok-tally-in-At-clause-ok : goal.returns-in_ok-tally-in-At-clause-ok
returns-in_ok-tally-in-At-clause-ok g c =
    let h = c.in_ok-found.ensures in
    let same = h.profile ∙ ap (λ r. r.parameters) c.self.view_is in
    let limit = h.intake.same_limit ∙ ap (λ s. s.limit) c.begin.ensures.fresh in
    let t = c.in_ok-tally-in-At.ensures.ok _ h.come in (
      t.0,
      receives-of c.args.self.now.parameters _ c.args.limit _ _ _ _ _ _ _ t.0 same limit t.1,
      t.2 ∙ ap (λ p. tally_of p t.0) same,
      λ dark. t.3 (ap (λ p. offset_of p (counts_of p t.0)) same ∙ dark),
    )

pub returns-in_ok-tally-in-At-clause-cause : goal.returns-in_ok-tally-in-At-clause-cause
returns-in_ok-tally-in-At-clause-cause g c =
    let k = c.in_ok-tally-in-At.ensures.cause in (k.0 ∙ c.in_ok-found.ensures.cause, k.1, k.2)

pub returns-in_ok-tally-in-At-clause-taken : goal.returns-in_ok-tally-in-At-clause-taken
returns-in_ok-tally-in-At-clause-taken g c =
    let h = c.in_ok-found.ensures in
    let limit = h.intake.same_limit ∙ ap (λ s. s.limit) c.begin.ensures.fresh in
    let t = c.in_ok-tally-in-At.ensures.ok _ h.come in
    rw limit at (all_taken _ _ _ _ _ _ _ _ t.0 t.1)

pub returns-in_ok-tally-in-At-clause-grow : goal.returns-in_ok-tally-in-At-clause-grow
returns-in_ok-tally-in-At-clause-grow g c = all_grow _ _ _ _ _ _ _ _ _ (c.in_ok-tally-in-At.ensures.ok _ c.in_ok-found.ensures.come).1

-- ---- all is dark

pub receive_dark-requires-clause-profile : goal.receive_dark-requires-clause-profile
receive_dark-requires-clause-profile g c =
    let h = c.in_ok-found.ensures in h.intake.same_parameters ∙ (c.begin.ensures.profile ∙ (c.self.invariant.intake ∙ sym h.profile))

pub receive_dark-requires-clause-found : goal.receive_dark-requires-clause-found
receive_dark-requires-clause-found g c = λ rest unless.
    let h = c.in_ok-found.ensures in
    found-dark _ (sym c.in-Dark.is ∙ found-settled c.search.new.finder.parameters _ c.search.new.finder.counts c.in_ok-found.found _ (sym h.profile) h.room h.settled h.ended rest unless)

pub returns-in_err-counts-in-Dark-clause-cut : goal.returns-in_err-counts-in-Dark-clause-cut
returns-in_err-counts-in-Dark-clause-cut g c =
    let e = err_from_is_err_and c.from_residual-in_err-counts-in-Dark.result c.from_residual-in_err-counts-in-Dark.ensures.1 in
    let h = c.in_ok-found.ensures in
    let same = h.profile ∙ ap (λ r. r.parameters) c.self.view_is in
    let limit = h.intake.same_limit ∙ ap (λ s. s.limit) c.begin.ensures.fresh in
    rw (e.1, e.2) (cut_of c.in_err-counts-in-Dark.field-0.0 (part-of c.args.self.now.parameters _ c.args.limit _ _ _ _ _ _ _ same limit (c.in_err-counts-in-Dark.ensures.cut _ _ h.come)))

pub returns-in_err-counts-in-Dark-clause-lines : goal.returns-in_err-counts-in-Dark-clause-lines
returns-in_err-counts-in-Dark-clause-lines g c =
    let e = err_from_is_err_and c.from_residual-in_err-counts-in-Dark.result c.from_residual-in_err-counts-in-Dark.ensures.1 in
    let h = c.in_ok-found.ensures in
    let same = h.profile ∙ ap (λ r. r.parameters) c.self.view_is in
    let limit = h.intake.same_limit ∙ ap (λ s. s.limit) c.begin.ensures.fresh in
    rw (e.1, e.2) (stands_of c.in_err-counts-in-Dark.field-0.0 (λ no. lines-of c.args.self.now.parameters _ c.args.limit _ _ _ _ _ same limit (c.in_err-counts-in-Dark.ensures.lines _ h.come no)))

pub returns-in_err-counts-in-Dark-clause-long : goal.returns-in_err-counts-in-Dark-clause-long
returns-in_err-counts-in-Dark-clause-long g c = λ too.
    let e = err_from_is_err_and c.from_residual-in_err-counts-in-Dark.result c.from_residual-in_err-counts-in-Dark.ensures.1 in
    let h = c.in_ok-found.ensures in
    let limit = h.intake.same_limit ∙ ap (λ s. s.limit) c.begin.ensures.fresh in
    rw limit at (c.in_err-counts-in-Dark.ensures.long _ h.come (too_long_of c.in_err-counts-in-Dark.field-0.0 (sym (e.1 ∙ ap Err e.2) ∙ too)))

pub returns-in_err-counts-in-Dark-clause-cause : goal.returns-in_err-counts-in-Dark-clause-cause
returns-in_err-counts-in-Dark-clause-cause g c =
    let e = err_from_is_err_and c.from_residual-in_err-counts-in-Dark.result c.from_residual-in_err-counts-in-Dark.ensures.1 in
    rw (e.1, e.2) (fault_left c.in_err-counts-in-Dark.field-0.0 _ _ _ _ _ _ (left_after c.in_err-counts-in-Dark.field-0.0 _ _ _ _ _ _ _ _ _ c.in_ok-found.ensures.cause refl refl (c.in_err-counts-in-Dark.ensures.cause _)))

pub returns-in_err-counts-in-Dark-clause-taken : goal.returns-in_err-counts-in-Dark-clause-taken
returns-in_err-counts-in-Dark-clause-taken g c =
    let h = c.in_ok-found.ensures in
    let limit = h.intake.same_limit ∙ ap (λ s. s.limit) c.begin.ensures.fresh in
    rw limit at (part_taken _ _ _ _ _ _ _ _ (c.in_err-counts-in-Dark.ensures.cut (g.O.Sink.written c.args.frames.now) _ h.come))

pub returns-in_err-counts-in-Dark-clause-grow : goal.returns-in_err-counts-in-Dark-clause-grow
returns-in_err-counts-in-Dark-clause-grow g c =
    part_grows _ _ _ _ _ _ _ _ (c.in_err-counts-in-Dark.ensures.cut (g.O.Sink.written c.args.frames.now) _ c.in_ok-found.ensures.come)

pub returns-in_ok-counts-in-Dark-clause-no_marker : goal.returns-in_ok-counts-in-Dark-clause-no_marker
returns-in_ok-counts-in-Dark-clause-no_marker g c =
    let h = c.in_ok-found.ensures in
    let same = h.profile ∙ ap (λ r. r.parameters) c.self.view_is in
    let limit = h.intake.same_limit ∙ ap (λ s. s.limit) c.begin.ensures.fresh in
    let t = c.in_ok-counts-in-Dark.ensures.ok (g.O.Sink.written c.args.frames.now) _ h.come in (
      t.0,
      receives-of c.args.self.now.parameters _ c.args.limit _ _ _ _ _ _ _ t.0 same limit t.1,
      t.2 ∙ ap (λ p. length (counts_of p t.0)) same,
      subst (λ p. offset_of p (counts_of p t.0) ≡ Dark) same t.3,
      refl,
    )

pub returns-in_ok-counts-in-Dark-clause-cause : goal.returns-in_ok-counts-in-Dark-clause-cause
returns-in_ok-counts-in-Dark-clause-cause g c =
    let k = c.in_ok-counts-in-Dark.ensures.cause (g.O.Sink.faults c.args.frames.now) in (k.0 ∙ c.in_ok-found.ensures.cause, refl, k.2)

pub returns-in_ok-counts-in-Dark-clause-taken : goal.returns-in_ok-counts-in-Dark-clause-taken
returns-in_ok-counts-in-Dark-clause-taken g c =
    let h = c.in_ok-found.ensures in
    let limit = h.intake.same_limit ∙ ap (λ s. s.limit) c.begin.ensures.fresh in
    let t = c.in_ok-counts-in-Dark.ensures.ok (g.O.Sink.written c.args.frames.now) _ h.come in
    rw limit at (all_taken _ _ _ _ _ _ _ _ t.0 t.1)

pub returns-in_ok-counts-in-Dark-clause-grow : goal.returns-in_ok-counts-in-Dark-clause-grow
returns-in_ok-counts-in-Dark-clause-grow g c =
    all_grow _ _ _ _ _ _ _ _ _ (c.in_ok-counts-in-Dark.ensures.ok (g.O.Sink.written c.args.frames.now) _ c.in_ok-found.ensures.come).1

-- ---- the input is shorter than a period

pub receive_short-requires : goal.receive_short-requires
receive_short-requires g c =
    let h = c.in_ok-found.ensures in
    record {
      profile = h.intake.same_parameters ∙ (c.begin.ensures.profile ∙ (c.self.invariant.intake ∙ sym h.profile));
      within = omega (arith, h.within, h.intake.same_limit);
      found = found-other c.in_ok-found.found _ c.in-Short.is
          (found-ended c.search.new.finder.parameters _ c.search.new.finder.counts c.in_ok-found.found _ (sym h.profile) h.room h.settled h.ended);
    }

pub returns-in_err-tally-in-Short-clause-cut : goal.returns-in_err-tally-in-Short-clause-cut
returns-in_err-tally-in-Short-clause-cut g c =
    let e = err_from_is_err_and c.from_residual-in_err-tally-in-Short.result c.from_residual-in_err-tally-in-Short.ensures.1 in
    let h = c.in_ok-found.ensures in
    let same = h.profile ∙ ap (λ r. r.parameters) c.self.view_is in
    let limit = h.intake.same_limit ∙ ap (λ s. s.limit) c.begin.ensures.fresh in
    rw (e.1, e.2) (cut_of c.in_err-tally-in-Short.field-0.0 (part-of c.args.self.now.parameters _ c.args.limit _ _ _ _ _ _ _ same limit (c.in_err-tally-in-Short.ensures.cut _ _ _ h.come)))

pub returns-in_err-tally-in-Short-clause-taken : goal.returns-in_err-tally-in-Short-clause-taken
returns-in_err-tally-in-Short-clause-taken g c =
    let h = c.in_ok-found.ensures in
    let limit = h.intake.same_limit ∙ ap (λ s. s.limit) c.begin.ensures.fresh in
    come_most _ _ _ h.come.octets (c.args.limit + 1) h.come.come (omega (arith, h.within, limit, h.intake.same_limit))

pub returns-in_err-tally-in-Short-clause-grow : goal.returns-in_err-tally-in-Short-clause-grow
returns-in_err-tally-in-Short-clause-grow g c =
    part_grows _ _ _ _ _ _ _ _ (c.in_err-tally-in-Short.ensures.cut (g.O.Sink.written c.args.frames.now) _ _ c.in_ok-found.ensures.come)

pub returns-in_ok-tally-in-Short-clause-ok : goal.returns-in_ok-tally-in-Short-clause-ok
returns-in_ok-tally-in-Short-clause-ok g c =
    let h = c.in_ok-found.ensures in
    let counts = c.search.new.finder.counts in
    let new = c.self.invariant.new (ap (λ r. r.fresh) c.self.view_is ∙ c.requires.fresh) in
    let valid = subst IsValid c.self.invariant.stream (new.stands (g.O.Sink.written c.args.frames.now) (g.R.Sink.written c.args.report.now)).came.passed.valid in
    let short = found-other c.in_ok-found.found _ c.in-Short.is (found-ended c.search.new.finder.parameters _ counts c.in_ok-found.found _ (sym h.profile) h.room h.settled h.ended) in
    let ended = short-ended c.search.new.finder.parameters _ counts c.in_ok-found.found _ (sym h.profile) valid short h.ended in
    let same = h.profile ∙ ap (λ r. r.parameters) c.self.view_is in
    let limit = h.intake.same_limit ∙ ap (λ s. s.limit) c.begin.ensures.fresh in
    let t = c.in_ok-tally-in-Short.ensures.ok (g.O.Sink.written c.args.frames.now) _ _ h.come ended in (
      t.0,
      receives-of c.args.self.now.parameters _ c.args.limit _ _ _ _ _ _ _ t.0 same limit t.1,
      t.2 ∙ ap (λ p. tally_of p t.0) same,
      λ dark. t.3 (ap (λ p. offset_of p (counts_of p t.0)) same ∙ dark),
    )

pub returns-in_ok-tally-in-Short-clause-taken : goal.returns-in_ok-tally-in-Short-clause-taken
returns-in_ok-tally-in-Short-clause-taken g c =
    let h = c.in_ok-found.ensures in
    let limit = h.intake.same_limit ∙ ap (λ s. s.limit) c.begin.ensures.fresh in
    come_most _ _ _ h.come.octets (c.args.limit + 1) h.come.come (omega (arith, h.within, limit, h.intake.same_limit))

pub returns-in_ok-tally-in-Short-clause-grow : goal.returns-in_ok-tally-in-Short-clause-grow
returns-in_ok-tally-in-Short-clause-grow g c = all_grow _ _ _ _ _ _ _ _ _ (returns-in_ok-tally-in-Short-clause-ok g c).1
