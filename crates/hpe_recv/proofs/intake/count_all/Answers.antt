use Rattle.std.proofs.Common.{◌<◌, ◌≤◌, arith, length, []}
use Rattle.std.proofs.lemmas.Result.{on_err_weaker}
use Rattle.hpe_find.specs.Finding.{finder_room}
use Rattle.hpe_recv.proofs.Outcomes.{on_ok_both}
use Rattle.hpe_recv.proofs.Read.{ended_none, ended_all, broken_all}
use Rattle.hpe_recv.proofs.intake.count_all.Goals as goal

pub returns-then-room-gt0-clause-ok : goal.returns-then-room-gt0-clause-ok
returns-then-room-gt0-clause-ok g c = λ start come.
    let less : length c.args.finder.now.counts < finder_room c.args.finder.now.parameters = omega (arith, c.if-room-gt0.true, c.room.ensures.value) in
    ([], ended_none c.args.finder.now.parameters c.args.finder.now.counts c.args.intake.now start _ come c.requires.within (c.requires.ended less))

pub returns-clause-ok : goal.returns-clause-ok
returns-clause-ok g c = λ start come.
    let full : finder_room c.args.finder.now.parameters ≤ length c.args.finder.now.counts = omega (arith, c.if-room-gt0.false, c.room.ensures.value) in
    on_ok_both c.count_rest.result
    (λ t fits. (t.0, ended_all c.args.finder.now.parameters c.args.finder.now.counts c.count_rest.new.intake start _ t.0 full t.1 (omega (arith, fits, c.count_rest.ensures.intake.same_limit)) t.2))
    (c.count_rest.ensures.come start c.args.finder.now.counts come) c.count_rest.ensures.within

pub returns-clause-cut : goal.returns-clause-cut
returns-clause-cut g c = λ start come.
    let full : finder_room c.args.finder.now.parameters ≤ length c.args.finder.now.counts = omega (arith, c.if-room-gt0.false, c.room.ensures.value) in
    on_err_weaker c.count_rest.result
    (λ t. (t.0, broken_all c.args.finder.now.parameters c.args.finder.now.counts c.count_rest.new.intake start _ t.0 full t.1 (omega (arith, c.count_rest.ensures.intake.most, c.count_rest.ensures.intake.same_limit))))
    (c.count_rest.ensures.stopped start c.args.finder.now.counts come)
