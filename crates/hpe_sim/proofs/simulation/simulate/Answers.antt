use Rattle.std.proofs.Common.{rules, ◌≡◌, ◌∙◌, ap, ap₂, sym, subst, arith, Ok, Err, List, ℕ, length}
use Rattle.std.proofs.lemmas.Result.{err_from_is_err_and}
use Rattle.std.specs.Io.KnownBytes.{append_known}
use Rattle.hpe_base.specs.Counts.{counts_of}
use Rattle.hpe_base.specs.MarkerSearch.{offset_of}
use Rattle.hpe_base.specs.Parameters.{Parameters}
use Rattle.hpe_io.specs.Devices.{GrowsByFront}
use Rattle.hpe_recv.specs.Receiving.{tallied}
use Rattle.hpe_sim.specs.Simulated.{sim_counts, summary}
use Rattle.hpe_sim.proofs.Made.{counts_few, length-counts_of-sim_counts}
use Rattle.hpe_sim.proofs.Outcomes.{answer_is, report_is, room_is, summed, unrisen, unsummed}
use Rattle.hpe_sim.proofs.simulation.simulate.Goals as goal
use Rattle.hpe_sim.proofs.simulation.simulate.Goals.{After-as_bytes}

-- ---- what the receiver needs

pub receive_counts-requires-clause-few : goal.receive_counts-requires-clause-few
receive_counts-requires-clause-few g c κs within =
    let p = c.args.p.now in
    let slots = c.slot_count-slots in
    let few = counts_few p c.args.task.now slots.ensures.valid (omega (arith, slots.ensures.slots, c.if-slots-limit.false, c.requires.limit.1)) in
    omega (arith, few, ap (λ (l : List ℕ). length l) c.in_ok-octets.ensures.input)

pub receive_counts-requires-clause-room : goal.receive_counts-requires-clause-room
receive_counts-requires-clause-room g c κs within =
    let p = c.args.p.now in
    let b = c.in_ok-octets.ensures in
    let bench = c.in_ok-octets.field-0 in
    let slots = c.slot_count-slots in
    room_is p bench.receiver.parameters (sim_counts p c.args.task.now) bench.input.left slots.result bench.frames.room slots.ensures.valid
    (length-counts_of-sim_counts p c.args.task.now slots.ensures.valid ∙ sym slots.ensures.slots) b.receiver.0 b.input b.room

-- ---- the report failed, or there is no marker

pub returns-in_err-tally-clause-answer : goal.returns-in_err-tally-clause-answer
returns-in_err-tally-clause-answer g c =
    let e = err_from_is_err_and c.from_residual-in_err-tally.result c.from_residual-in_err-tally.ensures.1 in
    let b = c.in_ok-octets.ensures in
    let bench = c.in_ok-octets.field-0 in
    rw (e.1, e.2) (answer_is c.args.p.now bench.receiver.parameters (sim_counts c.args.p.now c.args.task.now) bench.input.left (Err c.in_err-tally.field-0.0) b.receiver.0 b.input c.in_err-tally.ensures.answer)

pub returns-in_err-tally-clause-report : goal.returns-in_err-tally-clause-report
returns-in_err-tally-clause-report g c =
    let e = err_from_is_err_and c.from_residual-in_err-tally.result c.from_residual-in_err-tally.ensures.1 in
    let b = c.in_ok-octets.ensures in
    let bench = c.in_ok-octets.field-0 in
    rw (e.1, e.2) (report_is g.R.Sink.written c.args.report.now c.receive_counts.new.report c.args.p.now bench.receiver.parameters (sim_counts c.args.p.now c.args.task.now) bench.input.left
    (Err c.in_err-tally.field-0.0) b.receiver.0 b.input c.in_err-tally.ensures.report)

pub returns-in_err-tally-clause-output : goal.returns-in_err-tally-clause-output
returns-in_err-tally-clause-output g c =
    let e = err_from_is_err_and c.from_residual-in_err-tally.result c.from_residual-in_err-tally.ensures.1 in
    rw (e.1, e.2) (unsummed g.O.Sink.written c.args.output.now (summary c.args.p.now c.args.task.now) c.in_err-tally.field-0.0 c.in_err-tally.ensures.others.0)

pub returns-in_err-tally-clause-report_cause : goal.returns-in_err-tally-clause-report_cause
returns-in_err-tally-clause-report_cause g c =
    let e = err_from_is_err_and c.from_residual-in_err-tally.result c.from_residual-in_err-tally.ensures.1 in
    rw (e.1, e.2) c.in_err-tally.ensures.cause

pub returns-in_err-tally-clause-output_cause : goal.returns-in_err-tally-clause-output_cause
returns-in_err-tally-clause-output_cause g c =
    let e = err_from_is_err_and c.from_residual-in_err-tally.result c.from_residual-in_err-tally.ensures.1 in
    rw (e.1, e.2) (unrisen (g.O.Sink.faults c.args.output.now) c.in_err-tally.field-0.0 c.in_err-tally.ensures.others.0)

-- ---- the output failed

-- the line that is put is the summary
line_is : (g : _) (c : After-as_bytes g) → c.as_bytes.result.now ≡ summary c.args.p.now c.args.task.now
line_is g c =
    let b = c.in_ok-octets.ensures in
    let bench = c.in_ok-octets.field-0 in
    let h = c.in_ok-tally.ensures in
    let slots = c.slot_count-slots in
    let put : c.as_bytes.result.now ≡ c.summary_line.result.bytes = search rules in
    put ∙ summed c.args.p.now bench.receiver.parameters c.args.task.now (tallied c.in_ok-tally.tally) c.eq-same.result bench.input.left c.bytes.result.now c.as_slice.result.now
    c.summary_line.result.bytes slots.result bench.total slots.ensures.valid b.receiver.0 b.input h.answer.0 (c.bytes.ensures.value ∙ h.frames) (c.as_slice.ensures.value ∙ b.octets) c.eq-same.ensures
    slots.ensures.slots b.total c.summary_line.ensures.text

pub returns-in_err-put-clause-answer : goal.returns-in_err-put-clause-answer
returns-in_err-put-clause-answer g c =
    let e = err_from_is_err_and c.from_residual-in_err-put.result c.from_residual-in_err-put.ensures.1 in
    let b = c.in_ok-octets.ensures in
    rw (e.1, e.2) (λ dark. c.in_ok-tally.ensures.answer.1 (ap₂ (λ (x : Parameters) (l : List ℕ). offset_of x (counts_of x l)) b.receiver.0 b.input ∙ dark))

pub returns-in_err-put-clause-report : goal.returns-in_err-put-clause-report
returns-in_err-put-clause-report g c =
    let e = err_from_is_err_and c.from_residual-in_err-put.result c.from_residual-in_err-put.ensures.1 in
    let b = c.in_ok-octets.ensures in
    let bench = c.in_ok-octets.field-0 in
    rw (e.1, e.2) (report_is g.R.Sink.written c.args.report.now c.receive_counts.new.report c.args.p.now bench.receiver.parameters (sim_counts c.args.p.now c.args.task.now) bench.input.left
    (Ok c.in_ok-tally.tally) b.receiver.0 b.input c.in_ok-tally.ensures.report)

pub returns-in_err-put-clause-output : goal.returns-in_err-put-clause-output
returns-in_err-put-clause-output g c =
    let e = err_from_is_err_and c.from_residual-in_err-put.result c.from_residual-in_err-put.ensures.1 in
    rw (e.1, e.2) (subst (λ (l : List ℕ). GrowsByFront (g.O.Sink.written c.args.output.now) (g.O.Sink.written c.put.new.self) l)
    (line_is g (goal.at.returns-in_err-put-clause-output g c).After-as_bytes) c.in_err-put.ensures.bytes)

pub returns-in_err-put-clause-report_cause : goal.returns-in_err-put-clause-report_cause
returns-in_err-put-clause-report_cause g c =
    let e = err_from_is_err_and c.from_residual-in_err-put.result c.from_residual-in_err-put.ensures.1 in
    rw (e.1, e.2) c.in_ok-tally.ensures.cause

pub returns-in_err-put-clause-output_cause : goal.returns-in_err-put-clause-output_cause
returns-in_err-put-clause-output_cause g c =
    let e = err_from_is_err_and c.from_residual-in_err-put.result c.from_residual-in_err-put.ensures.1 in
    rw (e.1, e.2) c.in_err-put.ensures.cause.failed

-- ---- all was put

pub returns-clause-output : goal.returns-clause-output
returns-clause-output g c =
    c.in_ok-put.ensures.bytes ∙ ap (λ (l : List ℕ). append_known (g.O.Sink.written c.args.output.now) l) (line_is g (goal.at.returns-clause-output g c).After-as_bytes)
