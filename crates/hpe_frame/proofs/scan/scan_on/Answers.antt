use Rattle.std.proofs.Common.{rules, ◌<◌, ◌+◌, ◌∙◌, sym, ap, arith, length, refl}
use Rattle.std.proofs.lemmas.List.{take_rest}
use Rattle.std.proofs.lemmas.List.Elements.{All-take, All-drop}
use Rattle.std.proofs.lemmas.Result.{err_from_is_err_and}
use Rattle.std.specs.List.{slice_range}
use Rattle.std.specs.Io.KnownBytes.{append_known}
use Rattle.hpe_base.specs.FrameScan.{Standing, octets_of}
use Rattle.hpe_frame.proofs.Running.{running_none, running_frame, running_gap, running_other, running_ends, running_part, all_octets}
use Rattle.hpe_frame.proofs.scan.scan_on.Goals as goal

pub loop-run-init : goal.loop-run-init
loop-run-init g c = record { running = running_none _ _ _ _; within = omega arith; few = omega arith; size = refl; sink = search rules }

pub fill_octets-requires-clause-bits : goal.fill_octets-requires-clause-bits
fill_octets-requires-clause-bits g c = All-take (λ b. b < 2) _ _ (All-drop (λ b. b < 2) 32 _ (c.in-Frame.ensures.known refl))

pub loop-run-preserved-in-Frame : goal.loop-run-preserved-in-Frame
loop-run-preserved-in-Frame g c = record {
  running = running_frame _ _ _ _ _ _ _ _ _ _ _ c.span_bits-span.ensures.value (omega arith) c.in-Frame.ensures.value (c.fill_octets.ensures ∙ ap octets_of (take_rest (slice_range c.args.bits.now c.loop-run.run.at (c.loop-run.run.at + c.span_bits-span.result)) 32)) c.in_ok-put-in-Frame.ensures.bytes c.loop-run.invariant.running;
  within = omega arith;
  few = omega arith;
  size = omega arith;
  sink = search rules;
}

pub loop-run-preserved-in-Gap : goal.loop-run-preserved-in-Gap
loop-run-preserved-in-Gap g c = record {
  running = running_gap _ _ _ _ _ _ _ _ _ c.span_bits-span.ensures.value (omega arith) c.in-Gap.ensures.value c.loop-run.invariant.running;
  within = omega arith;
  few = omega arith;
  size = omega arith;
  sink = search rules;
}

pub loop-run-preserved : goal.loop-run-preserved
loop-run-preserved g c = record {
  running = running_other _ _ _ _ _ _ _ _ _ c.span_bits-span.ensures.value (omega arith) c.in-Other.ensures.value c.loop-run.invariant.running;
  within = omega arith;
  few = omega arith;
  size = omega arith;
  sink = search rules;
}

pub returns-in_err-put-in-Frame-clause-bytes : goal.returns-in_err-put-in-Frame-clause-bytes
returns-in_err-put-in-Frame-clause-bytes g c =
    let e = err_from_is_err_and c.from_residual.result c.from_residual.ensures.1 in
    rw (e.1) (running_part _ _ _ _ _ _ _ _ _ _ _ c.span_bits-span.ensures.value (omega arith) c.in-Frame.ensures.value (c.fill_octets.ensures ∙ ap octets_of (take_rest (slice_range c.args.bits.now c.loop-run.run.at (c.loop-run.run.at + c.span_bits-span.result)) 32)) c.in_err-put-in-Frame.ensures.bytes c.loop-run.invariant.running)

pub returns-clause-run : goal.returns-clause-run
returns-clause-run g c =
    let end = running_ends _ _ _ _ _ _ _ _ (omega arith) c.loop-run.invariant.running in
    record {
      at = ap (λ (s : Standing). s.place) end;
      grid = ap (λ (s : Standing). s.grid) end;
      delivered = ap (λ (s : Standing). length s.frames) end ∙ c.loop-run.invariant.running.count;
    }

pub returns-clause-bytes : goal.returns-clause-bytes
returns-clause-bytes g c =
    let end = running_ends _ _ _ _ _ _ _ _ (omega arith) c.loop-run.invariant.running in
    c.loop-run.invariant.running.written ∙ ap (λ (s : Standing). append_known (g.O.Sink.written c.args.out.now) (all_octets s.frames)) (sym end)
