use Rattle.std.proofs.Common.{◌≡◌, ◌∙◌, sym, arith, refl, false, true}
use Rattle.hpe_base.specs.FrameScan.{has_marker, all_known}
use Rattle.hpe_frame.proofs.SpanBits.{marker_known, look_search}
use Rattle.hpe_frame.proofs.span.look_at.Goals as goal

pub returns-then-not-grid-clause-value : goal.returns-then-not-grid-clause-value
returns-then-not-grid-clause-value c =
    let grid : c.args.grid ≡ false = c.if-not-grid.true in
    rw grid (sym (look_search (all_known c.args.span.now) (has_marker c.args.p.now c.args.span.now)
    (λ known. marker_known c.args.p.now _ c.args.span.now _ c.frame_marker.ensures.value (omega arith) (omega arith) c.is_marked-marked.ensures known ∙ c.if-not-marked.true)))

pub returns-then-marked-clause-value : goal.returns-then-marked-clause-value
returns-then-marked-clause-value c =
    let known : all_known c.args.span.now ≡ true = sym c.is_known.ensures ∙ c.if-not-is_known.false in
    let marked : has_marker c.args.p.now c.args.span.now ≡ true = marker_known c.args.p.now _ c.args.span.now _ c.frame_marker.ensures.value (omega arith) (omega arith) c.is_marked-marked.ensures known ∙ c.if-marked.true in
    rw (known, marked) refl

pub returns-else-marked-clause-value : goal.returns-else-marked-clause-value
returns-else-marked-clause-value c =
    let known : all_known c.args.span.now ≡ true = sym c.is_known.ensures ∙ c.if-not-is_known.false in
    let marked : has_marker c.args.p.now c.args.span.now ≡ false = marker_known c.args.p.now _ c.args.span.now _ c.frame_marker.ensures.value (omega arith) (omega arith) c.is_marked-marked.ensures known ∙ c.if-marked.false in
    rw (known, marked) refl
