use Rattle.std.proofs.Common.{◌≡◌, ◌∙◌, ap, refl, if◌then◌else◌, ◌==◌}
use Rattle.std.specs.Io.KnownBytes.{append_known}
use Rattle.hpe_base.specs.Parameters.{Parameters}
use Rattle.hpe_base.specs.Slots.{flush_words}
use Rattle.hpe_send.specs.Chaining.{Chaining}
use Rattle.hpe_base.specs.Frames.{bit_stream}
use Rattle.hpe_io.proofs.Fronts.{grows-front}
use Rattle.hpe_io.proofs.Results.{on_err_of}
use Rattle.hpe_send.proofs.Chained.{flush_end, slots_all-front}
use Rattle.hpe_send.proofs.Pending.{grows_same}
use Rattle.hpe_send.proofs.chain.Chain.finish.Goals as goal

pub returns-in_err-pad-clause-cut : goal.returns-in_err-pad-clause-cut
returns-in_err-pad-clause-cut g c = λ fed start h all.
    on_err_of c.from_residual.result
    (grows-front start _ _ _ (slots_all-front c.args.self.now.coder.parameters fed _ c.args.words refl all h.pushed.coded.valid.range.repeat_low)
    (c.in_err-pad.ensures.cut (bit_stream c.args.self.now.coder.parameters fed) start h.pushed))

pub returns-in_err-finish-clause-cut : goal.returns-in_err-finish-clause-cut
returns-in_err-finish-clause-cut g c = λ fed start h all.
    let p : Parameters = c.args.self.now.coder.parameters in
    let same : c.self-2.inside.coder.parameters ≡ p = ap (λ (s : Chaining). s.coder.parameters) c.self-2.view_is ∙ c.pad.ensures.profile in
    let count : c.flush_periods-count.result ≡ (if c.args.words == 0 then 0 else flush_words p) = c.flush_periods-count.ensures ∙ ap (λ (q : Parameters). if c.args.words == 0 then 0 else flush_words q) (c.profile.ensures ∙ same) in
    let padded = rw (← c.self-2.view_is) at (c.in_ok-pad.ensures.ok (bit_stream p fed) start h.pushed) in
    on_err_of c.from_residual-in_err-finish.result
    (grows_same start _ _ _ (flush_end p fed c.flush_periods-count.result c.args.words count all c.self-2.inside.coder.parameters c.self-2.inside.coder.parameters same same) (c.in_err-finish.ensures.cut _ _ start padded))

pub returns-clause-ok : goal.returns-clause-ok
returns-clause-ok g c = λ fed start h all.
    let p : Parameters = c.args.self.now.coder.parameters in
    let same : c.self-2.inside.coder.parameters ≡ p = ap (λ (s : Chaining). s.coder.parameters) c.self-2.view_is ∙ c.pad.ensures.profile in
    let count : c.flush_periods-count.result ≡ (if c.args.words == 0 then 0 else flush_words p) = c.flush_periods-count.ensures ∙ ap (λ (q : Parameters). if c.args.words == 0 then 0 else flush_words q) (c.profile.ensures ∙ same) in
    let padded = rw (← c.self-2.view_is) at (c.in_ok-pad.ensures.ok (bit_stream p fed) start h.pushed) in
    c.in_ok-finish.ensures.ok _ _ start padded ∙ ap (append_known start) (flush_end p fed c.flush_periods-count.result c.args.words count all c.self-2.inside.coder.parameters c.self-2.inside.coder.parameters same same)
