use Rattle.std.proofs.Common.{◌≡◌, ◌∙◌, ap, refl, arith}
use Rattle.std.specs.Prelude.{replicate}
use Rattle.hpe_base.specs.Bits.{zeros}
use Rattle.hpe_base.specs.Parameters.{codeword_symbols}
use Rattle.hpe_send.specs.CoderView.{coding}
use Rattle.hpe_send.proofs.Coded.{coded_word}
use Rattle.hpe_send.proofs.coder.Coder.send_flush.Goals as goal

blank : (g : _) (c : goal.After-send_word g) → c.fill.new.self.items ≡ zeros (codeword_symbols c.self.inside.profile.order)
unfolding zeros
blank g c = c.fill.ensures.items (λ y e. e) ∙ ap (λ n. replicate n 0) (omega (arith, c.self.inside.word.ok, c.self.invariant.word))

pub returns-clause-ok : goal.returns-clause-ok
returns-clause-ok g c = rw (← c.self.view_is) (λ n symbols start h.
    rw (blank g c) at (c.send_word.ensures.ok n symbols start (coded_word (coding c.self.inside) _ n symbols start _ refl h)))

pub returns-clause-cut : goal.returns-clause-cut
returns-clause-cut g c = rw (← c.self.view_is) (λ n symbols start h.
    rw (blank g c) at (c.send_word.ensures.cut n symbols start (coded_word (coding c.self.inside) _ n symbols start _ refl h)))
