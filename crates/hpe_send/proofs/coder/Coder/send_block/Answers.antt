use Rattle.std.proofs.Common.{◌≡◌, ◌++◌, ◌∙◌, refl, take, drop, length}
use Rattle.hpe_base.specs.Codeword.{codeword}
use Rattle.hpe_send.specs.CoderView.{coding}
use Rattle.hpe_send.proofs.Coded.{coded_word, put_back}
use Rattle.hpe_send.proofs.coder.Coder.send_block.Goals as goal

came : (g : _) (c : goal.After-send_word g) → take c.self.inside.word.len (c.encode_word.new.out ++ drop (length c.encode_word.new.out) c.self.inside.word.items) ≡ codeword c.self.inside.profile c.args.block.now
came g c = put_back c.self.inside.word.items c.encode_word.new.out c.self.inside.word.len (c.encode_word.auto.out ∙ c.deref_mut.ensures.len) ∙ c.encode_word.ensures.value

pub returns-clause-ok : goal.returns-clause-ok
returns-clause-ok g c = rw (← c.self.view_is) (λ n symbols start h.
    rw (came g c) at (c.send_word.ensures.ok n symbols start (coded_word (coding c.self.inside) _ n symbols start _ refl h)))

pub returns-clause-cut : goal.returns-clause-cut
returns-clause-cut g c = rw (← c.self.view_is) (λ n symbols start h.
    rw (came g c) at (c.send_word.ensures.cut n symbols start (coded_word (coding c.self.inside) _ n symbols start _ refl h)))
