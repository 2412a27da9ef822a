use Rattle.std.proofs.Common.{◌≡◌, ◌++◌, ◌∙◌, List, ℕ, refl}
use Rattle.hpe_base.specs.ChannelInterleaver.{interleaved_channel}
use Rattle.hpe_weave.specs.Weaving.{HasWoven}
use Rattle.hpe_send.specs.CoderView.{coding}
use Rattle.hpe_send.proofs.Coded.{coded_ok, coded_err, put_back}
use Rattle.hpe_send.proofs.coder.Coder.send_word.Goals as goal

came : (g : _) (c : goal.After-send_period g) → c.deref.result.now ≡ c.weave_word.new.word
came g c = c.deref.ensures.value ∙ put_back c.self.inside.word.items c.weave_word.new.word c.self.inside.word.len (c.weave_word.auto.word ∙ c.deref_mut.ensures.len)

answers : (g : _) (c : goal.After-send_period g) → (symbols : List ℕ) → HasWoven c.self.inside.weaver symbols
    → interleaved_channel c.self.inside.profile (symbols ++ c.self.inside.word.items) ≡ interleaved_channel c.self.inside.profile symbols ++ c.deref.result.now
answers g c symbols was =
    rw (c.self.invariant.weaver, c.deref_mut.ensures.value, ← came g c) at (c.weave_word.ensures.answers symbols was)

pub returns-clause-ok : goal.returns-clause-ok
returns-clause-ok g c = rw (← c.self.view_is) (λ n symbols start h.
    coded_ok (coding c.self.inside) n symbols c.self.inside.word.items c.deref.result.now start _ h c.self.invariant.word (answers g c symbols h.woven)
    c.send_period.result _ _ refl (rw c.deref_mut.ensures.value at (c.weave_word.ensures.stands symbols h.woven)) (c.send_period.ensures.ok start _ h.pending))

pub returns-clause-cut : goal.returns-clause-cut
returns-clause-cut g c = rw (← c.self.view_is) (λ n symbols start h.
    coded_err (coding c.self.inside) n symbols c.self.inside.word.items c.deref.result.now start _ h c.self.invariant.word (answers g c symbols h.woven)
    c.send_period.result _ (c.send_period.ensures.cut start _ h.pending))
