use Rattle.std.proofs.Common.{◌∙◌, ap, sym, [], arith}
use Rattle.hpe_base.specs.Parameters.{Parameters, codeword_symbols}
use Rattle.hpe_send.proofs.Coded.{coded_none}
use Rattle.hpe_send.proofs.coder.Coder.new.Goals as goal

pub invariant_of-result : goal.invariant_of-result
invariant_of-result c = record {
  weaver = c.in_ok-weaver.ensures.profile ∙ sym c.copy.ensures;
  within = record { pushed = []; woven = c.in_ok-weaver.ensures.stands; below = λ k d h. absurd (omega arith) };
  word = c.in_ok-word.ensures ∙ (c.symbols.ensures ∙ ap codeword_symbols (c.order.ensures.value ∙ ap (λ (p : Parameters). p.order) (sym c.copy.ensures)));
}

pub returns-clause-stands : goal.returns-clause-stands
returns-clause-stands c = λ start. coded_none _ start (rw (← c.copy.ensures) at c.order.ensures.valid) c.in_ok-weaver.ensures.stands c.in_ok-outbox.ensures
