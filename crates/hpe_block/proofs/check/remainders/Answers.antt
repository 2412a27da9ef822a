use Rattle.std.proofs.Common.{◌≡◌, ◌/◌, ◌%◌, ◌∙◌, arith, ap, sym, ℕ, get_or, set, below_more, get_or-set_same}
use Rattle.std.proofs.lemmas.Grind.{common_steps}
use Rattle.std.proofs.lemmas.List.{length-replicate, length-set}
use Rattle.hpe_base.specs.Bits.{bits_of}
use Rattle.hpe_block.specs.Division.{divided, divided_by}
use Rattle.hpe_block.proofs.Linear.{remainder_zero, remainder_half}
use Rattle.hpe_block.proofs.check.remainders.Goals as goal

pub loop-octet-init : goal.loop-octet-init
loop-octet-init c = (length-replicate {A = ℕ} 256 0, λ k h. let e : k ≡ 0 = omega arith in rw e (sym (remainder_zero c.args.check)))

pub loop-octet-preserved : goal.loop-octet-preserved
loop-octet-preserved c =
    let size = c.loop-octet.invariant.0 in
    let before = c.loop-octet.invariant.1 in
    let this : divided c.args.check (get_or c.loop-octet.table (c.loop-octet.octet / 2) 0) (c.loop-octet.octet % 2) ≡ divided_by c.args.check 0 (bits_of 8 c.loop-octet.octet) =
    ap (λ r. divided c.args.check r (c.loop-octet.octet % 2)) (before (c.loop-octet.octet / 2) (omega arith)) ∙ sym (remainder_half c.args.check c.loop-octet.octet (omega arith)) in (
      length-set c.loop-octet.table c.loop-octet.octet c.divide_bit.result ∙ size,
      below_more (λ k. get_or (set c.loop-octet.table c.loop-octet.octet c.divide_bit.result) k 0 ≡ divided_by c.args.check 0 (bits_of 8 k)) c.loop-octet.octet
          (λ k b. grind (arith, common_steps, before k))
          (get_or-set_same c.loop-octet.table c.loop-octet.octet c.divide_bit.result 0 (omega arith) ∙ (c.divide_bit.ensures ∙ this)),
    )
