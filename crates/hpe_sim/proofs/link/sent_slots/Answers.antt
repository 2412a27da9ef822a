use Rattle.std.proofs.Common.{rules, ◌≡◌, ◌*◌, ◌^◌, ◌∙◌, ap, ap₂, Err, sym, length}
use Rattle.hpe_base.specs.Parameters.{Parameters}
use Rattle.hpe_base.specs.Slots.{slots_of}
use Rattle.hpe_send.specs.declared.sender.SendFault.TheVariants.{Write}
use Rattle.hpe_io.specs.Memory.{Supply}
use Rattle.hpe_sim.proofs.Sent.{never_full}
use Rattle.hpe_sim.proofs.link.sent_slots.Goals as goal

pub unreachable-requires : goal.unreachable-requires
unreachable-requires c =
    let wrote : c.in-Err-Write.field-0 ≡ Write = search rules in
    let failed : c.send-sent.result ≡ Err Write = c.in-Err-Write.is ∙ ap Err wrote in
    let h = c.send-sent.ensures in
    let same : c.in_ok-sender.sender ≡ c.args.p.now = c.in_ok-sender.ensures in
    let size : length (slots_of c.in_ok-sender.sender c.in-Ok.input.left) ≡ c.count_octets-width.result * c.args.slots =
    ap₂ (λ (q : Parameters) (s : Supply). length (slots_of q s.left)) same c.in-Ok.ensures ∙ c.requires.slots ∙ ap (λ w. w * c.args.slots) (sym c.count_octets-width.ensures.value) in
    never_full c.in_ok-sender.sender c.in-Ok.input.left c.send-sent.new.input.left (2 ^ 40) (c.count_octets-width.result * c.args.slots) c.in-Ok-new.output c.send-sent.new.output c.send-sent.result size
    (record {
      empty = search rules;
      none = search rules;
      size = search rules;
      mark = h.output.same_mark;
      full = c.bytes-written.ensures.full;
    }) failed h.write h.cut
