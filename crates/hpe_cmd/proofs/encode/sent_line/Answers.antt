use Rattle.std.proofs.Common.{refl}
use Rattle.hpe_cmd.specs.EncodeRun.{sent_line}
use Rattle.hpe_cmd.proofs.encode.sent_line.Goals as goal

pub returns-clause-text : goal.returns-clause-text
unfolding sent_line
returns-clause-text c =
    rw (
      c.push_str.ensures.bytes,
      c.push_entry-3.ensures.text,
      c.push_entry-2.ensures.text,
      c.push_entry.ensures.text,
      c.new-line.ensures,
      c.sent_slots.ensures,
    ) refl
