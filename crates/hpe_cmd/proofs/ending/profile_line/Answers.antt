use Rattle.std.proofs.Common.{refl}
use Rattle.hpe_cmd.specs.FaultLines.{profile_line}
use Rattle.hpe_cmd.proofs.ending.profile_line.Goals as goal

pub returns : goal.returns
unfolding profile_line
returns c =
    rw (
      c.push_str-4.ensures.bytes,
      c.push_str-3.ensures.bytes,
      c.push_str-2.ensures.bytes,
      c.push_str.ensures.bytes,
      c.new-line.ensures,
      ← c.cause_text.ensures.text,
    ) refl
