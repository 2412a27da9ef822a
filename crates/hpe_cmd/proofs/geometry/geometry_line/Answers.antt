use Rattle.std.proofs.Common.{refl}
use Rattle.hpe_cmd.specs.GeometryRun.{geometry_line}
use Rattle.hpe_cmd.proofs.geometry.geometry_line.Goals as goal

pub returns-clause-text : goal.returns-clause-text
unfolding geometry_line
returns-clause-text c =
    rw (
      c.push_str-3.ensures.bytes,
      c.push_entry-8.ensures.text,
      c.push_entry-7.ensures.text,
      c.push_entry-6.ensures.text,
      c.push_entry-5.ensures.text,
      c.push_entry-4.ensures.text,
      c.push_entry-3.ensures.text,
      c.push_entry-2.ensures.text,
      c.push_str-2.ensures.bytes,
      c.push_str.ensures.bytes,
      c.push_entry.ensures.text,
      c.new-line.ensures,
      c.rate_text.ensures.text,
      c.rate.ensures.value,
      c.slots.ensures,
      c.order.ensures.value,
      c.marker.ensures.value,
      c.geometry-measures.ensures.value,
    ) refl
