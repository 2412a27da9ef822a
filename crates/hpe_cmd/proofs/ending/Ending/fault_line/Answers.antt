use Rattle.std.proofs.Common.{refl}
use Rattle.hpe_cmd.specs.FaultLines.{limit_line, ragged_line}
use Rattle.hpe_cmd.proofs.ending.Ending.fault_line.Goals as goal
use Rattle.hpe_cmd.proofs.ending.Ending.fault_line.Goals.{in-Usage, in-ShelfFault, in-ReadFault, in-WriteFault, in-NoMemory, in-TooLong, in-Ragged, in-ProfileTooLong, in-ProfileAbsent}

pub returns : goal.returns
unfolding limit_line ragged_line
returns c =
    let end = c.push_str-2.ensures.bytes in
    let new = c.new-line.ensures in
    elim c.match-self.branch [
      | in-Usage w ↦ rw (w.in-Usage.is, end, w.line-is, w.push_str.ensures.bytes, new) refl
      | in-ShelfFault w ↦ rw (w.in-ShelfFault.is, end, w.line-is, w.push_str-in-ShelfFault.ensures.bytes, new) refl
      | in-ReadFault w ↦ rw (w.in-ReadFault.is, end, w.line-is, w.push_str-in-ReadFault.ensures.bytes, new) refl
      | in-WriteFault w ↦ rw (w.in-WriteFault.is, end, w.line-is, w.push_str-in-WriteFault.ensures.bytes, new) refl
      | in-NoMemory w ↦ rw (w.in-NoMemory.is, end, w.line-is, w.push_str-in-NoMemory.ensures.bytes, new) refl
      | in-TooLong w ↦ rw (w.in-TooLong.is, end, w.line-is, w.push_entry.ensures.text, new) refl
      | in-Ragged w ↦ rw (w.in-Ragged.is, end, w.line-is, w.push_entry-in-Ragged.ensures.text, new) refl
      | in-ProfileTooLong w ↦
          rw (w.in-ProfileTooLong.is, end, w.line-is, w.push_str-in-ProfileTooLong.ensures.bytes, new) refl
      | in-ProfileAbsent w ↦
          rw (w.in-ProfileAbsent.is, end, w.line-is, w.push_str-in-ProfileAbsent.ensures.bytes, new) refl
    ]
